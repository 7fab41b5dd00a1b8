use Rattle.std.proofs.Common.{◌∙◌}
use Rattle.keep_loop.proofs.Rows.{row_is}
use Rattle.keep_loop.proofs.crc.CrcTable.row.Goals as goal

pub returns : goal.returns
returns c = c.index.ensures ∙ row_is c.args.self.now.rows.items c.args.byte c.index.result.now c.args.self.now.are c.requires

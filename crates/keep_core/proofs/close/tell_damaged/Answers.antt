use Rattle.keep_core.specs.Lines.{damaged_line}
use Rattle.keep_core.proofs.Telling.{line_told}
use Rattle.keep_core.proofs.close.tell_damaged.Goals as goal

pub returns : goal.returns
returns g c =
    line_told c.clear.new.self.items c.push_damaged-made.new.out.items c.as_slice.result.now (damaged_line c.args.object.now c.args.part) c.push_damaged-made.result c.tell.result c.clear.ensures.items c.push_damaged-made.ensures c.as_slice.ensures.value c.tell.ensures

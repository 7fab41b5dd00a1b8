use Rattle.std.proofs.Common.{◌≡◌}
use Rattle.keep_loop.specs.Crc.{crc_rows}
use Rattle.keep_loop.proofs.crc.CrcTable.new.Given as goal

abbrev pub invariant-loop-byte : goal.invariant-loop-byte
invariant-loop-byte l = l.rows.items ≡ crc_rows l.byte 0

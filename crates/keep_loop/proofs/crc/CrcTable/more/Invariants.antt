use Rattle.std.proofs.Common.{◌≡◌, drop}
use Rattle.keep_loop.specs.Crc.{crc_more}
use Rattle.keep_loop.proofs.crc.CrcTable.more.Given as goal

abbrev pub invariant-loop-byte : goal.invariant-loop-byte
invariant-loop-byte l = crc_more l.crc (drop l.byte-index l.bytes) ≡ crc_more l.fn.crc l.bytes

use Rattle.std.proofs.Common.{◌≡◌, ◌++◌, take}
use Rattle.keep_log.specs.Lines.{escapes}
use Rattle.keep_log.proofs.line.push_bytes.Given as goal

abbrev pub invariant-loop-byte : goal.invariant-loop-byte
invariant-loop-byte l = l.out.items ≡ l.initial.out.items ++ escapes (take l.byte-index l.bytes)

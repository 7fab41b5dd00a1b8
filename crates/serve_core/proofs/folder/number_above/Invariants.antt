use Rattle.std.proofs.Common.{◌<◌, ◌^◌, All, take}
use Rattle.serve_core.specs.Numbers.{IsFirstAbove}
use Rattle.serve_core.proofs.folder.number_above.Given as goal

abbrev pub invariant-loop-number : goal.invariant-loop-number
invariant-loop-number l = All (λ n. n < 2 ^ 63) l.numbers → IsFirstAbove (take l.number-index l.numbers) l.first

-- Stamps of a cut.
use Rattle.std.proofs.Common.{◌≤◌, List, length, arith}
use Rattle.std.proofs.lemmas.List.{length-map}
use Rattle.device_core.specs.declared.hand.Stamp.{Stamp}
use Rattle.page_core.specs.Cut.{AreCutLengths, lengths}
use Rattle.page_core.proofs.Cuts.{few}

-- files whose lengths are those of a cut are at most 8
pub few_stamps : (stamps : List Stamp) → AreCutLengths (lengths stamps) → length stamps ≤ 8
few_stamps stamps cut = omega (arith, few (lengths stamps) cut, length-map stamps (λ (s : Stamp). s.len))

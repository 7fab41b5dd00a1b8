-- Stamps in their row.
use Rattle.std.proofs.Common.{◌≡◌, ◌<◌, ◌≤◌, ◌-◌, List, ◌++◌, length, drop, replicate, refl, ap, ◌∙◌, arith, length-append}
use Rattle.std.proofs.lemmas.List.{drop-replicate, drop_at, length-replicate}
use Rattle.page_core.specs.Cut.{most_pages, no_stamp}
use Rattle.page_core.specs.PageLists.{IsKept}
use Rattle.device_core.specs.declared.hand.Stamp.{Stamp}

-- stamps written over the front of an empty row
pub kept : (stamps row : List Stamp) → row ≡ stamps ++ drop (length stamps) (replicate most_pages no_stamp) → 0 < length stamps → length stamps ≤ most_pages → IsKept (record { row = row; len = length stamps })
kept stamps row is some len =
    let pad : row ≡ stamps ++ replicate (most_pages - length stamps) no_stamp = is ∙ ap (λ (t : List Stamp). stamps ++ t) (drop-replicate (length stamps) most_pages no_stamp) in
    record {
      whole = rw pad (omega (arith, length-append stamps (replicate (most_pages - length stamps) no_stamp), length-replicate {A = Stamp} (most_pages - length stamps) no_stamp));
      some = some;
      len = len;
      rest = rw pad (drop_at stamps (replicate (most_pages - length stamps) no_stamp) (length stamps) refl);
    }

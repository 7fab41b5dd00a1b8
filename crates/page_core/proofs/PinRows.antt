-- Pins in their row.
use Rattle.std.proofs.Common.{◌≡◌, ◌≤◌, ◌-◌, List, ◌++◌, length, drop, replicate, refl, ap, ◌∙◌, arith, length-append}
use Rattle.std.proofs.lemmas.List.{drop-replicate, drop_at, length-replicate}
use Rattle.page_core.specs.Pins.{most_pins, no_pages, IsKept}
use Rattle.device_core.specs.declared.hand.Stamp.{Stamp}

-- page lists written over the front of an empty row
pub kept : (lists row : List (List Stamp)) → row ≡ lists ++ drop (length lists) (replicate most_pins no_pages) → length lists ≤ most_pins → IsKept (record { row = row; len = length lists })
kept lists row is len =
    let pad : row ≡ lists ++ replicate (most_pins - length lists) no_pages = is ∙ ap (λ (t : List (List Stamp)). lists ++ t) (drop-replicate (length lists) most_pins no_pages) in
    record {
      whole = rw pad (omega (arith, length-append lists (replicate (most_pins - length lists) no_pages), length-replicate {A = List Stamp} (most_pins - length lists) no_pages));
      len = len;
      rest = rw pad (drop_at lists (replicate (most_pins - length lists) no_pages) (length lists) refl);
    }

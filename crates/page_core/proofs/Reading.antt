-- What was read of a page, behind what was there.
use Rattle.std.proofs.Common.{◌≡◌, ℕ, ◌+◌, List, ◌++◌, length, take, drop, Some, sym, ap, ◌∙◌, arith}
use Rattle.std.proofs.Math.Seq.{take-append_seam}
use Rattle.std.proofs.lemmas.List.{take_all, take-append-drop, length-drop}
use Rattle.device_core.specs.declared.hand.Stamp.{Stamp}
use Rattle.device_core.specs.Device.{Assignment, Shows, front_of}
use Rattle.page_core.specs.Bytes.{IsPage}

-- bytes at the front of a file, as many as its stamp says, are its page
pub shows_page : (a : Assignment) (page : Stamp) (bytes : List ℕ) → Shows a page.number 0 bytes → length bytes ≡ page.len → IsPage a page bytes
shows_page a page bytes shows long = record {
  whole = record { file = shows.file; assigned = shows.assigned; long = omega (arith, shows.within, long) };
  there = ap (front_of page.len) shows.assigned ∙ ap Some (ap (λ k. take k shows.file) (sym long) ∙ shows.there);
}

module _ (page : Stamp) (old grown new zeros : List ℕ) (at n len : ℕ) (place : at ≡ length old) (end : n ≡ at + page.len) (is : grown ≡ take n old ++ zeros) (front : take at new ≡ take at grown) (same : length new ≡ length grown) (all : len ≡ length grown) (many : length grown ≡ n) where
  kept : grown ≡ old ++ zeros
  kept = is ∙ ap (λ (t : List ℕ). t ++ zeros) (take_all n old (omega (arith, place, end)))

  first : take at new ≡ old
  first = front ∙ ap (λ (t : List ℕ). take at t) kept ∙ ap (λ k. take k (old ++ zeros)) place ∙ take-append_seam old zeros

  -- the old bytes, and the page behind them
  pub behind : take len (new ++ drop (length new) grown) ≡ old ++ drop at new
  behind = ap (λ k. take k (new ++ drop (length new) grown)) (all ∙ sym same) ∙ take-append_seam new (drop (length new) grown) ∙ sym (take-append-drop at new) ∙ ap (λ (t : List ℕ). t ++ drop at new) first

  pub is_page : (a : Assignment) → Shows a page.number 0 (drop at new) → IsPage a page (drop at new)
  is_page a shows = shows_page a page (drop at new) shows (omega (arith, length-drop at new, same, many, end))

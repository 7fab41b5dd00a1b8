-- Places of entries by the numbers of their calls.
use Rattle.std.proofs.Common.{◌≡◌, ◌≢◌, ℕ, zero, suc, ◌+◌, ◌-◌, ◌<◌, ◌≤◌, inl, inr, Bool, true, false, not, ◌||◌, ◌==◌, List, [], ◌∷◌, ◌++◌, length, Option, Some, refl, sym, ◌∙◌, ap, subst, arith, length-append}
use Rattle.std.specs.Prelude.{slice_get, slice_set, unwrap_or}
use Rattle.std.specs.List.{list_any}
use Rattle.std.proofs.Math.ListN.{length-set}
use Rattle.std.proofs.lemmas.Bool.{eq-eqb}
use Rattle.std.proofs.lemmas.Bool.Decides.{eqb_tells}
use Rattle.page_core.specs.Lists.{Every}
use Rattle.page_core.specs.ObjectCalls.{Noted}
use Rattle.page_core.proofs.Lists.{Every-map, Every-snoc}
use Rattle.board_core.specs.Board.{Board}
use Rattle.board_core.specs.Sound.{IsSound, IsNoted}
use Rattle.board_core.proofs.Sound.{call_number}
use Rattle.board_core.proofs.Items.{get_more, get_set, get_front, get_last}
use Rattle.desk_core.specs.Kept.{IsPlaceOf, ArePlaces}

none_at : (k place : ℕ) → slice_get [] k ≡ Some place → ⊥
none_at k place is = absurd cc

-- without calls there are no places
pub no_places : (history : List Noted) (count : ℕ) (places : List ℕ) → count ≡ 0 → places ≡ [] → ArePlaces history count places
no_places history count places none empty = record {
  each = ap length empty ∙ sym none;
  at = λ k place is. absurd (none_at k place (subst (λ ps. slice_get ps k ≡ Some place) empty is));
}

-- a new call has no entry
pub places_joined : (history : List Noted) (count : ℕ) (places : List ℕ) → ArePlaces history count places → Every (λ e. e.number ≤ count) history → ArePlaces history (count + 1) (places ++ 0 ∷ [])
places_joined history count places h below = record {
  each = omega (arith, length-append places (0 ∷ []), h.each);
  at = λ k place is. elim (get_more places 0 k place is) [
    | inl there ↦ h.at k place there
    | inr new ↦ subst (IsPlaceOf history (suc k)) new.1 (Every-map (λ (e : Noted). e.number ≤ count) (λ e. e.number ≢ suc k) (λ e less same. absurd (omega (arith, less, same, new.0, h.each))) history below)
  ];
}

place_more : (history : List Noted) (e : Noted) (n place : ℕ) → e.number ≢ n → IsPlaceOf history n place → IsPlaceOf (history ++ e ∷ []) n place
place_more history e n zero other is = Every-snoc (λ (x : Noted). x.number ≢ n) history e is other
place_more history e n (suc k) other is = (is.0, get_front history (e ∷ []) k is.0 is.1, is.2)

place_last : (history : List Noted) (e : Noted) (n place : ℕ) → e.number ≡ n → place ≡ length history + 1 → IsPlaceOf (history ++ e ∷ []) n place
place_last history e n zero same is = absurd (omega (arith, is))
place_last history e n (suc k) same is = (e, subst (λ i. slice_get (history ++ e ∷ []) i ≡ Some e) (last (omega (arith, is))) (get_last history e), same)
  where
    last : length history ≡ k → length history ≡ k
    last h = h

-- a call that ended has the last entry
pub places_ended : (history : List Noted) (e : Noted) (count : ℕ) (places : List ℕ) (last : ℕ) → ArePlaces history count places → 0 < e.number → last ≡ length history + 1 → ArePlaces (history ++ e ∷ []) count (slice_set places (e.number - 1) last)
places_ended history e count places last h above is_last = record {
  each = length-set places (e.number - 1) last ∙ h.each;
  at = λ k place is. elim (get_set places (e.number - 1) last k place is) [
    | inl here ↦ place_last history e (suc k) place (omega (arith, here.0, above)) (sym here.1 ∙ is_last)
    | inr other ↦ place_more history e (suc k) place (λ same. other.0 (omega (arith, same))) (h.at k place other.1)
  ];
}

none_any : (history : List Noted) (n : ℕ) → Every (λ e. e.number ≢ n) history → list_any (λ (e : Noted). e.number == n) history ≡ false
none_any [] n none = refl
none_any (e ∷ history) n none = elim (eqb_tells e.number n) [
  | inl x ↦ absurd (none.0 x.1)
  | inr x ↦ ap (λ b. b || list_any (λ (y : Noted). y.number == n) history) x.0 ∙ none_any history n none.1
]

or_true : (b : Bool) → b || true ≡ true
or_true true = refl
or_true false = refl

some_any : (history : List Noted) (n k : ℕ) (e : Noted) → slice_get history k ≡ Some e → e.number ≡ n → list_any (λ (x : Noted). x.number == n) history ≡ true
some_any [] n k e is same = absurd cc
some_any (x ∷ history) n zero e is same =
    ap (λ b. b || list_any (λ (y : Noted). y.number == n) history) (eq-eqb x.number n (ap (λ (o : Option Noted). (unwrap_or o e).number) is ∙ same))
some_any (x ∷ history) n (suc k) e is same = ap (λ b. (x.number == n) || b) (some_any history n k e is same) ∙ or_true (x.number == n)

not_none : (k : ℕ) → (suc k == 0) ≡ false
not_none k = elim (eqb_tells (suc k) 0) [ inl x ↦ absurd (omega (arith, x.1)) | inr x ↦ x.0 ]

-- a place tells whether a call has finished
pub place_tells : (history : List Noted) (n place : ℕ) → IsPlaceOf history n place → list_any (λ (e : Noted). e.number == n) history ≡ not (place == 0)
place_tells history n zero is = none_any history n is
place_tells history n (suc k) is = some_any history n k is.0 is.1 is.2 ∙ sym (ap not (not_none k))

-- a number of no call has no entry
pub none_beyond : (history : List Noted) (n : ℕ) → Every (λ e. e.number ≢ n) history → list_any (λ (e : Noted). e.number == n) history ≡ false
none_beyond history n none = none_any history n none

-- the numbers of entries are numbers of calls
pub noted_below : (b : Board) → IsSound b → Every (λ e. e.number ≤ length b.calls) b.history
noted_below b h = Every-map (IsNoted b.calls) (λ e. e.number ≤ length b.calls) (λ e is. (call_number b.calls e.number is.call is.there).1) b.history h.told.noted

-- the entry at a place
pub place_entry : (history : List Noted) (n place : ℕ) → 0 < place → IsPlaceOf history n place → (e : Noted) × (slice_get history (place - 1) ≡ Some e) × (e.number ≡ n)
place_entry history n zero above is = absurd (omega (arith, above))
place_entry history n (suc k) above is = (is.0, subst (λ i. slice_get history i ≡ Some is.0) (omega arith) is.1, is.2)

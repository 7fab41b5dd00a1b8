-- What is called for a session that is gone ends the newest that it holds.
use Rattle.std.proofs.Common.{◌≡◌, ◌⊎◌, inl, inr, ℕ, zero, suc, ◌+◌, ◌-◌, ◌<◌, ◌≤◌, List, [], ◌∷◌, ◌++◌, length, Some, refl, sym, ap, subst, ◌∙◌, arith, get_or, take, drop}
use Rattle.std.specs.Prelude.{◌≢◌, slice_get, All}
use Rattle.std.proofs.lemmas.Bool.{cases_lt, cases_eq}
use Rattle.std.proofs.lemmas.Option.{slice_get_within, get_or_from_slice_get, same_Some}
use Rattle.value_core.specs.declared.datum.Datum.{Datum}
use Rattle.value_core.specs.declared.kind.Elem.{Elem}
use Rattle.guest_core.specs.Held.{HeldCall, Fits, NoneOwn, NoneFits, IsEnded, GivesOne}
use Rattle.guest_core.specs.Places.{IsNewest}
use Rattle.guest_core.specs.Undo.{taken_by, given_to, IsUndoOf}
use Rattle.guest_core.specs.Laws.{UndoGivesNewest}

-- what holds of all of some holds of each
at_place : (P : HeldCall → Type 0) (xs : List HeldCall) (k : ℕ) (x : HeldCall) → slice_get xs k ≡ Some x → All P xs → P x
at_place P xs k x e all = subst P (get_or_from_slice_get xs k x x e) (all k x (slice_get_within xs k x e))

-- what stands behind a place stands in the rest
behind : (xs : List HeldCall) (n j : ℕ) → slice_get (drop n xs) j ≡ slice_get xs (n + j)
behind xs zero j = ap (slice_get xs) (omega arith)
behind [] (suc n) j = refl
behind (x ∷ xs) (suc n) j =
    let more : suc n + j ≡ suc (n + j) = omega arith in
    behind xs n j ∙ ap (slice_get (x ∷ xs)) (sym more)

at_behind : (xs : List HeldCall) (n j k : ℕ) (x : HeldCall) → k ≡ n + j → slice_get xs k ≡ Some x → slice_get (drop n xs) j ≡ Some x
at_behind xs n j k x e is = behind xs n j ∙ ap (slice_get xs) (sym e) ∙ is

-- what is given fits what it was taken from
given_fits : (params : List (List ℕ × Elem)) (h : HeldCall) (arguments : List Datum) → arguments ≡ taken_by params h.values → Fits h.rule arguments h
given_fits [] h arguments e = record { rule = refl; values = λ some. absurd (some e) }
given_fits (p ∷ params) h arguments e = record { rule = refl; values = λ some. sym e }

-- the place of the one that is ended is that of the newest
same_place : (fits : HeldCall → Type 0) (session : ℕ) (held : List HeldCall) (k m : ℕ) (h : HeldCall) → IsNewest session held k h → fits h → IsEnded fits session held m → m ≡ k
same_place fits session held k m h newest fit is = elim is.first [
  | inl own ↦ (elim (cases_eq m k) [
    | inl e ↦ e
    | inr differ ↦ (elim (cases_lt m k) [
      | inl less ↦ absurd (at_place (λ x. fits x → x.session ≢ session) (drop (m + 1) held) (k - (m + 1)) h
          (at_behind held (m + 1) (k - (m + 1)) k h (omega (arith, less)) newest.there) own.1 fit newest.own)
      | inr more ↦ absurd (at_place (λ x. x.session ≢ session) (drop (k + 1) held) (m - (k + 1)) is.hold
          (at_behind held (k + 1) (m - (k + 1)) m is.hold (omega (arith, more, differ)) is.there) newest.newest own.0)
    ])
  ])
  | inr none ↦ absurd (at_place (λ x. fits x → x.session ≢ session) held k h newest.there none.0 fit newest.own)
]

pub undo_gives_newest : UndoGivesNewest
undo_gives_newest o holds held left session k op h arguments newest undo (inl x) =
    let fit = given_fits undo.form.params h arguments undo.given in
    let same = same_place (Fits h.rule arguments) session held k x.0 h newest fit x.1 in
    x.2 ∙ ap (λ n. take n held ++ drop (n + 1) held) same
undo_gives_newest o holds held left session k op h arguments newest undo (inr x) =
    let fit = given_fits undo.form.params h arguments undo.given in
    absurd (at_place (λ x. Fits h.rule arguments x → ⊥) held k h newest.there x.0 fit)

-- What was looked at, item by item.
use Rattle.std.proofs.Common.{◌≡◌, ℕ, zero, suc, ◌+◌, ◌≤◌, List, [], ◌∷◌, All, length, take, Some, refl, sym, ap, ◌∙◌, subst, add-one, arith}
use Rattle.std.specs.Prelude.{slice_get, unwrap_or}
use Rattle.std.proofs.lemmas.List.{length-map}
use Rattle.std.proofs.lemmas.List.Elements.{All-nil, All-cons}
use Rattle.value_core.specs.declared.datum.Datum.{Datum}
use Rattle.value_core.specs.Datum.{elem_of}
use Rattle.decl_core.specs.declared.object.Operation.{Operation}
use Rattle.apply_core.specs.Fits.{ArgumentsFit}
use Rattle.page_core.specs.Lists.{Every}
use Rattle.page_core.specs.ObjectCalls.{AcceptedCall}
use Rattle.board_core.specs.Board.{Board, call_at}
use Rattle.board_core.specs.Sound.{IsSound, IsMadeOf}

module _ {X : Type 0} (P : X → Type 0) where
  next_so : (xs : List X) (k : ℕ) → Every P (take k xs) → ((x : X) → slice_get xs k ≡ Some x → P x) → Every P (take (suc k) xs)
  next_so [] k every has = tt
  next_so (y ∷ ys) zero every has = (has y refl, tt)
  next_so (y ∷ ys) (suc k) every has = (every.0, next_so ys k every.1 has)

  -- one more was looked at, if there is one
  pub next : (xs : List X) (k : ℕ) → Every P (take k xs) → ((x : X) → slice_get xs k ≡ Some x → P x) → Every P (take (k + 1) xs)
  next xs k every has = subst (λ n. Every P (take n xs)) (sym (add-one k)) (next_so xs k every has)

  -- one more is this one
  pub next_is : (xs : List X) (k : ℕ) (y : X) → Every P (take k xs) → slice_get xs k ≡ Some y → P y → Every P (take (k + 1) xs)
  next_is xs k y every at has = next xs k every (λ x here. subst P (ap (λ o. unwrap_or o y) (sym at ∙ here)) has)

  -- so many are all of them
  pub are_all : (xs : List X) (n : ℕ) → length xs ≤ n → Every P (take n xs) → Every P xs
  are_all [] n few every = tt
  are_all (x ∷ xs) zero few every = absurd (omega (arith, few))
  are_all (x ∷ xs) (suc n) few every = (every.0, are_all xs n (omega (arith, few)) every.1)

  pub all_of : (xs : List X) → Every P xs → All P xs
  all_of [] every = All-nil P
  all_of (x ∷ xs) every = All-cons P x xs every.0 (all_of xs every.1)

every_at : {X : Type 0} (P : X → Type 0) (xs : List X) (k : ℕ) (x : X) → Every P xs → slice_get xs k ≡ Some x → P x
every_at P [] k x every is = absurd cc
every_at P (y ∷ ys) zero x every is = subst P (ap (λ o. unwrap_or o y) is) every.0
every_at P (y ∷ ys) (suc k) x every is = every_at P ys k x every.1 is

-- the arguments of a call of a sound board fit
pub fits_at : (b : Board) (n : ℕ) (c : AcceptedCall) → IsSound b → call_at b.calls n ≡ Some c → ArgumentsFit c.operation c.arguments
fits_at b zero c sound is = absurd cc
fits_at b (suc k) c sound is = (every_at (IsMadeOf b.object) b.calls k c sound.counted.made is).fits

-- a call that fits has an argument for each parameter
pub as_many : (o : Operation) (arguments : List Datum) → ArgumentsFit o arguments → length arguments ≡ length o.params.items
as_many o arguments fits = sym (length-map arguments elem_of) ∙ ap length fits ∙ length-map o.params.items (λ p. p.kind)

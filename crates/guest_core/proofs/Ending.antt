-- The held call that a call ends, and what is left.
use Rattle.std.proofs.Common.{◌≡◌, ◌⊎◌, inl, inr, ℕ, zero, suc, ◌+◌, ◌<◌, ◌≤◌, List, [], ◌∷◌, ◌++◌, length, Option, Some, refl, sym, ap, subst, ◌∙◌, arith, get_or, take, drop}
use Rattle.std.specs.Prelude.{◌≢◌, slice_get, All, remove}
use Rattle.std.proofs.lemmas.List.Elements.{All-cons}
use Rattle.word_core.specs.Events.{Called}
use Rattle.guest_core.specs.Held.{HeldCall, NoneOwn, NoneFits, Fits, IsEnded, GivesOne, GivesBy}
use Rattle.guest_core.specs.Places.{IsNewestOwn, IsOldest}

-- one more, from the end
at_front : {X : Type 0} (xs : List X) (k : ℕ) (x : X) → slice_get xs k ≡ Some x → drop k xs ≡ x ∷ drop (k + 1) xs
at_front [] k x e = absurd cc
at_front (y ∷ xs) zero x e = let is : y ≡ x = cc in ap (λ z. z ∷ xs) is
at_front (y ∷ xs) (suc k) x e = let more : suc k + 1 ≡ suc (k + 1) = omega arith in rw more (at_front xs k x e)

pub all_from : {X : Type 0} (P : X → Type 0) (xs : List X) (k : ℕ) (x : X) → slice_get xs k ≡ Some x → P x → All P (drop (k + 1) xs) → All P (drop k xs)
all_from P xs k x e one rest = subst (All P) (sym (at_front xs k x e)) (All-cons P x (drop (k + 1) xs) one rest)

-- the newest of its own is ended
pub own_ended : (fits : HeldCall → Type 0) (session : ℕ) (held : List HeldCall) (k : ℕ) → IsNewestOwn fits session held k → IsEnded fits session held k
own_ended fits session held k is = record { hold = is.hold; there = is.there; fit = is.fit; first = inl (is.own, is.newest) }

-- and where there is none the oldest
pub oldest_ended : (fits : HeldCall → Type 0) (session : ℕ) (held : List HeldCall) (k : ℕ) → NoneOwn fits session held → IsOldest fits held k → IsEnded fits session held k
oldest_ended fits session held k none is = record { hold = is.hold; there = is.there; fit = is.fit; first = inr (none, is.oldest) }

-- what is taken out of a front is taken out of the whole
pub out_of_front : {X : Type 0} (xs : List X) (count k : ℕ) → k < count → count ≤ length xs → remove xs k ≡ (take k (take count xs) ++ drop (k + 1) (take count xs)) ++ drop count xs
out_of_front [] count k less within = absurd (omega arith)
out_of_front (x ∷ xs) zero k less within = absurd (omega arith)
out_of_front (x ∷ xs) (suc count) zero less within = front xs count
  where
    front : {X : Type 0} (xs : List X) (count : ℕ) → xs ≡ take count xs ++ drop count xs
    front [] zero = refl
    front [] (suc count) = refl
    front (x ∷ xs) zero = refl
    front (x ∷ xs) (suc count) = ap (λ l. x ∷ l) (front xs count)
out_of_front (x ∷ xs) (suc count) (suc k) less within =
    let more : suc k + 1 ≡ suc (k + 1) = omega arith in
    rw more (ap (λ l. x ∷ l) (out_of_front xs count k (omega arith) (omega arith)))

within_take : {X : Type 0} (xs : List X) (count k : ℕ) (x : X) → slice_get (take count xs) k ≡ Some x → k < count
within_take xs zero k x e = absurd cc
within_take [] (suc count) k x e = absurd cc
within_take (y ∷ xs) (suc count) zero x e = omega arith
within_take (y ∷ xs) (suc count) (suc k) x e = omega (arith, within_take xs count k x e)

front_and_rest : {X : Type 0} (xs : List X) (count : ℕ) → xs ≡ take count xs ++ drop count xs
front_and_rest xs zero = refl
front_and_rest [] (suc count) = refl
front_and_rest (x ∷ xs) (suc count) = ap (λ l. x ∷ l) (front_and_rest xs count)

-- what is left of a front of what was held, and all behind that
abbrev pub IsLeft : (HeldCall → Type 0) → ℕ → ℕ → List HeldCall → List HeldCall → Type 0
IsLeft fits session count old new = (left : List HeldCall) × GivesOne fits session (take count old) left × (new ≡ left ++ drop count old)

pub left_one : (fits : HeldCall → Type 0) (session count k : ℕ) (old new : List HeldCall) → count ≤ length old → IsEnded fits session (take count old) k → new ≡ remove old k → IsLeft fits session count old new
left_one fits session count k old new within is gone =
    let less = within_take old count k is.hold is.there in (
      take k (take count old) ++ drop (k + 1) (take count old),
      inl (k, is, refl),
      gone ∙ out_of_front old count k less within,
    )

pub left_all : (fits : HeldCall → Type 0) (session count : ℕ) (old new : List HeldCall) → NoneFits fits (take count old) → new ≡ old → IsLeft fits session count old new
left_all fits session count old new none same = (take count old, inr (none, refl), same ∙ front_and_rest old count)

-- in front of what was put behind it stands what was there
pub front_is : {X : Type 0} (xs ys : List X) (n : ℕ) → n ≡ length xs → take n (xs ++ ys) ≡ xs
front_is [] ys n e = subst (λ k. take k ys ≡ []) (sym e) refl
front_is (x ∷ xs) ys zero e = absurd (omega (arith, e))
front_is (x ∷ xs) ys (suc n) e = ap (λ l. x ∷ l) (front_is xs ys n (omega (arith, e)))

pub back_is : {X : Type 0} (xs ys : List X) (n : ℕ) → n ≡ length xs → drop n (xs ++ ys) ≡ ys
back_is [] ys n e = subst (λ k. drop k ys ≡ ys) (sym e) refl
back_is (x ∷ xs) ys zero e = absurd (omega (arith, e))
back_is (x ∷ xs) ys (suc n) e = back_is xs ys n (omega (arith, e))

-- all of them
pub take_whole : {X : Type 0} (xs : List X) (n : ℕ) → length xs ≤ n → take n xs ≡ xs
take_whole [] zero h = refl
take_whole [] (suc n) h = refl
take_whole (x ∷ xs) zero h = absurd (omega (arith, h))
take_whole (x ∷ xs) (suc n) h = ap (λ l. x ∷ l) (take_whole xs n (omega (arith, h)))

-- what is held once a call has ended that ends this hold: what is left of what was held, and what the call holds itself
pub end_is : (found : Option ℕ) (c : Called) (rule count : ℕ) (old mid new more : List HeldCall) → found ≡ Some rule → count ≡ length old → mid ≡ old ++ more →
    IsLeft (Fits rule c.arguments) c.session count mid new → (left : List HeldCall) × GivesBy found c old left × (new ≡ left ++ more)
end_is found c rule count old mid new more is counted grown x = (
  x.0,
  subst (λ o. GivesBy o c old x.0) (sym is) (subst (λ h. GivesOne (Fits rule c.arguments) c.session h x.0) (ap (take count) grown ∙ front_is old more count counted) x.1),
  x.2 ∙ ap (λ d. x.0 ++ d) (ap (drop count) grown ∙ back_is old more count counted),
)

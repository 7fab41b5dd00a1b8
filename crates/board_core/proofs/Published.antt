-- Pins, after new ones were published.
use Rattle.std.proofs.Common.{◌≡◌, ◌≢◌, ℕ, zero, suc, ◌<◌, inl, inr, Bool, true, false, List, [], ◌∷◌, length, Some, None, refl, sym, ◌∙◌, ap, subst, arith}
use Rattle.std.specs.Prelude.{slice_get, slice_set, ◌==◌, if◌then◌else◌}
use Rattle.std.proofs.Math.ListN.{length-set}
use Rattle.std.proofs.lemmas.Bool.Decides.{eqb_tells}
use Rattle.device_core.specs.declared.hand.Stamp.{Stamp}
use Rattle.page_core.specs.PartPins.{PartPin, pin_at}
use Rattle.apply_core.specs.declared.reply.Reply.{Reply}
use Rattle.apply_core.specs.declared.reply.Reply.TheVariants.{Done, Refused, Failed}
use Rattle.page_core.specs.Outcomes.{if_done}
use Rattle.board_core.specs.Board.{published}

set_there : {X : Type 0} (xs : List X) (p : ℕ) (v : X) → p < length xs → slice_get (slice_set xs p v) p ≡ Some v
set_there [] p v within = absurd (omega arith)
set_there (x ∷ xs) zero v within = refl
set_there (x ∷ xs) (suc p) v within = set_there xs p v (omega arith)

set_elsewhere : {X : Type 0} (xs : List X) (p q : ℕ) (v : X) → (p ≡ q → ⊥) → slice_get (slice_set xs p v) q ≡ slice_get xs q
set_elsewhere [] p q v apart = refl
set_elsewhere (x ∷ xs) zero zero v apart = absurd (apart refl)
set_elsewhere (x ∷ xs) zero (suc q) v apart = refl
set_elsewhere (x ∷ xs) (suc p) zero v apart = refl
set_elsewhere (x ∷ xs) (suc p) (suc q) v apart = set_elsewhere xs p q v (λ e. apart (ap suc e))

pub length-published : (pins : List (List Stamp)) (news : List PartPin) → length (published pins news) ≡ length pins
length-published pins [] = refl
length-published pins (new ∷ news) = length-set (published pins news) new.part new.pages ∙ length-published pins news

there_by : (pins : List (List Stamp)) (new : PartPin) (news : List PartPin) (p : ℕ) (s : List Stamp) (b : Bool) → (new.part == p) ≡ b → (b ≡ true → new.part ≡ p) → (b ≡ false → new.part ≡ p → ⊥)
    → (pin_at news p ≡ Some s → slice_get (published pins news) p ≡ Some s) → p < length pins
    → (if b then Some new.pages else pin_at news p) ≡ Some s → slice_get (slice_set (published pins news) new.part new.pages) p ≡ Some s
there_by pins new news p s true test same other later within is =
    subst (λ q. slice_get (slice_set (published pins news) q new.pages) p ≡ Some s) (sym (same refl)) (set_there (published pins news) p new.pages (omega (arith, length-published pins news, within)) ∙ is)
there_by pins new news p s false test same other later within is = set_elsewhere (published pins news) new.part p new.pages (other refl) ∙ later is

-- the test tells whether two numbers are the same
test_true : (m n : ℕ) → (m == n) ≡ true → m ≡ n
test_true m n h = elim (eqb_tells m n) [ inl x ↦ x.1 | inr x ↦ absurd cc ]

test_false : (m n : ℕ) → (m == n) ≡ false → m ≡ n → ⊥
test_false m n h same = elim (eqb_tells m n) [ inl x ↦ absurd cc | inr x ↦ x.1 same ]

-- a part with a new pin has it
pub published_there : (pins : List (List Stamp)) (news : List PartPin) (p : ℕ) (s : List Stamp) → pin_at news p ≡ Some s → p < length pins → slice_get (published pins news) p ≡ Some s
published_there pins [] p s is within = absurd cc
published_there pins (new ∷ news) p s is within =
    there_by pins new news p s (new.part == p) refl (test_true new.part p) (test_false new.part p) (λ later. published_there pins news p s later within) within is

elsewhere_by : (pins : List (List Stamp)) (new : PartPin) (news : List PartPin) (p : ℕ) (b : Bool) → (b ≡ false → new.part ≡ p → ⊥)
    → (pin_at news p ≡ None → slice_get (published pins news) p ≡ slice_get pins p)
    → (if b then Some new.pages else pin_at news p) ≡ None → slice_get (slice_set (published pins news) new.part new.pages) p ≡ slice_get pins p
elsewhere_by pins new news p true other later is = absurd cc
elsewhere_by pins new news p false other later is = set_elsewhere (published pins news) new.part p new.pages (other refl) ∙ later is

-- another part has the pin that it had
pub published_elsewhere : (pins : List (List Stamp)) (news : List PartPin) (p : ℕ) → pin_at news p ≡ None → slice_get (published pins news) p ≡ slice_get pins p
published_elsewhere pins [] p is = refl
published_elsewhere pins (new ∷ news) p is =
    elsewhere_by pins new news p (new.part == p) (test_false new.part p) (published_elsewhere pins news p) is

-- a part with a new pin has one
pub has_pin : (news : List PartPin) (p : ℕ) (s : List Stamp) → pin_at news p ≡ Some s → pin_at news p ≢ None
has_pin news p s is none = absurd (let h : Some s ≡ None = sym is ∙ none in cc)

-- what is published once is published
pub done_twice : (reply : Reply) (news : List PartPin) → if_done reply (if_done reply news) ≡ if_done reply news
done_twice (Done r) news = refl
done_twice (Refused w) news = refl
done_twice (Failed f) news = refl

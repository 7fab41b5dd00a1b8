-- A session that is not busy has no open call.
use Rattle.std.proofs.Common.{◌≡◌, ℕ, inl, inr, Bool, true, false, ◌||◌, ◌==◌, List, [], ◌∷◌, refl, sym, ◌∙◌, ap}
use Rattle.std.specs.List.{list_any}
use Rattle.std.proofs.lemmas.Bool.{eq-eqb}
use Rattle.page_core.specs.Lists.{Among}
use Rattle.page_core.specs.ObjectCalls.{WaitingCall, RunningCall}
use Rattle.board_core.specs.Board.{Board}
use Rattle.board_core.specs.Answers.{is_busy}
use Rattle.board_core.specs.Sound.{IsOpen}
use Rattle.page_core.proofs.Lists.{true_false}

or_first : (a b : Bool) → a || b ≡ false → a ≡ false
or_first true b h = h
or_first false b h = refl

or_second : (a b : Bool) → a || b ≡ false → b ≡ false
or_second true b h = absurd (true_false true refl h)
or_second false b h = h

none_passes : {X : Type 0} (p : X → Bool) (xs : List X) (x : X) → list_any p xs ≡ false → Among x xs → p x ≡ true → ⊥
none_passes p [] x none h is = h
none_passes p (y ∷ xs) x none h is = elim h [
  | inl same ↦ true_false (p x) is (ap p (sym same) ∙ or_first (p y) (list_any p xs) none)
  | inr later ↦ none_passes p xs x (or_second (p y) (list_any p xs) none) later is
]

pub not_open : (b : Board) (session : ℕ) → is_busy b session ≡ false → (n : ℕ) → IsOpen b n session → ⊥
not_open b session free n (inl w) =
    none_passes (λ (x : WaitingCall). x.call.session == session) b.waiting w.0 (or_first _ _ free) w.1 (eq-eqb w.0.call.session session w.3)
not_open b session free n (inr r) =
    none_passes (λ (x : RunningCall). x.call.session == session) b.running r.0 (or_second _ _ free) r.1 (eq-eqb r.0.call.session session r.3)

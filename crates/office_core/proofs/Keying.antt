-- Calls under keys.
use Rattle.std.proofs.Common.{◌≡◌, ℕ, refl, sym, subst}
use Rattle.std.specs.Prelude.{Ok, Err}
use Rattle.board_core.specs.Board.{Board}
use Rattle.board_core.specs.Sound.{IsSound}
use Rattle.board_core.specs.Keys.{next_key}
use Rattle.guest_core.specs.declared.answer.SubmitFault.{SubmitFault}
use Rattle.guest_core.specs.declared.answer.KeyedFault.{KeyedFault}
use Rattle.guest_core.specs.declared.answer.KeyedFault.TheVariants.{Gone, BadKey, KeyReused, Submit}
use Rattle.board_core.specs.Answers.{Asked, IsGone, IsRefused}
use Rattle.board_core.specs.Keyed.{Finds, SubmitsKeyed}

-- a fault that a look at a key finds is that of a submission, which changes nothing
pub found_fault : (b : Board) (a : Asked) (key : ℕ) (fault : KeyedFault) → Finds b a key (Err fault) → SubmitsKeyed b a key (Err fault) b
found_fault b a key Gone is = (is, refl)
found_fault b a key BadKey is = (is.0, is.1, refl)
found_fault b a key KeyReused is = (is.0, is.1, refl)
found_fault b a key (Submit fault) is = absurd is

-- a board that a refused submission left as it was refuses it under the next key
pub refused_next : (b after : Board) (a : Asked) (fault : SubmitFault) → IsSound b → (IsGone b a.session → ⊥) → IsRefused b a fault → after ≡ b
    → IsSound after × SubmitsKeyed after a (next_key b.calls a.session) (Err (Submit fault)) after
refused_next b after a fault sound here refused same =
    subst (λ (x : Board). IsSound x × SubmitsKeyed x a (next_key b.calls a.session) (Err (Submit fault)) x) (sym same) (sound, (here, refl, refused, refl))

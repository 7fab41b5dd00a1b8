-- Calls under keys.
use Rattle.std.proofs.Common.{◌≡◌, ℕ, inl, inr, refl, sym, ◌∙◌, ap, subst, arith}
use Rattle.std.specs.Prelude.{Ok, Err}
use Rattle.std.proofs.lemmas.Option.{same_Some}
use Rattle.page_core.specs.ObjectCalls.{AcceptedCall}
use Rattle.board_core.specs.Board.{Board, call_at}
use Rattle.board_core.specs.Keys.{HasKey, next_key}
use Rattle.board_core.proofs.Keys.{key_below, key_one}
use Rattle.guest_core.specs.declared.answer.SubmitFault.TheVariants as faults
use Rattle.guest_core.specs.declared.answer.KeyedFault.TheVariants.{Gone, BadKey, KeyReused, Submit}
use Rattle.board_core.specs.declared.answer.Keyed.TheVariants.{New, Kept}
use Rattle.board_core.specs.Answers.{Asked}
use Rattle.board_core.specs.Keyed.{IsSameCall}
use Rattle.board_core.specs.KeyedLaws.{HasMade, KeptExactly, SubmitIsKeyed}

-- a key that has a call is not the next one
not_next : (b : Board) (a : Asked) (key : ℕ) → HasMade b a key → key ≡ next_key b.calls a.session → ⊥
not_next b a key made next = omega (arith, next, key_below b.calls a.session key made.0 made.1)

same_call : (calls : _) (session key m n : ℕ) (g : HasKey calls session key m) (h : HasKey calls session key n) → g.call ≡ h.call
same_call calls session key m n g h = same_Some g.call h.call (sym g.there ∙ ap (call_at calls) (key_one calls session key m n g h) ∙ h.there)

other_call : (a : Asked) (x y : AcceptedCall) → x ≡ y → (IsSameCall a y → ⊥) → IsSameCall a x → ⊥
other_call a x y same differ is = differ (subst (IsSameCall a) same is)

pub kept_exactly : KeptExactly
kept_exactly b after a key (Ok (New n)) is here = (λ made. not_next b a key made is.0, λ never. absurd never)
kept_exactly b after a key (Ok (Kept kept)) is here = (λ made. tt, λ told. (kept.number, is.1.has, is.1.same))
kept_exactly b after a key (Err Gone) is here = (λ made. here is.0, λ never. absurd never)
kept_exactly b after a key (Err BadKey) is here = (λ made. let below = key_below b.calls a.session key made.0 made.1 in elim is.1 [ inl none ↦ omega (arith, none, below) | inr past ↦ omega (arith, past, below) ], λ never. absurd never)
kept_exactly b after a key (Err KeyReused) is here = (λ made. other_call a made.1.call is.1.1.call (same_call b.calls a.session key made.0 is.1.0 made.1 is.1.1) is.1.2 made.2, λ never. absurd never)
kept_exactly b after a key (Err (Submit fault)) is here = (λ made. not_next b a key made is.1, λ never. absurd never)

pub submit_is_keyed : SubmitIsKeyed
submit_is_keyed b after a (Ok n) = (λ is. (refl, is.0, is.1), λ is. (is.1, is.2))
submit_is_keyed b after a (Err faults.Gone) = (λ is. (is.0, is.1), λ is. (is.0, is.1))
submit_is_keyed b after a (Err faults.UnknownOp) = (λ is. (is.0.0, refl, is.0, is.1), λ is. (is.2, is.3))
submit_is_keyed b after a (Err faults.BadArgs) = (λ is. (is.0.0, refl, is.0, is.1), λ is. (is.2, is.3))
submit_is_keyed b after a (Err faults.SessionBusy) = (λ is. (is.0.0, refl, is.0, is.1), λ is. (is.2, is.3))
submit_is_keyed b after a (Err faults.Full) = (λ is. (is.0.0, refl, is.0, is.1), λ is. (is.2, is.3))
submit_is_keyed b after a (Err faults.HistoryFull) = (λ is. (is.0.0, refl, is.0, is.1), λ is. (is.2, is.3))
submit_is_keyed b after a (Err faults.Memory) = (λ is. (is.0.1.here, refl, is.0, is.1), λ is. (is.2, is.3))

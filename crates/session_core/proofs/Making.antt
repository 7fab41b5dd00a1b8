-- The calls that a session makes.
use Rattle.std.proofs.Common.{◌≡◌, ◌∙◌, refl, ap, sym, subst, inl, inr, ℕ, List, [], ◌∷◌, ◌++◌, Option, Some, None}
use Rattle.std.specs.Prelude.{Ok}
use Rattle.value_core.specs.declared.datum.Datum.{Datum}
use Rattle.page_core.specs.declared.ticket.Ticket.{Ticket as Admitted}
use Rattle.page_core.specs.Tickets.{ticket_call}
use Rattle.page_core.specs.CallPins.{Call}
use Rattle.page_core.specs.declared.outcome.Outcome.{Outcome}
use Rattle.page_core.specs.Outcomes.{outcome_call, TellsSame}
use Rattle.board_core.specs.Board.{Board}
use Rattle.board_core.specs.Sound.{IsSound}
use Rattle.board_core.specs.Answers.{Asked, HasName}
use Rattle.board_core.specs.Keyed.{Finds}
use Rattle.office_core.specs.Slips.{Told, told_by}
use Rattle.session_core.specs.declared.entered.EnteredObject.{EnteredObject}
use Rattle.session_core.specs.Making.{IsNew, AddsOne, MakesOnce, MakesCall, asked_by}

-- what the desk has as the key of the next call is new
pub new_by : (a : Asked) (given : Option ℕ) (key : ℕ) (b : Board) → given ≡ Some key → IsSound b → Finds b a key (Ok None) → IsNew a given
new_by a given key b is sound finds = subst (IsNew a) (sym is) (b, sound, finds)

-- the receipt of a call that was performed is the one that came
pub one_made : (name : List ℕ) (args : List Datum) (t : Admitted) (o after : Outcome) (place session : ℕ) (old between new : List Told) → HasName name (ticket_call t).operation → (ticket_call t).arguments ≡ args
    → outcome_call o ≡ ticket_call t → TellsSame o after → between ≡ old → new ≡ between ++ told_by place session after ∷ [] → MakesOnce session name args old new
one_made name args t o after place session old between new named of run tells same kept =
    let call : outcome_call after ≡ ticket_call t = tells.call ∙ run in
    inr (record {
      receipt = told_by place session after;
      by = refl;
      of = record {
        named = subst (λ (c : Call). HasName name c.operation) (sym call) named;
        arguments = ap (λ (c : Call). c.arguments) call ∙ of;
      };
      behind = kept ∙ ap (λ (l : List Told). l ++ told_by place session after ∷ []) same;
    })

-- a call of a seat that is there, where it is to be made
pub call_made : (seat : Option EnteredObject) (e : EnteredObject) (key : Option ℕ) (name given : List ℕ) (args : List Datum) (old new : List Told) → seat ≡ Some e → given ≡ name → IsNew (asked_by e.seat.session given args) key
    → MakesOnce e.seat.session given args old new → MakesCall seat key name args old new
call_made seat e key name given args old new there same fresh (inl none) = inl none
call_made seat e key name given args old new there same fresh (inr one) =
    inr (e, there, subst (λ (n : List ℕ). IsNew (asked_by e.seat.session n args) key) same fresh, subst (λ (n : List ℕ). AddsOne e.seat.session n args old new) same one)

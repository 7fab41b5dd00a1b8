-- A session's work with its hand goes on.
use Rattle.std.proofs.Common.{◌≡◌, sym, subst, refl, inl, inr, List, []}
use Rattle.std.specs.Prelude.{Ok}
use Rattle.device_core.specs.declared.hand.Stamp.{Stamp}
use Rattle.device_core.specs.Made.{Made}
use Rattle.device_core.specs.Retired.{Left, RetiresAll, files_left}
use Rattle.page_core.specs.Calls.{AreMade}
use Rattle.page_core.specs.declared.ticket.Ticket.{Ticket as Admitted}
use Rattle.page_core.specs.Tickets.{ticket_call}
use Rattle.page_core.specs.CallPins.{Call}
use Rattle.page_core.specs.declared.outcome.Outcome.{Outcome}
use Rattle.page_core.specs.Outcomes.{outcome_call, outcome_reply, outcome_sealed}
use Rattle.run_core.specs.AtOnce.{RunsAtOnce}
use Rattle.board_core.specs.declared.answer.Finished.{Finished}
use Rattle.office_core.specs.declared.client_seat.Seat.{Seat}
use Rattle.office_core.specs.Seats.{CompletedIn}
use Rattle.session_core.specs.Leaving.{PutsOff}
use Rattle.session_core.specs.Working.{Runs, HandsOut, Works, WorksOn, begins, runs, retires, lets_go}

-- a ticket's call ran
pub ran_by : {H : Type 0} {makes : H → Made → H → Type 0} (t : Admitted) (o : Outcome) (old new : H) → outcome_call o ≡ ticket_call t
    → (calls : List Made) × AreMade makes old calls new × RunsAtOnce (ticket_call t) (outcome_reply o) (outcome_sealed o) calls → Runs makes o old new
ran_by t o old new same did = (did.0, did.1, subst (λ (c : Call). RunsAtOnce c (outcome_reply o) (outcome_sealed o) did.0) (sym same) did.2)

-- what an inside handed out
pub handed_out : (seat : Seat) (o after : Outcome) (f : Finished) → CompletedIn seat o (Ok f) after → HandsOut o f.free.items
handed_out seat o after f taken = record { seat = seat; finished = f; after = after; taken = taken; are = refl }

-- nothing was done
pub begun_with : {H : Type 0} (makes : H → Made → H → Type 0) (hand : H) (left : List Stamp) → left ≡ [] → Works makes hand hand left
begun_with makes hand left none = subst (Works makes hand hand) (sym none) begins

-- files were retired that were left
pub retired_on : {H : Type 0} (makes : H → Made → H → Type 0) (hand next : H) (left files after : List Stamp) (failed : List Left)
    → files ≡ left → RetiresAll makes hand files failed next → after ≡ files_left failed → WorksOn makes hand left next after
retired_on makes hand next left files after failed same all are first was =
    retires hand next left after was (failed, subst (λ (fs : List Stamp). RetiresAll makes hand fs failed next) same all, are)

-- a call ran, its outcome was taken, and what was free then is left, or was retired
pub worked_on : {H : Type 0} (makes : H → Made → H → Type 0) (old between ran last : H) (left kept free after : List Stamp) (o : Outcome)
    → WorksOn makes old left between kept → Runs makes o between ran → HandsOut o free → PutsOff makes ran free kept after last → WorksOn makes old left last after
worked_on {H = H} makes old between ran last left kept free after o on did out (inl put) first was =
    subst (λ (h : H). Works makes first h after) (sym put.0) (subst (Works makes first ran) (sym put.1) (runs between ran kept free o (on first was) did out))
worked_on makes old between ran last left kept free after o on did out (inr gone) first was =
    subst (Works makes first last) (sym gone.0) (lets_go ran last kept free gone.1.0 (runs between ran kept free o (on first was) did out) gone.1.1)

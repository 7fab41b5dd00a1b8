use Rattle.std.proofs.Common.{◌≡◌, ◌∙◌, ℕ, true, false, List, Option, Some, None, sym, ap, subst}
use Rattle.std.specs.Prelude.{slice_get, slice_set, IfSome, IfNone}
use Rattle.std.proofs.lemmas.Option.{slice_get-get_or}
use Rattle.page_core.proofs.ListBytes.{some_same}
use Rattle.page_core.specs.declared.ticket.Ticket.{Ticket}
use Rattle.page_core.specs.CallPins.{call_of}
use Rattle.page_core.specs.Tickets.{ticket_call}
use Rattle.page_core.specs.ObjectCalls.{RunningCall}
use Rattle.desk_core.proofs.roster.ticket_at.Goals as goal

module _ (items : List RunningCall) (place : ℕ) (x : RunningCall) (there : slice_get items place ≡ Some x) where
  if_given : (o : Option Ticket) → IfSome o (λ t. (x.taken ≡ false) × (ticket_call t ≡ call_of x.number x.call.operation x.call.arguments x.pins))
      → IfSome o (λ t. (r : RunningCall) → slice_get items place ≡ Some r → (r.taken ≡ false) × (ticket_call t ≡ call_of r.number r.call.operation r.call.arguments r.pins))
  if_given None h = tt
  if_given (Some t) h = λ r is.
      subst (λ (y : RunningCall). (y.taken ≡ false) × (ticket_call t ≡ call_of y.number y.call.operation y.call.arguments y.pins)) (some_same (sym there ∙ is)) h

  if_not : (o : Option Ticket) → IfNone o (x.taken ≡ true) → IfNone o ((r : RunningCall) → slice_get items place ≡ Some r → r.taken ≡ true)
  if_not None h = λ r is. subst (λ (y : RunningCall). y.taken ≡ true) (some_same (sym there ∙ is)) h
  if_not (Some t) h = tt

pub ticket-requires-clause-pinned : goal.ticket-requires-clause-pinned
ticket-requires-clause-pinned c =
    let there = slice_get-get_or c.args.running.now.items c.args.place c.index_mut.result.now c.requires.place ∙ ap Some (sym c.index_mut.ensures.value) in
    (c.requires.pins c.index_mut.result.now there).1

pub returns-clause-some : goal.returns-clause-some
returns-clause-some c =
    let there = slice_get-get_or c.args.running.now.items c.args.place c.index_mut.result.now c.requires.place ∙ ap Some (sym c.index_mut.ensures.value) in
    if_given c.args.running.now.items c.args.place c.index_mut.result.now there c.ticket.result c.ticket.ensures.some

pub returns-clause-none : goal.returns-clause-none
returns-clause-none c =
    let there = slice_get-get_or c.args.running.now.items c.args.place c.index_mut.result.now c.requires.place ∙ ap Some (sym c.index_mut.ensures.value) in
    if_not c.args.running.now.items c.args.place c.index_mut.result.now there c.ticket.result c.ticket.ensures.none

pub returns-clause-items : goal.returns-clause-items
returns-clause-items c = λ r is.
    let there = slice_get-get_or c.args.running.now.items c.args.place c.index_mut.result.now c.requires.place ∙ ap Some (sym c.index_mut.ensures.value) in
    let ticked : RunningCall → RunningCall = λ x. record { number = x.number; call = x.call; pins = x.pins; taken = true } in
    ap (λ (x : RunningCall). slice_set c.args.running.now.items c.args.place x) (c.ticket.ensures.taken ∙ ap ticked (some_same (sym there ∙ is)))

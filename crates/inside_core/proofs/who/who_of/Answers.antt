use Rattle.std.proofs.Common.{◌≡◌, ◌+◌, ◌∙◌, ap, subst, ℕ, List, [], ◌++◌, length, take}
use Rattle.client_core.specs.declared.client.OpenObject.{OpenObject}
use Rattle.std.specs.Prelude.{Option, option_map}
use Rattle.client_core.specs.Holding.{Holding}
use Rattle.stuck_core.specs.Who.{who_line}
use Rattle.client_core.specs.ToldInside.{Crowd, last_told, waiting_in}
use Rattle.inside_core.specs.Adds.{crowd_of, AddsSeats, AddsWaits, AddsHeldBy}
use Rattle.inside_core.proofs.Adding.{who_is}
use Rattle.inside_core.proofs.who.who_of.Goals as goal

pub returns : goal.returns
returns c =
    let all : List (ℕ × OpenObject) = c.in_ok-all.all.items in
    let crowd : Crowd = crowd_of c.args.clients.now c.args.whom in
    let holding : Option Holding = option_map (λ h. h.now) c.args.holding in
    let few : c.told-seats.result.now ≡ take 256 all = c.told-seats.ensures ∙ ap (take 256) c.deref.ensures.value in
    let last : c.last_told-last.result ≡ last_told all = c.last_told-last.ensures ∙ ap last_told c.deref-2.ensures.value in
    let rows : c.in_ok-rows.rows ≡ length (take 256 all) + c.in_ok-calls.calls = c.in_ok-rows.ensures ∙ ap (λ (l : List (ℕ × OpenObject)). length l + c.in_ok-calls.calls) few in
    who_is crowd c.args.object.now holding c.args.whom.from all c.in_ok-calls.calls c.in_ok-kept.kept c.in_ok-count.count c.push_seats.new.out.items
    c.push_calls.new.out.items c.push_held_by.new.out.items c.push_who.new.out.items c.extend_from_slice.new.self.items c.in_ok-all.ensures
    (subst (λ (l : List (ℕ × OpenObject)). AddsSeats crowd l [] c.push_seats.new.out.items) few
    (subst (λ l. AddsSeats crowd c.told-seats.result.now l c.push_seats.new.out.items) c.in_ok-lines.ensures.items c.in_ok-push_seats.ensures))
    (subst
    (λ (l : List (ℕ × OpenObject)). AddsWaits crowd l c.args.object.now (waiting_in c.args.whom.from (last_told all) c.args.object.now.hall.waiting) c.in_ok-calls.calls c.push_seats.new.out.items c.push_calls.new.out.items)
    few
    (subst
    (λ o. AddsWaits crowd c.told-seats.result.now c.args.object.now (waiting_in c.args.whom.from o c.args.object.now.hall.waiting) c.in_ok-calls.calls c.push_seats.new.out.items c.push_calls.new.out.items)
    last c.in_ok-calls.ensures))
    (subst (λ l. AddsHeldBy c.args.whom.second c.args.object.now c.args.whom.from l holding c.in_ok-kept.kept c.push_calls.new.out.items c.push_held_by.new.out.items)
    last c.in_ok-kept.ensures)
    (c.in_ok-count.ensures ∙ ap (λ n. n + c.in_ok-kept.kept) rows)
    (c.in_ok-push_who.ensures ∙ ap (λ l. l ++ who_line c.in_ok-count.count) c.in_ok-out.ensures.items)
    (c.in_ok-extend_from_slice.ensures.items ∙ ap (λ l. c.push_who.new.out.items ++ l) c.deref-3.ensures.value)

use Rattle.std.proofs.Common.{sym, ap, ◌∙◌, subst, refl}
use Rattle.std.specs.Prelude.{All}
use Rattle.std.proofs.lemmas.List.Elements.{All-push}
use Rattle.live_core.specs.Calls.{seat_of}
use Rattle.client_core.specs.declared.holder.Holder.{Holder}
use Rattle.client_core.specs.Start.{IsAmong, IsGoneBy}
use Rattle.client_core.proofs.Starting.{among_here, among_more}
use Rattle.client_core.proofs.start.go_one.Goals as goal

pub returns-clause-gone : goal.returns-clause-gone
returns-clause-gone c = λ all k there was.
    let is = IsGoneBy c.args.hosted.now.guests all c.args.second c.args.away in
    let one : Holder = record { session = c.seat_of-session.result; is_named = c.has_name-is_named.result; when = c.due_for-when.result; pause = 1; since = c.args.second } in
    subst (λ xs. All is xs) (sym c.in_ok-push.ensures.items) (All-push is c.args.gone.now.items one was (record {
      holds = (k, c.args.held.now, there, c.seat_of-session.ensures ∙ ap seat_of c.session.ensures);
      named = c.has_name-is_named.ensures.yes;
      nameless = c.has_name-is_named.ensures.no;
      when = c.due_for-when.ensures;
      pause = refl;
      since = refl;
    }))

pub returns-clause-among : goal.returns-clause-among
returns-clause-among c =
    let one : Holder = record { session = c.seat_of-session.result; is_named = c.has_name-is_named.result; when = c.due_for-when.result; pause = 1; since = c.args.second } in
    subst (λ xs. IsAmong xs c.args.held.now) (sym c.in_ok-push.ensures.items) (among_here c.args.gone.now.items c.args.held.now one (c.seat_of-session.ensures ∙ ap seat_of c.session.ensures))

pub returns-clause-more : goal.returns-clause-more
returns-clause-more c = λ d is.
    let one : Holder = record { session = c.seat_of-session.result; is_named = c.has_name-is_named.result; when = c.due_for-when.result; pause = 1; since = c.args.second } in
    subst (λ xs. IsAmong xs d) (sym c.in_ok-push.ensures.items) (among_more c.args.gone.now.items d one is)

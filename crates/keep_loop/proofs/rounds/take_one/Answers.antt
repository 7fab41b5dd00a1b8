use Rattle.keep_loop.specs.Epochs.{rules_of}
use Rattle.std.proofs.Common.{◌≤◌, subst, eqb-true}
use Rattle.keep_loop.specs.declared.served.Note.TheVariants.{Joins}
use Rattle.keep_loop.specs.Seen.Happened.{Noticed}
use Rattle.keep_loop.proofs.Kept.{keeps_event, fails_note, on_err}
use Rattle.keep_loop.proofs.rounds.take_one.Goals as goal

pub returns-in_err-joined-in-Some-clause-err : goal.returns-in_err-joined-in-Some-clause-err
returns-in_err-joined-in-Some-clause-err g c =
    on_err c.from_residual.result (fails_note (rules_of g.O.Served.gives g.O.Served.fronts) (Joins c.in-Some.who) (g.W.Outside.seen c.args.outside.now) (g.W.Outside.seen c.accept.new.self) c.args.keep.now
    (c.accept.ensures.taken c.if-not-accept.false) (λ k is. subst (λ n. c.args.keep.now.base ≤ n) (eqb-true c.in-Some.who k is) c.in-Some.ensures.from))

pub returns-in_ok-joined-in-Some-clause-ok : goal.returns-in_ok-joined-in-Some-clause-ok
returns-in_ok-joined-in-Some-clause-ok g c =
    keeps_event (rules_of g.O.Served.gives g.O.Served.fronts) (Noticed (Joins c.in-Some.who)) (g.W.Outside.seen c.args.outside.now) (g.W.Outside.seen c.accept.new.self) c.args.keep.now c.joined.new.self
    (c.accept.ensures.taken c.if-not-accept.false) c.in_ok-joined-in-Some.ensures.stands

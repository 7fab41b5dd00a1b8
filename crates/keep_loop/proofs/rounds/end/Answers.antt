use Rattle.keep_loop.specs.Epochs.{rules_of}
use Rattle.std.proofs.Common.{sym, true≢false}
use Rattle.keep_loop.specs.declared.served.Note.TheVariants.{Ends}
use Rattle.keep_loop.specs.Seen.Happened.{Noticed}
use Rattle.keep_loop.proofs.Kept.{keeps_event, fails_note, on_err}
use Rattle.keep_loop.proofs.rounds.end.Goals as goal

pub returns-in_err-noted-clause-err : goal.returns-in_err-noted-clause-err
returns-in_err-noted-clause-err g c =
    on_err c.from_residual.result (fails_note (rules_of g.O.Served.gives g.O.Served.fronts) Ends (g.W.Outside.seen c.args.outside.now) (g.W.Outside.seen c.ends.new.self) c.args.keep.now (c.ends.ensures.ends c.if-not-ends.false)
    (λ k is. absurd (true≢false (sym is))))

pub returns-clause-ok : goal.returns-clause-ok
returns-clause-ok g c =
    keeps_event (rules_of g.O.Served.gives g.O.Served.fronts) (Noticed Ends) (g.W.Outside.seen c.args.outside.now) (g.W.Outside.seen c.ends.new.self) c.args.keep.now c.noted.new.self (c.ends.ensures.ends c.if-not-ends.false)
    c.in_ok-noted.ensures.stands

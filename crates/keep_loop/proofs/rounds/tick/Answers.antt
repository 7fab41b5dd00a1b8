use Rattle.keep_loop.specs.Epochs.{rules_of}
use Rattle.std.proofs.Common.{sym, true≢false}
use Rattle.keep_loop.specs.declared.served.Note.TheVariants.{Ticks}
use Rattle.keep_loop.specs.Seen.Happened.{Noticed}
use Rattle.keep_loop.proofs.Kept.{keeps_event, fails_note, on_err}
use Rattle.keep_loop.proofs.rounds.tick.Goals as goal

pub returns-in_err-noted-in-Some-clause-err : goal.returns-in_err-noted-in-Some-clause-err
returns-in_err-noted-in-Some-clause-err g c =
    on_err c.from_residual.result (fails_note (rules_of g.O.Served.gives g.O.Served.fronts) (Ticks c.in-Some.time) (g.W.Outside.seen c.args.outside.now) (g.W.Outside.seen c.tick.new.self) c.args.keep.now c.in-Some.ensures.ticks
    (λ k is. absurd (true≢false (sym is))))

pub returns-in_ok-noted-in-Some-clause-ok : goal.returns-in_ok-noted-in-Some-clause-ok
returns-in_ok-noted-in-Some-clause-ok g c =
    keeps_event (rules_of g.O.Served.gives g.O.Served.fronts) (Noticed (Ticks c.in-Some.time)) (g.W.Outside.seen c.args.outside.now) (g.W.Outside.seen c.tick.new.self) c.args.keep.now c.noted.new.self c.in-Some.ensures.ticks
    c.in_ok-noted-in-Some.ensures.stands

use Rattle.keep_loop.specs.Epochs.{rules_of}
use Rattle.std.proofs.Common.{refl, sym, true≢false}
use Rattle.keep_loop.specs.declared.served.Note.TheVariants.{Leaves}
use Rattle.keep_loop.specs.Seen.Happened.{Noticed}
use Rattle.keep_loop.proofs.Kept.{keeps_quiet, keeps_event, keeps_then, fails_then, fails_note, on_err}
use Rattle.keep_loop.proofs.rounds.part_one.Goals as goal

pub returns-in_err-left-in-Some-clause-err : goal.returns-in_err-left-in-Some-clause-err
returns-in_err-left-in-Some-clause-err g c =
    on_err c.from_residual.result (fails_then (rules_of g.O.Served.gives g.O.Served.fronts) (g.W.Outside.seen c.args.outside.now) (g.W.Outside.seen c.args.outside.now) (g.W.Outside.seen c.leave.new.self) c.args.keep.now c.next_quit.new.self
    (keeps_quiet (rules_of g.O.Served.gives g.O.Served.fronts) (g.W.Outside.seen c.args.outside.now) (g.W.Outside.seen c.args.outside.now) c.args.keep.now c.next_quit.new.self refl c.next_quit.ensures.stands)
    (fails_note (rules_of g.O.Served.gives g.O.Served.fronts) (Leaves c.in-Some.who) (g.W.Outside.seen c.args.outside.now) (g.W.Outside.seen c.leave.new.self) c.next_quit.new.self c.leave.ensures (λ k is. absurd (true≢false (sym is)))))

pub returns-in_ok-left-in-Some-clause-ok : goal.returns-in_ok-left-in-Some-clause-ok
returns-in_ok-left-in-Some-clause-ok g c =
    keeps_then (rules_of g.O.Served.gives g.O.Served.fronts) (g.W.Outside.seen c.args.outside.now) (g.W.Outside.seen c.args.outside.now) (g.W.Outside.seen c.leave.new.self) c.args.keep.now c.next_quit.new.self c.left.new.self
    (keeps_quiet (rules_of g.O.Served.gives g.O.Served.fronts) (g.W.Outside.seen c.args.outside.now) (g.W.Outside.seen c.args.outside.now) c.args.keep.now c.next_quit.new.self refl c.next_quit.ensures.stands)
    (keeps_event (rules_of g.O.Served.gives g.O.Served.fronts) (Noticed (Leaves c.in-Some.who)) (g.W.Outside.seen c.args.outside.now) (g.W.Outside.seen c.leave.new.self) c.next_quit.new.self c.left.new.self c.leave.ensures
    c.in_ok-left-in-Some.ensures.stands)

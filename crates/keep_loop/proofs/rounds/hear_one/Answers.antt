use Rattle.keep_loop.specs.Epochs.{rules_of}
use Rattle.std.proofs.Common.{◌∷◌, refl, subst}
use Rattle.keep_loop.specs.Seen.{read_of}
use Rattle.keep_loop.specs.Stands.{Stands}
use Rattle.keep_loop.proofs.Kept.{keeps_quiet, keeps_event, keeps_then, fails_then, fails_read, on_err}
use Rattle.keep_loop.proofs.rounds.hear_one.Goals as goal

pub returns-in_err-came-clause-err : goal.returns-in_err-came-clause-err
returns-in_err-came-clause-err g c =
    on_err _ (fails_then (rules_of g.O.Served.gives g.O.Served.fronts) (g.W.Outside.seen c.args.outside.now) (g.W.Outside.seen c.args.outside.now) (g.W.Outside.seen c.read.new.self) c.args.keep.now c.pauses.new.self
    (keeps_quiet (rules_of g.O.Served.gives g.O.Served.fronts) (g.W.Outside.seen c.args.outside.now) (g.W.Outside.seen c.args.outside.now) c.args.keep.now c.pauses.new.self refl c.in_ok-pauses.ensures.stands)
    (fails_read (rules_of g.O.Served.gives g.O.Served.fronts) c.args.who c.read.new.piece.items c.in_ok-read.read (g.W.Outside.seen c.args.outside.now) (g.W.Outside.seen c.read.new.self) c.pauses.new.self c.in_ok-read.ensures.ok
    (c.is_to_read.ensures.hears c.if-not-is_to_read.false)))

pub returns-clause-ok : goal.returns-clause-ok
returns-clause-ok g c =
    keeps_then (rules_of g.O.Served.gives g.O.Served.fronts) (g.W.Outside.seen c.args.outside.now) (g.W.Outside.seen c.args.outside.now) (g.W.Outside.seen c.read.new.self) c.args.keep.now c.pauses.new.self c.came.new.self
    (keeps_quiet (rules_of g.O.Served.gives g.O.Served.fronts) (g.W.Outside.seen c.args.outside.now) (g.W.Outside.seen c.args.outside.now) c.args.keep.now c.pauses.new.self refl c.in_ok-pauses.ensures.stands)
    (keeps_event (rules_of g.O.Served.gives g.O.Served.fronts) (read_of c.args.who c.read.new.piece.items c.in_ok-read.read) (g.W.Outside.seen c.args.outside.now) (g.W.Outside.seen c.read.new.self) c.pauses.new.self c.came.new.self
    c.in_ok-read.ensures.ok
    (λ first limits seen s. subst (λ l. Stands g.O.Served.gives first limits (read_of c.args.who l c.in_ok-read.read ∷ seen) c.came.new.self) c.as_slice.ensures.value (c.in_ok-came.ensures.stands first limits seen s)))

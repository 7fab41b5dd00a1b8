use Rattle.std.proofs.Common.{◌≡◌, ◌∙◌, ◌+◌, ap, sym, subst, arith, get_or}
use Rattle.std.specs.Prelude.{take}
use Rattle.std.proofs.lemmas.List.{take_more, take_all}
use Rattle.path_count.specs.Stands.{StandsFor, started_calls}
use Rattle.path_count.specs.declared.past.PastEvent.TheVariants as past
use Rattle.path_count.specs.Past.{events_of, with_event}
use Rattle.path_count.specs.Numbers.{IsNumbered}
use Rattle.path_count.proofs.Behind.{before_of, events_with, numbered_with, long_of, quiet_of}
use Rattle.path_count.proofs.past.counters_behind.Goals as goal

pub returns-in_err-counters-clause-before : goal.returns-in_err-counters-clause-before
returns-in_err-counters-clause-before c = before_of c.args.past.now

pub returns-then-not-take-clause-before : goal.returns-then-not-take-clause-before
returns-then-not-take-clause-before c = before_of c.args.past.now

pub returns-then-past-starts-clause-before : goal.returns-then-past-starts-clause-before
returns-then-past-starts-clause-before c = before_of c.args.past.now

pub returns-clause-before : goal.returns-clause-before
returns-clause-before c = before_of c.args.past.now

pub loop-place-preserved : goal.loop-place-preserved
loop-place-preserved c =
    let place = c.loop-place.place in
    let all = c.args.past.now in
    let event = get_or all place (past.Start 0) in
    let before = events_of (take place all) in
    let more : events_of (take (place + 1) all) ≡ with_event before event = ap events_of (take_more all place (past.Start 0) (omega arith)) ∙ events_with (take place all) event in (
      subst (λ t. StandsFor c.take.new.counters c.args.n_ops c.args.paths.now t) (sym more)
          (c.take.ensures c.if-not-take.false c.args.n_ops c.args.paths.now before c.loop-place.invariant.0 c.loop-place.invariant.1),
      subst IsNumbered (sym more) (numbered_with before event c.loop-place.invariant.1),
      ap started_calls more ∙ omega (arith, c.starts_in-starts.ensures before, c.loop-place.invariant.2),
    )

pub returns-clause-quiet : goal.returns-clause-quiet
returns-clause-quiet c =
    let all = c.args.past.now in
    let whole : take c.loop-place.place all ≡ all = take_all c.loop-place.place all (omega arith) in
    quiet_of (events_of all) (subst (λ xs. StandsFor c.loop-place.counters c.args.n_ops c.args.paths.now (events_of xs)) whole c.loop-place.invariant.0).trace
    (omega (arith, long_of all, c.if-past-starts.false, c.loop-place.invariant.2, ap (λ xs. started_calls (events_of xs)) whole))

pub returns-clause-starts : goal.returns-clause-starts
returns-clause-starts c =
    let all = c.args.past.now in
    let whole : take c.loop-place.place all ≡ all = take_all c.loop-place.place all (omega arith) in
    omega (arith, c.if-past-starts.false, c.loop-place.invariant.2, ap (λ xs. started_calls (events_of xs)) whole)

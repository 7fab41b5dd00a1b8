use Rattle.std.proofs.Common.{◌≡◌, ℕ, List, [], ◌∷◌, ◌++◌, map, take, get_or, refl, subst, arith}
use Rattle.std.proofs.lemmas.List.{take_all}
use Rattle.world_core.specs.declared.event.Event.{Event}
use Rattle.world_core.specs.Answers.{Answers}
use Rattle.world_core.specs.Events.{event_of}
use Rattle.world_core.specs.Plays.{Plays}
use Rattle.world_core.proofs.Playing.{plays_taken}
use Rattle.world_core.proofs.world.World.play.Goals as goal

pub loop-event-init : goal.loop-event-init
loop-event-init c = (c.in_ok-world.world, [], c.in_ok-world.ensures, refl)

pub loop-event-preserved : goal.loop-event-preserved
loop-event-preserved c =
    let kept = c.loop-event.invariant in
    let k : ℕ = c.loop-event.event-index in
    let answer : Answers c.loop-event.world (event_of (get_or c.args.events.now k c.event-item.result)) c.event-answer.result c.event-answer.new.self =
    subst (λ (e : Event). Answers c.loop-event.world (event_of e) c.event-answer.result c.event-answer.new.self) c.event-item.is c.event-answer.ensures in
    (kept.0, kept.1 ++ c.event-answer.result ∷ [], kept.2, plays_taken c.args.events.now k c.event-item.result kept.1 kept.0 c.loop-event.world c.event-answer.new.self c.event-answer.result c.loop-event-test.true kept.3 answer)

pub returns : goal.returns
returns c =
    let kept = c.loop-event.invariant in
    let all : take c.loop-event.event-index c.args.events.now ≡ c.args.events.now = take_all c.loop-event.event-index c.args.events.now (omega (arith, c.loop-event-test.false)) in
    let plays : Plays kept.0 (map event_of c.args.events.now) kept.1 c.loop-event.world = subst (λ (es : List Event). Plays kept.0 (map event_of es) kept.1 c.loop-event.world) all kept.3 in
    let fails = c.fails_only_with_its_device.ensures c.args.accepted kept.0 c.loop-event.world (map event_of c.args.events.now) kept.1 kept.2 plays in (
      kept.1,
      record {
        old = kept.0;
        begins = kept.2;
        plays = plays;
        sequential = c.desk.ensures.sequential;
        told = c.replies_are_told.ensures c.args.accepted kept.0 c.loop-event.world (map event_of c.args.events.now) kept.1 kept.2 plays;
        fails = fails.0;
        sound = fails.1;
        rests = c.desk.ensures.rests;
      },
    )

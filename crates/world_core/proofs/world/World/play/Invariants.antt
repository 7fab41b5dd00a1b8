use Rattle.std.proofs.Common.{List, take, map}
use Rattle.world_core.specs.declared.event.EventAnswer.{EventAnswer}
use Rattle.world_core.specs.Events.{event_of}
use Rattle.world_core.specs.Scene.{Scene, IsNew}
use Rattle.world_core.specs.Plays.{Plays}
use Rattle.world_core.proofs.world.World.play.Given as goal

abbrev pub invariant-loop-event : goal.invariant-loop-event
invariant-loop-event l = (old : Scene) × (answers : List EventAnswer) × IsNew l.fn.accepted old × Plays old (map event_of (take l.event-index l.events)) answers l.world

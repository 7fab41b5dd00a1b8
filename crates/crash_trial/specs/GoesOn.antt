-- With what an object goes on behind what was recovered.
use Rattle.std.specs.Prelude.{ℕ, List, []}
use Rattle.decl_core.specs.declared.object.Object.{Object}
use Rattle.live_core.specs.declared.call.Limits.{Limits}
use Rattle.recover_core.specs.declared.recover.Recovered.{Recovered}
use Rattle.live_core.specs.declared.start.EndedEpoch.{EndedEpoch}
use Rattle.live_core.specs.Again.{BeginsAgain}
use Rattle.live_core.specs.Scene.{Scene}
use Rattle.live_core.specs.Fronts.{AddsFirst}

-- the epoch that was recovered, as one that has ended
abbrev pub ended_of : Recovered → EndedEpoch
ended_of r =
    record {
      epoch = r.epoch;
      base = r.base;
      greatest = r.played.greatest;
      contents = r.played.contents;
      counters = r.played.counters;
      long = r.played.long;
      guests = r.guests;
    }

-- a text is the front of the epoch that begins behind it
abbrev pub IsFrontBehind : Object → Recovered → Limits → List ℕ → Type 0
IsFrontBehind object recovered limits text =
    (source : ℕ) × (s : Scene) × BeginsAgain object (ended_of recovered) source limits s × AddsFirst s [] text

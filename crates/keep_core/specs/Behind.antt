-- How an object goes on behind its journal.
use Rattle.std.specs.Prelude.{ℕ, List}
use Rattle.decl_core.specs.declared.object.Object.{Object}
use Rattle.decl_core.specs.ObjectMap.{object_of}
use Rattle.live_core.specs.Front.{Opening}
use Rattle.live_core.specs.declared.call.Limits.{Limits}
use Rattle.recover_core.specs.declared.recover.House.{House}
use Rattle.recover_core.specs.declared.recover.Recovered.{Recovered}
use Rattle.recover_core.specs.Text.{IsRead, IsRecovered, Refuses}
use Rattle.live_core.specs.declared.start.EndedEpoch.{EndedEpoch}
use Rattle.live_core.specs.Again.{BeginsAgain}
use Rattle.live_core.specs.Scene.{Scene}
use Rattle.keep_core.specs.declared.start.NotBegun.{NotBegun}
use Rattle.keep_core.specs.declared.start.NotBegun.TheVariants.{Refused, NoPast, Uncounted, Damaged, Device, Memory}

-- what was recovered, as an object begins again with it
abbrev pub ended_of : Recovered → EndedEpoch
ended_of r =
    record {
      epoch = r.epoch;
      base = r.base;
      greatest = r.played.greatest;
      contents = r.played.contents;
      counters = r.played.counters;
      long = r.played.long;
      guests = r.guests;
    }

-- An object has begun behind the lines of a journal: they are those of this front and of what happened behind it, this was
-- recovered of them, and with that it begins again.
pub record BeginsBehind (object : Object) (h : House) (lines : List ℕ) (limits : Limits) (s : Scene) : Type 0 where
  pub front : Opening
  pub came : Recovered
  pub read : IsRead (object_of object) h lines front came
  pub source : ℕ
  pub again : BeginsAgain object (ended_of came) source limits s

-- Why none has: the lines are refused; or something was recovered of them, and no short past was found.
abbrev pub BeginsNot : Object → House → List ℕ → NotBegun → Type 0
BeginsNot object h lines (Refused fault) = Refuses (object_of object) h lines fault
BeginsNot object h lines NoPast = (came : Recovered) × IsRecovered (object_of object) h lines came
BeginsNot object h lines Uncounted = ⊥
BeginsNot object h lines (Damaged part) = ⊥
BeginsNot object h lines Device = ⊥
BeginsNot object h lines Memory = Unit {0}

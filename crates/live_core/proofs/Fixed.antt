-- What no call of a hand changes.
use Rattle.std.proofs.Common.{◌∙◌, refl}
use Rattle.live_core.specs.Hall.{Hall}
use Rattle.live_core.specs.Steps.{IsFixed}

pub fixed_here : (h : Hall) → IsFixed h h
fixed_here h = record { object = refl; before = refl; sessions = refl; room = refl }

pub fixed_on : (a b c : Hall) → IsFixed a b → IsFixed b c → IsFixed a c
fixed_on a b c one two = record {
  object = two.object ∙ one.object;
  before = two.before ∙ one.before;
  sessions = two.sessions ∙ one.sessions;
  room = two.room ∙ one.room;
}

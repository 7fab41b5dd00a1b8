-- What each step of a hand makes of it.
use Rattle.std.specs.Prelude.{◌≡◌, ◌+◌, List, [], ◌∷◌, ◌++◌}
use Rattle.decl_core.specs.ObjectMap.{object_of}
use Rattle.word_core.specs.Events.{Called}
use Rattle.live_core.specs.declared.call.Ran.{Ran}
use Rattle.live_core.specs.Bodies.{FailsForMemory}
use Rattle.live_core.specs.Hall.{Hall, Told, IsKept}
use Rattle.live_core.specs.Settles.{IsFirst, IsReplyHere, Settles, with_ran, with_all}

-- a call joins those that wait, with the next number
abbrev pub joined : Hall → Called → Hall
joined h c = record h { waiting = h.waiting ++ c ∷ []; given = h.given + 1 }

-- what no call changes is as it was: the object, the calls of the past, and the limits
pub record IsFixed (old new : Hall) : Type 0 where
  pub object : new.object ≡ old.object
  pub before : new.before ≡ old.before
  pub sessions : new.sessions ≡ old.sessions
  pub room : new.room ≡ old.room

-- the numbers that were given out are as they were, too
pub record IsSame (old new : Hall) : Type 0 where
  pub fixed : IsFixed old new
  pub given : new.given ≡ old.given

-- of the calls that wait one ran, which was the first that may start
pub record RunsOne (old : Hall) (t : Told) (r : Ran) (new : Hall) : Type 0 where
  pub front : List Called
  pub behind : List Called
  pub waited : old.waiting ≡ front ++ r.call ∷ behind
  pub left : new.waiting ≡ front ++ behind
  pub first : IsFirst (object_of old.object) t front r.call
  pub reply : IsReplyHere (object_of old.object) t r
  pub fails : FailsForMemory r.reply
  pub kept : IsKept new (with_ran t r)

-- these calls ran
pub record SettlesTo (old : Hall) (t : Told) (all : List Ran) (new : Hall) : Type 0 where
  pub settles : Settles (object_of old.object) t old.waiting all new.waiting
  pub kept : IsKept new (with_all t all)

-- a call waits no more, and all else is as it was
pub record Leaves (old : Hall) (c : Called) (new : Hall) : Type 0 where
  pub front : List Called
  pub behind : List Called
  pub waited : old.waiting ≡ front ++ c ∷ behind
  pub left : new ≡ record old { waiting = front ++ behind }

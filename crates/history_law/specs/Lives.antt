-- One life behind another: what a crash left of a journal, and what a start makes of it.
use Rattle.std.specs.Prelude.{◌≡◌, ℕ, List, ◌++◌}
use Rattle.keep_loop.specs.Journal.{IsBetween}
use Rattle.decl_core.specs.declared.object.Object.{Object}
use Rattle.decl_core.specs.ObjectForm.{ObjectForm}
use Rattle.decl_core.specs.ObjectMap.{object_of}
use Rattle.word_core.specs.Events.{Happened}
use Rattle.path_count.specs.Past.{events_of}
use Rattle.live_core.specs.Front.{Opening}
use Rattle.live_core.specs.declared.call.Limits.{Limits}
use Rattle.audit_core.specs.Steps.{Step, happened_of}
use Rattle.recover_core.specs.declared.recover.House.{House}
use Rattle.recover_core.specs.declared.recover.Recovered.{Recovered}
use Rattle.recover_core.specs.Text.{IsRead}
use Rattle.live_core.specs.Scene.{Scene}
use Rattle.keep_core.specs.Behind.{BeginsBehind}
use Rattle.history_law.specs.Year.{Epoch, Follows}
use Rattle.history_law.specs.Read.{IsReadOf}

-- these calls ran last of those, in this order
abbrev pub GoesOn : List Step → List Step → Type 0
GoesOn first all = (more : List Happened) × (happened_of all ≡ more ++ happened_of first)

-- Of a text with this front more is found than is stored: then each call that ended in what is stored stands in what is
-- found, in the same order, with the same reply, and maybe more behind them.
abbrev pub FoundGoesOn : Type 0
FoundGoesOn = (o : ObjectForm) (h : House) (f : Opening) (stored text found : List ℕ) (was came : Recovered)
    (s : IsRead o h stored f was) (r : IsRead o h found f came) → IsBetween stored text found →
    GoesOn s.is.steps r.is.steps

-- an epoch at one of its moments began where this one stands, behind what was recovered of lines
pub record BeganBehind (object : Object) (h : House) (lines : List ℕ) (limits : Limits) (s : Scene) (next : Epoch) : Type 0 where
  pub begins : BeginsBehind object h lines limits s
  pub past : next.told.past ≡ events_of begins.again.past
  pub opening : next.told.opening ≡ s.hall.contents

-- the epoch that lines tell, and one that follows it
pub record GoesOnBehind (o : ObjectForm) (lines : List ℕ) (came : Recovered) (next : Epoch) : Type 0 where
  pub before : Epoch
  pub read : IsReadOf o lines came before
  pub follows : Follows o before next

-- So an epoch that a start has begun follows that of the journal, at each of its moments.
abbrev pub LifeFollows : Type 0
LifeFollows =
    (object : Object) (h : House) (lines : List ℕ) (limits : Limits) (s : Scene) (next : Epoch)
    (b : BeganBehind object h lines limits s next) → GoesOnBehind (object_of object) lines b.begins.came next

-- Laws of the lines of what is held.
use Rattle.std.specs.Prelude.{◌≡◌, ◌++◌, ℕ, false, List, [], ◌∷◌, Option, Some, None, codes, map}
use Rattle.value_core.specs.declared.kind.Elem.{Elem}
use Rattle.value_core.specs.Datum.{IsDatum, elem_of}
use Rattle.decl_core.specs.ObjectForm.{ObjectForm}
use Rattle.apply_core.specs.declared.reply.Reply.{Reply}
use Rattle.apply_core.specs.declared.reply.Reply.TheVariants.{Done, Refused, Failed}
use Rattle.word_core.specs.Events.{Called, Happened, began, ended, body_at}
use Rattle.word_core.specs.TraceLaws.{HasNames}
use Rattle.live_core.specs.Front.{Every, IsLong, IsOperation, IsSession}
use Rattle.front_read.specs.Rows.{has_verb}
use Rattle.decl_core.specs.HoldForm.{HoldForm}
use Rattle.guest_core.specs.declared.hold_ends.HoldEnds.{HoldEnds}
use Rattle.guest_core.specs.Held.{HeldCall, AreHeldBy}
use Rattle.front_read.specs.HeldLines.{held_text, IsHeldLine}

-- what an operation replies that was done: nothing, or a datum of its sort
abbrev pub Replies : Option Elem → Reply → Type 0
Replies None (Done None) = Unit {0}
Replies None (Done (Some d)) = ⊥
Replies (Some e) (Done None) = ⊥
Replies (Some e) (Done (Some d)) = IsDatum d × (elem_of d ≡ e)
Replies result (Refused word) = Unit {0}
Replies result (Failed failure) = Unit {0}

-- a call that an object can have been asked, with a reply of its operation
pub record IsEnding (o : ObjectForm) (c : Called) (reply : Reply) : Type 0 where
  pub number : IsLong c.number
  pub session : IsSession c.session
  pub operation : IsOperation o c.operation
  pub fit : map elem_of c.arguments ≡ (body_at o c.operation).params
  pub each : Every IsDatum c.arguments
  pub replies : Replies (body_at o c.operation).result reply

-- each call that ended is one
abbrev pub AreEndings : ObjectForm → List Happened → Type 0
AreEndings o [] = Unit {0}
AreEndings o (began c ∷ past) = AreEndings o past
AreEndings o (ended c reply ∷ past) = IsEnding o c reply × AreEndings o past

-- What is held by what happened to calls of an object is told by lines that are read again.
abbrev pub HeldAreLines : Type 0
HeldAreLines = (ends : HoldEnds) (o : ObjectForm) (holds : List HoldForm) (past : List Happened) (held : List HeldCall) →
    AreEndings o past → AreHeldBy ends holds past held → Every (IsHeldLine o holds) held

-- Lines of what is held tell one thing, and it is known where they end.
abbrev pub LinesTellOne : Type 0
LinesTellOne = (o : ObjectForm) (holds : List HoldForm) (held other : List HeldCall) (rest more : List ℕ) →
    HasNames o → Every (IsHeldLine o holds) held → Every (IsHeldLine o holds) other →
    has_verb (codes "held") rest ≡ false → has_verb (codes "held") more ≡ false →
    held_text o holds held ++ rest ≡ held_text o holds other ++ more → (held ≡ other) × (rest ≡ more)

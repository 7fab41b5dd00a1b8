-- What is told of a call that was made before under a key tells of the call that was asked under it.
use Rattle.std.specs.Prelude.{◌≡◌, ◌⊎◌, ℕ, List, ◌∷◌, ◌++◌, Some, slice_get}
use Rattle.apply_core.specs.declared.reply.Reply.{Reply}
use Rattle.session_text.specs.Lines.{repeated_text}
use Rattle.live_core.specs.Front.{Opening}
use Rattle.guest_core.specs.declared.guest.Guest.{Guest}
use Rattle.guest_core.specs.declared.kept.RememberedCall.{RememberedCall}
use Rattle.guest_core.specs.Guests.{IsNamed}
use Rattle.live_core.specs.Scene.{Scene}
use Rattle.history_law.specs.Keys.{KeyEvent, IsKeptLine}
use Rattle.history_law.specs.Keyed.{HaveKeys}
use Rattle.keep_loop.specs.Turns.{Turn}
use Rattle.history_law.specs.Said.{Account, SaysNoReply}
use Rattle.table_core.specs.declared.table.Table.{Table}
use Rattle.history_law.specs.Replied.{AreTold, HaveOneHistory, IsReplied}
use Rattle.history_law.specs.Asked.{Claims, no_claims}
use Rattle.history_law.specs.AskedKeys.{IsItsCall, under}
use Rattle.history_law.specs.Tells.{WasTold}
use Rattle.history_law.specs.Turns.{HaveAsked, HasRememberedOwn}

-- A text tells how a call ended that an object remembered under a key, once these turns before had led so far, and as much of this
-- turn as is said: who is told so asks for just what this call had asked; and the call ran in these turns as it was asked, or it was
-- told of before them, or the front of the oldest epoch has it.
pub record IsAskedRepeat (claims : Claims) (first last : Table) (turns before : List Turn) (h : HaveOneHistory first last turns) (text : List ℕ) : Type 0 where
  pub sooner : List Account
  pub account : Account
  pub later : List Account
  pub cut : h.accounts ≡ sooner ++ account ∷ later
  pub mid : Table
  pub led : AreTold first before sooner mid
  pub number : ℕ
  pub reply : Reply
  pub text_is : text ≡ repeated_text number reply
  pub own : HasRememberedOwn claims mid.objects.items account number reply
  pub place : ℕ
  pub guest : Guest
  pub by : IsNamed own.is.now.guests own.is.session place guest
  pub call : RememberedCall
  pub asked : call.asked ≡ own.is.asked
  pub told_is : call.told ≡ number
  pub reply_is : call.reply ≡ Some reply
  pub ran : (f : Opening) (old : Scene) (told : List KeyEvent) → slice_get first.objects.items own.is.object ≡ Some old → HaveKeys f told old.guests →
      IsItsCall claims first last turns h own.is.object (under guest own.is.key call) reply
      ⊎ (WasTold told (under guest own.is.key call) ⊎ IsKeptLine f.clients f.kept guest.name own.is.key call)

-- What any connection is told in one of these turns with a reply is that of a call which ran in it, or such a repeat.
abbrev pub RepeatsAreAsked : Type 0
RepeatsAreAsked =
    (first last : Table) (before after : List Turn) (t : Turn) (have : HaveAsked no_claims first last (before ++ t ∷ after)) (who : ℕ) (text : List ℕ) (front behind : List (ℕ × List ℕ)) →
    t.said ≡ front ++ (who, text) ∷ behind →
    IsReplied first last (before ++ t ∷ after) before have.history text ⊎ (IsAskedRepeat no_claims first last (before ++ t ∷ after) before have.history text ⊎ SaysNoReply text)

-- What steps tell of names tells of the calls that ran.
use Rattle.std.specs.Prelude.{◌≡◌, ◌⊎◌, ℕ, List, [], ◌∷◌, ◌++◌, Some}
use Rattle.apply_core.specs.declared.reply.Reply.{Reply}
use Rattle.live_core.specs.Scene.{Scene}
use Rattle.live_core.specs.HostedSteps as hosted
use Rattle.history_law.specs.Happens.{all_happen}
use Rattle.history_law.specs.Keys.{KeyEvent, KeyedCall, call_ended}
use Rattle.history_law.specs.Keyed.{with_steps}
use Rattle.history_law.specs.Asked.{AreAsked, HasRunUnder, no_claim}

-- it was told of names that this call ended
pub record WasTold (told : List KeyEvent) (k : KeyedCall) : Type 0 where
  pub newer : List KeyEvent
  pub older : List KeyEvent
  pub cut : told ≡ newer ++ call_ended k ∷ older

-- Each call of which steps tell that it ended with a reply under a key is one that ran in them, or it was told before.
abbrev pub StepsTellAsked : Type 0
StepsTellAsked =
    (told : List KeyEvent) (old new : Scene) (lines : List ℕ) (all : hosted.Steps old lines new) → AreAsked no_claim all →
    (k : KeyedCall) (reply : Reply) → WasTold (with_steps all told) k → k.call.reply ≡ Some reply →
    HasRunUnder no_claim old (all_happen all []) k reply ⊎ WasTold told k

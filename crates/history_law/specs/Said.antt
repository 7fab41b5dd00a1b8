-- What a turn tells of calls, and what happened in it.
use Rattle.std.specs.Prelude.{◌≡◌, ◌⊎◌, ℕ, List, [], ◌∷◌, ◌++◌, Some, length, slice_get}
use Rattle.apply_core.specs.declared.reply.Reply.{Reply}
use Rattle.word_core.specs.Events.{Called}
use Rattle.session_text.specs.Lines.{ended_text, repeated_text}
use Rattle.live_core.specs.Hall.{Every}
use Rattle.guest_core.specs.declared.kept.Asked.{Asked as Call}
use Rattle.audit_core.specs.Steps.{Step, ran}
use Rattle.live_core.specs.Keys.{Repeats}
use Rattle.live_core.specs.Scene.{Scene, told_of}
use Rattle.live_core.specs.HostedSteps.{Steps}
use Rattle.history_law.specs.Happens.{all_happen}
use Rattle.keep_loop.specs.Texts.{to}
use Rattle.keep_loop.specs.Turns.{Asked}
use Rattle.keep_loop.specs.Turns.Asked.{Heard, Noted, Changes}
use Rattle.client_core.specs.Deeds.{Texts}
use Rattle.client_core.specs.State.{State}
use Rattle.client_core.specs.Given.{Gives}

-- what happened to the object at each place, the newest first
abbrev pub Account : Type 0
Account = ℕ → List Step

-- an object went by steps with these lines, and this is what happened
abbrev pub Went : Scene → List ℕ → List Step → Scene → Type 0
Went old lines steps new = (all : Steps old lines new) × (steps ≡ all_happen all [])

-- Each object went by steps, the lines that are added to its journal are those of them, and this is what happened.
pub record AllWent (old : List Scene) (added : Texts) (account : Account) (new : List Scene) : Type 0 where
  pub count : length new ≡ length old
  pub each : (j : ℕ) (h k : Scene) → slice_get old j ≡ Some h → slice_get new j ≡ Some k → Went h (to j added) (account j) k

-- a call of an object ran, of which this number was told, and it replied this
pub record HasRun (objects : List Scene) (account : Account) (told : ℕ) (reply : Reply) : Type 0 where
  pub object : ℕ
  pub scene : Scene
  pub there : slice_get objects object ≡ Some scene
  pub call : Called
  pub later : List Step
  pub before : List Step
  pub ran_so : account object ≡ later ++ ran call reply ∷ before
  pub told_is : told ≡ told_of scene call.number

-- at one of the moments of what happened an object had remembered a call that was made before under a key, of which this
-- number was told, and it replied this
pub record HasRemembered (objects : List Scene) (account : Account) (told : ℕ) (reply : Reply) : Type 0 where
  pub object : ℕ
  pub scene : Scene
  pub there : slice_get objects object ≡ Some scene
  pub now : Scene
  pub lines : List ℕ
  pub since : Steps scene lines now
  pub later : List Step
  pub moment : account object ≡ later ++ all_happen since []
  pub session : ℕ
  pub key : ℕ
  pub asked : Call
  pub repeats : Repeats now session key asked told (Some reply)

-- a text says of no call what it replied
abbrev pub SaysNoReply : List ℕ → Type 0
SaysNoReply text = (n : ℕ) (reply : Reply) → (text ≡ ended_text n reply → ⊥) × (text ≡ repeated_text n reply → ⊥)

-- it says that a call ended that ran, or that one had ended that was remembered: with the number that was told of it, and its
-- reply
abbrev pub SaysReply : List Scene → Account → List ℕ → Type 0
SaysReply objects account text = (n : ℕ) × (reply : Reply)
    × (((text ≡ ended_text n reply) × HasRun objects account n reply)
    ⊎ ((text ≡ repeated_text n reply) × HasRemembered objects account n reply))

-- What is told to somebody is true of what happened.
abbrev pub IsTrue : List Scene → Account → List ℕ → Type 0
IsTrue objects account text = SaysReply objects account text ⊎ SaysNoReply text

-- objects went so, and all that is told is true of that
pub record Says (old : State) (said added : Texts) (account : Account) (new : State) : Type 0 where
  pub went : AllWent old.objects added account new.objects
  pub true_all : Every (λ (s : ℕ × List ℕ). IsTrue old.objects account s.1) said

-- what a turn says; where a journal begins anew nothing is told, and nothing happens
abbrev pub SaysIn : State → Asked → Texts → Texts → Account → State → Type 0
SaysIn old (Heard who line end) said added account new = Says old said added account new
SaysIn old (Noted note) said added account new = Says old said added account new
SaysIn old (Changes journal front went) said added account new = (said ≡ []) × ((j : ℕ) → account j ≡ [])

-- So does each turn: each reply that is told is that of a call that ran in it, or of one that was remembered.
abbrev pub TurnsSay : Type 0
TurnsSay = (old new : State) (asked : Asked) (said added : Texts) → Gives old asked said added new →
    (account : Account) × SaysIn old asked said added account new

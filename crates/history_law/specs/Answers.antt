-- What a turn tells of calls that were asked for.
use Rattle.std.specs.Prelude.{◌≡◌, ◌⊎◌, ℕ, List, [], ◌∷◌, ◌++◌}
use Rattle.apply_core.specs.declared.reply.Reply.{Reply}
use Rattle.session_text.specs.Lines.{accepted_text, ended_text, repeated_text}
use Rattle.live_core.specs.Scene.{Scene}
use Rattle.client_core.specs.Deeds.{Texts}
use Rattle.history_law.specs.Said.{Account, HasRun, HasRemembered, SaysNoReply}
use Rattle.history_law.specs.Awaits.{IsElementOf, Lines, HasAsked}

-- A call ran, of which this number was told, and it replied this; a line of this connection asked for it, and the number was
-- told to it before.
pub record IsAnswer (heard : Lines) (past : Texts) (objects : List Scene) (account : Account) (who n : ℕ) (reply : Reply) : Type 0 where
  pub run : HasRun objects account n reply
  pub asked : HasAsked heard who run.scene.hall.object run.call
  pub accepted : IsElementOf (who, accepted_text n) past

-- a text tells a connection that a call ended that it asked for, and its reply; or what is remembered of a call under a key;
-- or no reply
abbrev pub IsTold : Lines → Texts → List Scene → Account → ℕ → List ℕ → Type 0
IsTold heard past objects account who text =
    ((n : ℕ) × (reply : Reply) × (text ≡ ended_text n reply) × IsAnswer heard past objects account who n reply)
    ⊎ (((n : ℕ) × (reply : Reply) × (text ≡ repeated_text n reply) × HasRemembered objects account n reply) ⊎ SaysNoReply text)

-- it holds of each text that is told, and of those before it
abbrev pub AllAlong : (Texts → ℕ → List ℕ → Type 0) → Texts → Texts → Type 0
AllAlong T past [] = Unit {0}
AllAlong T past (s ∷ said) = T past s.0 s.1 × AllAlong T (past ++ s ∷ []) said

-- What lines at a prompt are answered.
use Rattle.std.specs.Prelude.{◌≡◌, ◌≢◌, ℕ, Bool, true, List, [], ◌∷◌, codes}
use Rattle.word_core.specs.Words.{bare, AreWords}
use Rattle.word_core.specs.Says.{Says}
use Rattle.world_core.specs.Scene.{Scene}
use Rattle.word_core.specs.Said.{Said, said_of, IsSkipped}
use Rattle.word_core.specs.Answers.{bad_line}
use Rattle.world_core.specs.Does.{Does, IsKept}
use Rattle.world_core.specs.Asked.{Asked, list, asked_of}
use Rattle.world_core.specs.Told.{IsTold}
use Rattle.world_core.specs.Writes.{IsOther}
use Rattle.world_core.specs.declared.prompt.Texts.{Texts as GivenTexts}
use Rattle.world_core.specs.declared.prompt.machine.Prompt.{Prompt}

-- what the lines `help` and `list` are answered
pub record Texts : Type 0 where
  pub help : List ℕ
  pub list : List ℕ

abbrev pub texts_in : GivenTexts → Texts
texts_in texts = record { help = texts.help.now; list = texts.list.now }

-- a line is this word and no other
abbrev pub IsAlone : List ℕ → List ℕ → Type 0
IsAlone word line = AreWords line (bare word ∷ [])

-- The answer to the line of this number over a world: its text, that the lines go on, and the world then. What a line of
-- a script says is done as there; a question is answered of the desk; any other line is bad, and changes nothing.
pub data Tries (texts : Texts) (w : Scene) (number : ℕ) (line : List ℕ) : List ℕ → Bool → Scene → Type 0 where
  skipped : IsSkipped line → Tries texts w number line [] true w
  done : {text : List ℕ} {new : Scene} (said : Said) → (IsSkipped line → ⊥) → Says said_of line said →
      Does said w text new → IsKept new → Tries texts w number line text true new
  helped : IsOther line → IsAlone (codes "help") line → Tries texts w number line texts.help true w
  listed : IsOther line → Says asked_of line list → Tries texts w number line texts.list true w
  asked : {text : List ℕ} (question : Asked) → IsOther line → Says asked_of line question → question ≢ list →
      IsTold w.board question text → Tries texts w number line text true w
  bad : IsOther line → (IsAlone (codes "help") line → ⊥) → ((question : Asked) → Says asked_of line question → ⊥) →
      Tries texts w number line (bad_line number) true w

-- the answer to the line of this number, of a state, and the state then
abbrev pub PromptGives : Prompt → ℕ → List ℕ → List ℕ → Bool → Prompt → Type 0
PromptGives old number line text goes new =
    Tries (texts_in old.texts) old.world number line text goes new.world × (new.texts ≡ old.texts)

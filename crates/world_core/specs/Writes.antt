-- What the lines of a script are answered.
use Rattle.std.specs.Prelude.{◌≡◌, ℕ, Bool, true, false, List, []}
use Rattle.std.specs.Str.{str_to_ascii_lowercase}
use Rattle.decl_core.specs.declared.object.Object.{Object}
use Rattle.word_core.specs.Says.{Says}
use Rattle.world_core.specs.Scene.{Scene, IsNew}
use Rattle.word_core.specs.Said.{Said, said_of, IsSkipped}
use Rattle.word_core.specs.First.{IsObjectLine}
use Rattle.word_core.specs.Answers.{bad_line}
use Rattle.world_core.specs.Asked.{Asked, asked_of}
use Rattle.world_core.specs.Told.{IsTold}
use Rattle.world_core.specs.Does.{Does, IsKept}
use Rattle.world_core.specs.declared.script.machine.Script.{Script}

-- whether the first line has named the object, and its world
pub record Told : Type 0 where
  pub named : Bool
  pub world : Scene

-- a script before its first line
pub record IsBegun (o : Object) (told : Told) : Type 0 where
  pub named : told.named ≡ false
  pub world : IsNew o told.world

-- what a state is
abbrev pub told_of : Script → Told
told_of state = record { named = state.named; world = state.world }

-- a line that names this object, in any case
pub record NamesObject (o : Object) (line : List ℕ) : Type 0 where
  pub name : List ℕ
  pub stands : IsObjectLine line name
  pub same : str_to_ascii_lowercase name ≡ o.name

-- a line that is not skipped, and says nothing that is done
pub record IsOther (line : List ℕ) : Type 0 where
  pub not_skipped : IsSkipped line → ⊥
  pub says_nothing : (said : Said) → Says said_of line said → ⊥

-- the answer to the line of this number: its text, whether the script goes on, and what holds then
pub data Writes (told : Told) (number : ℕ) (line : List ℕ) : List ℕ → Bool → Told → Type 0 where
  -- the first line names the object
  named : told.named ≡ false → NamesObject told.world.board.object line →
      Writes told number line [] true (record told { named = true })
  not_named : told.named ≡ false → (NamesObject told.world.board.object line → ⊥) →
      Writes told number line (bad_line number) false told
  -- a blank line, or a remark
  skipped : told.named ≡ true → IsSkipped line → Writes told number line [] true told
  -- a line that says something
  done : {text : List ℕ} {new : Scene} (said : Said) → told.named ≡ true → (IsSkipped line → ⊥) →
      Says said_of line said → Does said told.world text new → IsKept new
      → Writes told number line text true (record told { world = new })
  -- a line that asks something is answered of the desk, and changes nothing
  asked : {text : List ℕ} (question : Asked) → told.named ≡ true → IsOther line → Says asked_of line question →
      IsTold told.world.board question text → Writes told number line text true told
  bad : told.named ≡ true → IsOther line → ((question : Asked) → Says asked_of line question → ⊥) →
      Writes told number line (bad_line number) false told

-- the answer to the line of this number, of a state, and the state then
abbrev pub ScriptGives : Script → ℕ → List ℕ → List ℕ → Bool → Script → Type 0
ScriptGives old number line text goes new = Writes (told_of old) number line text goes (told_of new)

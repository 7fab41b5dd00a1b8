-- What the lines of a script of an object with holds are answered.
use Rattle.std.specs.Prelude.{◌≡◌, ℕ, Bool, true, false, List, []}
use Rattle.decl_core.specs.declared.object.Object.{Object}
use Rattle.decl_core.specs.HoldForm.{HoldForm}
use Rattle.decl_core.specs.HoldMap.{holds_of}
use Rattle.word_core.specs.Says.{Says}
use Rattle.world_core.specs.Scene.{IsNew}
use Rattle.word_core.specs.Said.{Said, said_of, IsSkipped}
use Rattle.word_core.specs.Answers.{bad_line}
use Rattle.world_core.specs.Does.{IsKept}
use Rattle.world_core.specs.Writes.{NamesObject, IsOther}
use Rattle.world_core.specs.Asked.{Asked, asked_of}
use Rattle.world_core.specs.HoldDoes.{Ward, ward, HeldDoes}
use Rattle.world_core.specs.HoldAsked.{IsHeldTold}
use Rattle.world_core.specs.declared.machine.HeldScript.{HeldScript}

-- the holds of the object, whether the first line has named it, and what holds then
pub record HeldTold : Type 0 where
  pub holds : List HoldForm
  pub named : Bool
  pub ward : Ward

-- a script before its first line: nothing is held, and nobody gone
pub record IsHeldBegun (o : Object) (declared : List HoldForm) (told : HeldTold) : Type 0 where
  pub holds : told.holds ≡ declared
  pub named : told.named ≡ false
  pub world : IsNew o told.ward.world
  pub held : told.ward.held ≡ []
  pub gone : told.ward.gone ≡ []

-- what a state is
abbrev pub told_of : HeldScript → HeldTold
told_of state =
    record { holds = holds_of state.rules.items; named = state.named; ward = ward state.world state.holds state.gone.items }

-- the answer to the line of this number: its text, whether the script goes on, and what holds then
pub data HeldWrites (told : HeldTold) (number : ℕ) (line : List ℕ) : List ℕ → Bool → HeldTold → Type 0 where
  -- the first line names the object
  named : told.named ≡ false → NamesObject told.ward.world.board.object line →
      HeldWrites told number line [] true (record told { named = true })
  not_named : told.named ≡ false → (NamesObject told.ward.world.board.object line → ⊥) →
      HeldWrites told number line (bad_line number) false told
  -- a blank line, or a remark
  skipped : told.named ≡ true → IsSkipped line → HeldWrites told number line [] true told
  -- a line that says something
  done : {text : List ℕ} {new : Ward} (said : Said) → told.named ≡ true → (IsSkipped line → ⊥) →
      Says said_of line said → HeldDoes told.holds said told.ward text new → IsKept new.world
      → HeldWrites told number line text true (record told { ward = new })
  -- a line that asks something is answered, and changes nothing
  asked : {text : List ℕ} (question : Asked) → told.named ≡ true → IsOther line → Says asked_of line question →
      IsHeldTold told.holds told.ward.held told.ward.world.board question text → HeldWrites told number line text true told
  bad : told.named ≡ true → IsOther line → ((question : Asked) → Says asked_of line question → ⊥) →
      HeldWrites told number line (bad_line number) false told

-- the answer to the line of this number, of a state, and the state then
abbrev pub HeldGives : HeldScript → ℕ → List ℕ → List ℕ → Bool → HeldScript → Type 0
HeldGives old number line text goes new = HeldWrites (told_of old) number line text goes (told_of new)

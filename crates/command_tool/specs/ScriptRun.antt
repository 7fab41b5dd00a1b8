-- What `run` writes over a source and the text of a script.
use Rattle.std.specs.Prelude.{ℕ, List, [], take}
use Rattle.decl_core.specs.declared.object.Object.{Object}
use Rattle.decl_core.specs.ObjectMap.{object_of}
use Rattle.check_core.specs.Opening.{IsReady, IsTold}
use Rattle.world_core.specs.Run.{IsScript, IsFront}
use Rattle.world_core.specs.declared.script.ScriptEnd.{ScriptEnd}
use Rattle.world_core.specs.declared.script.ScriptEnd.TheVariants as script_ends

-- `run`, where there is an object to run on: 0 where each line was answered, 1 where a bad line ended the script
abbrev pub script_status : ScriptEnd → ℕ
script_status script_ends.Whole = 0
script_status (script_ends.BadLine line) = 1

-- the exit status, and all that is written
pub data IsScriptRun (source text : List ℕ) : ℕ → List ℕ → Type 0 where
  -- there is nothing to run on, and one line says why
  told : {line : List ℕ} → IsTold source text line → IsScriptRun source text 1 line
  -- the script over the object that its first line names
  ran : (o : Object) (end : ScriptEnd) {written : List ℕ} → IsReady source text (object_of o) →
      IsScript o text end written → IsScriptRun source text (script_status end) written

-- a front of what is written
pub data IsScriptFront (source text : List ℕ) : List ℕ → Type 0 where
  nothing : IsScriptFront source text []
  told_front : (line : List ℕ) (count : ℕ) → IsTold source text line → IsScriptFront source text (take count line)
  ran_front : (o : Object) {written : List ℕ} → IsReady source text (object_of o) → IsFront o text written →
      IsScriptFront source text written

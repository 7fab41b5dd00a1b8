-- What `run` writes over a source whose objects have holds, and the text of a script.
use Rattle.std.specs.Prelude.{ℕ, List, [], take}
use Rattle.decl_core.specs.HoldForm.{HoldForm}
use Rattle.decl_core.specs.declared.object.Object.{Object}
use Rattle.decl_core.specs.ObjectMap.{object_of}
use Rattle.check_core.specs.Opening.{IsReady, IsTold}
use Rattle.world_core.specs.HoldRun.{IsHeldScript, IsHeldFront}
use Rattle.world_core.specs.declared.script.ScriptEnd.{ScriptEnd}
use Rattle.command_tool.specs.ScriptRun.{script_status}

-- the exit status, and all that is written, by the source without the holds
pub data IsHeldRun (source text : List ℕ) : ℕ → List ℕ → Type 0 where
  -- there is nothing to run on, and one line says why
  told : {line : List ℕ} → IsTold source text line → IsHeldRun source text 1 line
  -- the script over the object that its first line names, with holds
  ran : (o : Object) (holds : List HoldForm) (end : ScriptEnd) {written : List ℕ} → IsReady source text (object_of o) →
      IsHeldScript o holds text end written → IsHeldRun source text (script_status end) written

-- a front of what is written
pub data IsHeldRunFront (source text : List ℕ) : List ℕ → Type 0 where
  nothing : IsHeldRunFront source text []
  told_front : (line : List ℕ) (count : ℕ) → IsTold source text line → IsHeldRunFront source text (take count line)
  ran_front : (o : Object) (holds : List HoldForm) {written : List ℕ} → IsReady source text (object_of o) →
      IsHeldFront o holds text written → IsHeldRunFront source text written

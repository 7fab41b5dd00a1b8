-- Laws of scripts.
use Rattle.std.specs.Prelude.{List, ℕ}
use Rattle.decl_core.specs.declared.object.Object.{Object}
use Rattle.world_core.specs.declared.script.ScriptEnd.{ScriptEnd}
use Rattle.world_core.specs.Run.{IsScript}
use Rattle.world_core.specs.Serial.{IsSerialScript}

-- The lines that a script writes on finishes and values are those of the sequential object, however its calls overlap:
-- so those too of a script in turn, in which each call is stepped to its end and finished before the next one. A call
-- that is asked again is told as it finished there, or as one that has not finished.
abbrev pub ScriptsAreSerial : Type 0
ScriptsAreSerial =
    (o : Object) (text : List ℕ) (end : ScriptEnd) (written : List ℕ) → IsScript o text end written →
    IsSerialScript o text end written

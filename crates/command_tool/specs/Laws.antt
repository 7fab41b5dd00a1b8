-- Laws of what commands answer.
use Rattle.std.specs.Prelude.{◌≡◌, ◌↔◌, ℕ, List, [], codes}
use Rattle.std.specs.Str.Lines.{lines}
use Rattle.word_core.specs.Answers.{bad_line}
use Rattle.command_tool.specs.ScriptRun.{IsScriptRun}
use Rattle.command_tool.specs.AuditRun.{IsAuditRun}

-- a text has no line
abbrev pub HasNoLine : List ℕ → Type 0
HasNoLine text = lines text ≡ []

-- a script without a line is answered `bad line 1` and ends with 1, and nothing else is
abbrev pub NoLineIsBad : Type 0
NoLineIsBad = (source text : List ℕ) (status : ℕ) (written : List ℕ) → HasNoLine text
    → IsScriptRun source text status written ↔ (status ≡ 1) × (written ≡ bad_line 1)

-- a trace without a line is told `line 1 bad` and ends with 1, and so is no other answer
abbrev pub NoLineOfTrace : Type 0
NoLineOfTrace = (source text : List ℕ) (status : ℕ) (written : List ℕ) → HasNoLine text
    → IsAuditRun source text status written ↔ (status ≡ 1) × (written ≡ codes "line 1 bad\n")

-- What a log gets.
use Rattle.std.specs.Prelude.{◌≡◌, ℕ, List, Option, Some, None, take}
use Rattle.std.specs.Io.KnownBytes.{Appends}
use Rattle.jiff_core.specs.declared.civil.datetime.DateTime.{DateTime}
use Rattle.keep_log.specs.declared.line.LineForm.{LineForm}

-- a front of these bytes: a writer may fail
abbrev pub TellsFront : Option (List ℕ) → Option (List ℕ) → List ℕ → Type 0
TellsFront before after bytes = (count : ℕ) × Appends before after (take count bytes)

-- nothing without a form, else a front of the line of some moment
abbrev pub Tells : Option LineForm → Option (List ℕ) → Option (List ℕ) → (LineForm → DateTime → List ℕ) → Type 0
Tells None before after line = after ≡ before
Tells (Some form) before after line = (moment : DateTime) × TellsFront before after (line form moment)

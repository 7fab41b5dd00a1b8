-- What the calls of this crate give, by the definitions.
use Rattle.std.specs.Prelude.{◌≡◌, ℕ, List}
use Rattle.decl_core.specs.ObjectForm.{ObjectForm}
use Rattle.decl_core.specs.ObjectMap.{object_of}
use Rattle.decl_core.specs.Exclusive.{IsExclusive, IsFirstUnseparated}
use Rattle.check_core.specs.Report.{refused_line}
use Rattle.check_core.specs.Opening.{IsReady, IsTold}
use Rattle.check_core.specs.declared.open.OpenedScript.{OpenedScript}
use Rattle.check_core.specs.declared.open.OpenedScript.TheVariants as opened

-- what a script has to run on
abbrev pub IsOpened : List ℕ → List ℕ → OpenedScript → Type 0
IsOpened source text (opened.Ready o) = IsReady source text (object_of o)
IsOpened source text (opened.Told line) = IsTold source text line.items

-- the line of an object that is refused
abbrev pub IsRefusedLine : ObjectForm → List ℕ → Type 0
IsRefusedLine o line = (i : ℕ) × (j : ℕ) × (p : ℕ) × IsFirstUnseparated o i j p × (line ≡ refused_line o i j p)

-- whether an object is accepted
abbrev pub IsJudged : ObjectForm → OpenedScript → Type 0
IsJudged o (opened.Ready object) = (object_of object ≡ o) × IsExclusive o
IsJudged o (opened.Told line) = IsRefusedLine o line.items

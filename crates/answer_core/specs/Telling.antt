-- What standard error gets of a refused source where it is not explained, and what a command ends with.
use Rattle.std.specs.Prelude.{◌≡◌, ◌++◌, ℕ, ⊤, List, Option, codes, take}
use Rattle.std.specs.Io.KnownBytes.{Appends}
use Rattle.decl_core.specs.HoldForm.{RulesForm}
use Rattle.decl_core.specs.ObjectForm.{ObjectForm}
use Rattle.decl_read.specs.HeldSources.{AreHeldObjectsOf, SayNothing}
use Rattle.answer_core.specs.declared.sources.WithoutHolds.{WithoutHolds}
use Rattle.answer_core.specs.declared.sources.WithoutHolds.TheVariants as plains
use Rattle.answer_core.specs.declared.sources.Ruled.{Ruled}
use Rattle.answer_core.specs.declared.sources.Ruled.TheVariants as ruled

-- nothing, or the line that says that there is more to tell, or a front of it
abbrev pub IsHinted : Option (List ℕ) → Option (List ℕ) → Type 0
IsHinted old new = (count : ℕ) × Appends old new (take count (codes "--explain tells more\n"))

-- a source that is refused ends a command with 1
abbrev pub TellsRefused : WithoutHolds → Type 0
TellsRefused (plains.Plain source) = ⊤
TellsRefused (plains.Told status) = status ≡ 1

-- no object of a source has a hold, or calls something again and again
abbrev pub HasNoHolds : List ℕ → Type 0
HasNoHolds source =
    (objects : List ObjectForm) → (rules : List RulesForm) → AreHeldObjectsOf source objects rules → SayNothing rules

-- a command goes on with this very source, in which no object has holds; or it ends with 1
abbrev pub IsPlainOrRefused : List ℕ → WithoutHolds → Type 0
IsPlainOrRefused source (plains.Plain text) = (text.items ≡ source) × HasNoHolds source
IsPlainOrRefused source (plains.Told status) = status ≡ 1

abbrev pub IsRuledOrRefused : Ruled → Type 0
IsRuledOrRefused (ruled.By source rules) = ⊤
IsRuledOrRefused (ruled.Told status) = status ≡ 1

-- the line on an object that has a hold, or is called again and again, and what is to be used instead
abbrev pub held_text : List ℕ → List ℕ → List ℕ
held_text name instead = (((codes "object " ++ name) ++ codes " has a hold or an `every`: ") ++ instead) ++ codes "\n"

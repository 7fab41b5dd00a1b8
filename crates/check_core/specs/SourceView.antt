-- What the calls of this crate give, by the definitions.
use Rattle.std.specs.Prelude.{◌≡◌, ◌≢◌, ◌⊎◌, ℕ, List, [], ◌∷◌, ◌++◌}
use Rattle.decl_core.specs.declared.object.Object.{Object}
use Rattle.decl_core.specs.ObjectForm.{ObjectForm}
use Rattle.decl_core.specs.ObjectMap.{object_of, objects_of}
use Rattle.decl_core.specs.Exclusive.{IsExclusive}
use Rattle.check_core.specs.View.{IsRefusedLine}
use Rattle.check_core.specs.Judging.{AreJudged, IsServed, IsUnserved}
use Rattle.check_core.specs.declared.judge.JudgedSource.{JudgedSource}
use Rattle.check_core.specs.declared.judge.JudgedSource.TheVariants as judged

-- what a source is to a server
abbrev pub IsJudgedSource : List ℕ → JudgedSource → Type 0
IsJudgedSource source (judged.Ready all) = IsServed source (objects_of all.items)
IsJudgedSource source (judged.Told text) = IsUnserved source text.items

-- what objects are to a server
abbrev pub IsJudgedObjects : List ObjectForm → JudgedSource → Type 0
IsJudgedObjects all (judged.Ready ready) = (objects_of ready.items ≡ all) × AreJudged all all []
IsJudgedObjects all (judged.Told text) = (ready : List ObjectForm) × AreJudged all ready text.items × (text.items ≢ [])

-- an object is added to those that are accepted, or its line to the text
abbrev pub IsAdded : ObjectForm → List Object → List ℕ → List Object → List ℕ → Type 0
IsAdded o ready text more longer =
    ((a : Object) × (more ≡ ready ++ a ∷ []) × (object_of a ≡ o) × IsExclusive o × (longer ≡ text))
    ⊎ ((line : List ℕ) × IsRefusedLine o line × (more ≡ ready) × (longer ≡ text ++ line))

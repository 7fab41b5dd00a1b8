-- Objects whose parts and operations have names.
use Rattle.std.specs.Prelude.{◌≡◌, ℕ, ◌<◌, List, All, length, Some}
use Rattle.path_tree.specs.Known.{place_of}
use Rattle.decl_core.specs.ObjectForm.{ObjectForm}
use Rattle.decl_read.specs.Sources.{AreObjectsOf}
use Rattle.word_core.specs.TraceLaws.{HasNames}
use Rattle.word_core.specs.Text.{operation_name}
use Rattle.audit_core.specs.Operations.{operation_names}

-- An object, its parts and its operations have names, and each operation is the first of its name.
pub record IsNamed (o : ObjectForm) : Type 0 where
  pub names : HasNames o
  pub first : (place : ℕ) → place < length o.operations →
      place_of (operation_names o.operations) (operation_name o place) ≡ Some place

-- So is each object of a source.
abbrev pub ReadAreNamed : Type 0
ReadAreNamed = (source : List ℕ) (objects : List ObjectForm) → AreObjectsOf source objects → All IsNamed objects

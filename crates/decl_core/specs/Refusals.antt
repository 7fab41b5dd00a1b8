-- Why an object is not accepted.
use Rattle.std.specs.Prelude.{⊤, ℕ, List, codes}
use Rattle.decl_core.specs.ObjectForm.{ObjectForm}
use Rattle.decl_core.specs.declared.analyse.ObjectRefusal.{ObjectRefusal}
use Rattle.decl_core.specs.declared.analyse.ObjectRefusal.TheVariants as refusals
use Rattle.decl_core.specs.Exclusive.{IsFirstUnseparated}

-- a refusal is true of an object
abbrev pub IsWhy : ObjectForm → ObjectRefusal → Type 0
IsWhy o (refusals.Unseparated i j p) = IsFirstUnseparated o i j p
IsWhy o refusals.Memory = ⊤

abbrev pub refusal_number : ObjectRefusal → ℕ
refusal_number (refusals.Unseparated i j p) = 1
refusal_number refusals.Memory = 2

abbrev pub refusal_name : ObjectRefusal → List ℕ
refusal_name (refusals.Unseparated i j p) = codes "Unseparated"
refusal_name refusals.Memory = codes "Memory"

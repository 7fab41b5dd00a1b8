-- What a script runs on, and what is told where it has nothing to run on.
use Rattle.std.specs.Prelude.{◌≡◌, ◌≢◌, ℕ, List, ◌++◌, All, Contains, codes}
use Rattle.decl_core.specs.ObjectForm.{ObjectForm}
use Rattle.decl_read.specs.declared.fault.DeclFault.{DeclFault}
use Rattle.decl_read.specs.Sources.{AreObjectsOf}
use Rattle.decl_core.specs.Exclusive.{IsExclusive, IsFirstUnseparated}
use Rattle.check_core.specs.Report.{IsToldFault, fault_line, refused_line}
use Rattle.word_core.specs.Answers.{bad_line}
use Rattle.check_core.specs.Named.{NamesObject}

-- no object NAME
abbrev pub no_object_line : List ℕ → List ℕ
no_object_line name = codes "no object " ++ name ++ codes "\n"

-- the object of this name in a source
pub record IsObjectIn (source name : List ℕ) (o : ObjectForm) : Type 0 where
  pub objects : List ObjectForm
  pub are : AreObjectsOf source objects
  pub is_one : Contains objects o
  pub named : o.name ≡ name

-- a source has no object of this name
pub record IsWithout (source name : List ℕ) : Type 0 where
  pub objects : List ObjectForm
  pub are : AreObjectsOf source objects
  pub other : All (λ o. o.name ≢ name) objects

-- A script whose text begins so has nothing to run on, and is told this line: the first that applies.
pub data IsTold (source text : List ℕ) : List ℕ → Type 0 where
  unnamed : ((name : List ℕ) → NamesObject text name → ⊥) → IsTold source text (bad_line 1)
  faulty : {name : List ℕ} {fault : DeclFault} → NamesObject text name → IsToldFault source fault →
      IsTold source text (fault_line fault)
  lacking : {name : List ℕ} → NamesObject text name → IsWithout source name → IsTold source text (no_object_line name)
  refused : {name : List ℕ} {o : ObjectForm} {i j p : ℕ} → NamesObject text name → IsObjectIn source name o →
      IsFirstUnseparated o i j p
      → IsTold source text (refused_line o i j p)

-- A script whose text begins so runs on this object: its first line names it, the source has it, and it is accepted.
pub record IsReady (source text : List ℕ) (o : ObjectForm) : Type 0 where
  pub name : List ℕ
  pub named : NamesObject text name
  pub found : IsObjectIn source name o
  pub exclusive : IsExclusive o

-- What a server is told of the objects of a source.
use Rattle.std.specs.Prelude.{◌≢◌, ℕ, List, [], ◌∷◌, ◌++◌}
use Rattle.decl_core.specs.ObjectForm.{ObjectForm}
use Rattle.decl_read.specs.declared.fault.DeclFault.{DeclFault}
use Rattle.decl_read.specs.Sources.{AreObjectsOf}
use Rattle.decl_core.specs.Exclusive.{IsExclusive, IsFirstUnseparated}
use Rattle.check_core.specs.Report.{IsToldFault, fault_line, refused_line}

-- of these objects, in order, these are accepted, and the others are told a line each
pub data AreJudged : List ObjectForm → List ObjectForm → List ℕ → Type 0 where
  no_object : AreJudged [] [] []
  and_accepted : {all ready : List ObjectForm} {text : List ℕ} (o : ObjectForm) → AreJudged all ready text →
      IsExclusive o → AreJudged (all ++ o ∷ []) (ready ++ o ∷ []) text
  and_refused : {all ready : List ObjectForm} {text : List ℕ} (o : ObjectForm) (i j p : ℕ) → AreJudged all ready text →
      IsFirstUnseparated o i j p → AreJudged (all ++ o ∷ []) ready (text ++ refused_line o i j p)

-- a source whose objects are these, each accepted
abbrev pub IsServed : List ℕ → List ObjectForm → Type 0
IsServed source objects = AreObjectsOf source objects × AreJudged objects objects []

-- A source that is not served, and the text that says why: a line for each object that is refused, or the
-- fault of the source.
pub data IsUnserved (source : List ℕ) : List ℕ → Type 0 where
  refused : {objects ready : List ObjectForm} {text : List ℕ} → AreObjectsOf source objects →
      AreJudged objects ready text → text ≢ [] → IsUnserved source text
  faulty : {fault : DeclFault} → IsToldFault source fault → IsUnserved source (fault_line fault)

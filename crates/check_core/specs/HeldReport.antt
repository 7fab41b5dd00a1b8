-- What a check of a source with holds writes.
use Rattle.std.specs.Prelude.{ℕ, ◌+◌, List, [], ◌∷◌, ◌++◌, length}
use Rattle.decl_core.specs.ObjectForm.{ObjectForm}
use Rattle.decl_core.specs.declared.certificate.SeparatedPair.{SeparatedPair}
use Rattle.decl_core.specs.Exclusive.{IsExclusive, IsFirstUnseparated}
use Rattle.decl_core.specs.Certificate.{IsFirstCertificate}
use Rattle.check_core.specs.declared.report.CheckEnd.{CheckEnd}
use Rattle.check_core.specs.declared.report.CheckEnd.TheVariants as ends
use Rattle.check_core.specs.Report.{accepted_lines, count_line, refused_line}
use Rattle.decl_core.specs.HoldForm.{RulesForm}
use Rattle.check_core.specs.HoldLines.{rule_lines}

-- What an object is told, and how many of it are refused: an accepted one gets what `check` says, and the lines of its
-- holds behind that.
pub data IsHeldReported (o : ObjectForm) (r : RulesForm) : ℕ → List ℕ → Type 0 where
  accepted : {entries : List SeparatedPair} → IsExclusive o → IsFirstCertificate o entries →
      IsHeldReported o r 0 (accepted_lines o entries ++ rule_lines o r)
  refused : {i j p : ℕ} → IsFirstUnseparated o i j p → IsHeldReported o r 1 (refused_line o i j p)

-- what objects are told one after the other, and how many of them are refused
pub data AreHeldReported : List ObjectForm → List RulesForm → ℕ → List ℕ → Type 0 where
  no_object : AreHeldReported [] [] 0 []
  and_object : {before : List ObjectForm} {rules : List RulesForm} {o : ObjectForm} {r : RulesForm} {n m : ℕ}
      {text more : List ℕ} → AreHeldReported before rules n text → IsHeldReported o r m more →
      AreHeldReported (before ++ o ∷ []) (rules ++ r ∷ []) (n + m) (text ++ more)

-- what is written of objects with holds, and how it ends: one after the other, and their counts
pub data IsHeldCheck (objects : List ObjectForm) (all : List RulesForm) : CheckEnd → List ℕ → Type 0 where
  counted : {refused : ℕ} {text : List ℕ} → AreHeldReported objects all refused text →
      IsHeldCheck objects all (ends.Counted (length objects) refused) (text ++ count_line (length objects) refused)

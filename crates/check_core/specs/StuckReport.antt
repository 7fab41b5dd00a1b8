-- What a check of a source writes that is also asked what can get stuck.
use Rattle.std.specs.Prelude.{ℕ, ◌+◌, ◌||◌, Bool, false, List, [], ◌∷◌, ◌++◌, length}
use Rattle.decl_core.specs.ObjectForm.{ObjectForm}
use Rattle.decl_read.specs.Sources.{AreObjectsOf}
use Rattle.decl_read.specs.declared.fault.DeclFault.{DeclFault}
use Rattle.decl_core.specs.declared.certificate.SeparatedPair.{SeparatedPair}
use Rattle.decl_core.specs.Exclusive.{IsExclusive, IsFirstUnseparated}
use Rattle.decl_core.specs.Certificate.{IsFirstCertificate}
use Rattle.check_core.specs.declared.report.CheckEnd.{CheckEnd}
use Rattle.check_core.specs.declared.report.CheckEnd.TheVariants as ends
use Rattle.check_core.specs.Report.{IsToldFault, accepted_lines, count_line, fault_line, refused_line}
use Rattle.stuck_core.specs.declared.found.Findings.{Findings}
use Rattle.stuck_core.specs.Found.{IsTold}
use Rattle.check_core.specs.Lines.{told_lines, some_lost}

-- What an object is told, how many of it are refused, and whether an operation of it is lost: an accepted object gets
-- what `check` says, and what is true of what can be lost, waited for and stuck.
pub data IsSaid (o : ObjectForm) : ℕ → Bool → List ℕ → Type 0 where
  accepted : {entries : List SeparatedPair} {found : Findings} → IsExclusive o → IsFirstCertificate o entries →
      IsTold o.paths (length o.operations) found →
      IsSaid o 0 (some_lost found.each.items) (accepted_lines o entries ++ told_lines o found)
  refused : {i j p : ℕ} → IsFirstUnseparated o i j p → IsSaid o 1 false (refused_line o i j p)

-- what objects are told one after the other, how many of them are refused, and whether one loses an operation
pub data AreSaid : List ObjectForm → ℕ → Bool → List ℕ → Type 0 where
  no_object : AreSaid [] 0 false []
  and_object : {before : List ObjectForm} {o : ObjectForm} {n m : ℕ} {k l : Bool} {text more : List ℕ} →
      AreSaid before n k text → IsSaid o m l more → AreSaid (before ++ o ∷ []) (n + m) (k || l) (text ++ more)

-- What is written of a source, how it ends, and whether an operation is lost: the objects one after the other and their
-- counts, or the line of the fault alone.
pub data IsStuckCheck (source : List ℕ) : CheckEnd → Bool → List ℕ → Type 0 where
  counted : {objects : List ObjectForm} {refused : ℕ} {lost : Bool} {text : List ℕ} → AreObjectsOf source objects →
      AreSaid objects refused lost text →
      IsStuckCheck source (ends.Counted (length objects) refused) lost (text ++ count_line (length objects) refused)
  faulty : {fault : DeclFault} → IsToldFault source fault → IsStuckCheck source ends.Faulty false (fault_line fault)

-- What becomes of a body that stopped.
use Rattle.std.proofs.Common.{◌≡◌, ℕ, ◌<◌, ◌≤◌, List, [], length, map, refl, sym, ap, subst, arith}
use Rattle.value_core.specs.declared.datum.Datum.{Datum}
use Rattle.value_core.specs.Contents.{Contents, kind_of}
use Rattle.decl_core.specs.declared.object.Operation.{Operation}
use Rattle.decl_core.specs.Bodies.{body_of}
use Rattle.known_core.specs.declared.act.Stop.{Stop}
use Rattle.known_core.specs.declared.act.Stop.TheVariants as stops
use Rattle.known_core.specs.Breaks.{StopTells}
use Rattle.known_core.specs.Masks.{known_by}
use Rattle.known_core.specs.Partly.{partly_done}
use Rattle.known_core.specs.Wanted.{AreMasksFor}
use Rattle.known_core.proofs.Full.{needs_within}
use Rattle.page_core.specs.Given.{AreSpelled}
use Rattle.run_core.specs.Verdicts.{ReadAs}
use Rattle.run_core.specs.declared.judge.Verdict.{Verdict}
use Rattle.run_core.specs.Reads.{AreKnown}
use Rattle.run_core.specs.Judged.{JudgedOn, IsNextOf, OnlyWrites, Settled, StoppedAs}
use Rattle.run_core.proofs.Deciding.{is_refused, is_due, next_of}

pub within : (masks : List ℕ) (operation : Operation) (args : List Datum) (parts after : List Contents) (stop : Stop) → StopTells (partly_done (known_by masks) (body_of operation) args parts) stop → length after ≡ length parts → (p i : ℕ) → stop ≡ stops.Needs p i → p < length after
within masks operation args parts after (stops.Refused w) tells many p i is = absurd cc
within masks operation args parts after (stops.Needs q j) tells many p i is =
    let same : q ≡ p = cc in
    subst (λ n. p < n) (sym many) (subst (λ k. k < length parts) same (needs_within (known_by masks) (body_of operation) args parts q j tells))
within masks operation args parts after stops.Memory tells many p i is = absurd cc

pub judged : (masks : List ℕ) (operation : Operation) (args : List Datum) (read : List (List ℕ)) (parts after : List Contents) (stop : Stop) (verdict : Verdict) → AreSpelled (ReadAs read) operation parts
    → StopTells (partly_done (known_by masks) (body_of operation) args parts) stop → StoppedAs after stop verdict → (whole : List (List ℕ)) → AreKnown masks operation read (ReadAs whole) → JudgedOn masks operation args read whole verdict
judged masks operation args read parts after (stops.Refused w) verdict spelled tells so whole known = subst (JudgedOn masks operation args read whole) (sym so) (is_refused masks operation args read (ReadAs whole) parts spelled known w tells)
judged masks operation args read parts after (stops.Needs p i) verdict spelled tells so whole known = subst (JudgedOn masks operation args read whole) (sym so.0) (is_due masks operation args read (ReadAs whole) parts spelled known p i tells)
judged masks operation args read parts after stops.Memory verdict spelled tells so whole known = subst (JudgedOn masks operation args read whole) (sym so) tt

pub next : (masks : List ℕ) (operation : Operation) (args : List Datum) (read : List (List ℕ)) (parts after : List Contents) (stop : Stop) (verdict : Verdict) → AreSpelled (ReadAs read) operation parts → AreMasksFor operation masks → length parts ≤ 16
    → StopTells (partly_done (known_by masks) (body_of operation) args parts) stop → map kind_of after ≡ map kind_of parts → StoppedAs after stop verdict → IsNextOf masks operation verdict
next masks operation args read parts after (stops.Refused w) verdict spelled fit few tells kinds so = subst (IsNextOf masks operation) (sym so) tt
next masks operation args read parts after (stops.Needs p i) verdict spelled fit few tells kinds so = subst (IsNextOf masks operation) (sym so.0) (next_of masks operation args read parts after p i spelled fit few tells kinds so.1)
next masks operation args read parts after stops.Memory verdict spelled fit few tells kinds so = subst (IsNextOf masks operation) (sym so) tt

-- what stopped changes nothing
pub writes : (operation : Operation) (after : List Contents) (stop : Stop) (verdict : Verdict) → StoppedAs after stop verdict → OnlyWrites operation verdict
writes operation after (stops.Refused w) verdict so = subst (OnlyWrites operation) (sym so) tt
writes operation after (stops.Needs p i) verdict so = subst (OnlyWrites operation) (sym so.0) tt
writes operation after stops.Memory verdict so = subst (OnlyWrites operation) (sym so) tt

-- where there is no part, what stopped is refused
pub settled : (masks : List ℕ) (operation : Operation) (args : List Datum) (parts after : List Contents) (stop : Stop) (verdict : Verdict) → StopTells (partly_done (known_by masks) (body_of operation) args parts) stop
    → (stop ≡ stops.Memory → 0 < length parts) → StoppedAs after stop verdict → parts ≡ [] → Settled verdict
settled masks operation args parts after (stops.Refused w) verdict tells memory so none = subst Settled (sym so) tt
settled masks operation args parts after (stops.Needs p i) verdict tells memory so none = absurd (omega (arith, needs_within (known_by masks) (body_of operation) args parts p i tells, ap length none))
settled masks operation args parts after stops.Memory verdict tells memory so none = absurd (omega (arith, memory refl, ap length none))

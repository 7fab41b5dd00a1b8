-- What becomes of a body on what was read of its parts, as said of their whole bytes.
use Rattle.std.specs.Prelude.{◌≡◌, ◌≤◌, ℕ, List, [], length}
use Rattle.value_core.specs.declared.datum.Datum.{Datum}
use Rattle.value_core.specs.Contents.{Contents, IsContents}
use Rattle.decl_core.specs.declared.object.Operation.{Operation}
use Rattle.decl_core.specs.Bodies.{body_of}
use Rattle.decl_core.specs.Meaning.{part_at}
use Rattle.apply_core.specs.Pages.{page_of}
use Rattle.known_core.specs.declared.act.Stop.{Stop}
use Rattle.known_core.specs.declared.act.Stop.TheVariants as stops
use Rattle.known_core.specs.Wanted.{IsNextPage}
use Rattle.page_core.specs.Given.{IsDone, IsRefused, IsDamaged}
use Rattle.run_core.specs.Verdicts.{ReadAs, Rising}
use Rattle.run_core.specs.declared.judge.Verdict.{Verdict}
use Rattle.run_core.specs.declared.judge.Verdict.TheVariants.{Done, Refused, Needs, Damaged, Memory}
use Rattle.run_core.specs.Reads.{IsDue}
use Rattle.run_core.specs.Wholes.{AreChangesOf}

-- what the body gives on the contents that the whole bytes spell; want of memory says nothing
abbrev pub JudgedOn : List ℕ → Operation → List Datum → List (List ℕ) → List (List ℕ) → Verdict → Type 0
JudgedOn masks operation arguments read whole (Done reply changes) =
    IsDone (ReadAs whole) operation arguments reply (AreChangesOf masks operation read (ReadAs whole) changes.items)
JudgedOn masks operation arguments read whole (Refused word) = IsRefused (ReadAs whole) operation arguments word
JudgedOn masks operation arguments read whole (Needs p k) = IsDue masks (ReadAs whole) operation arguments p k
JudgedOn masks operation arguments read whole Damaged = IsDamaged (ReadAs whole) operation
JudgedOn masks operation arguments read whole Memory = Unit {0}

-- what is needed is a page that is there and not known
abbrev pub IsNextOf : List ℕ → Operation → Verdict → Type 0
IsNextOf masks operation (Done reply changes) = Unit {0}
IsNextOf masks operation (Refused word) = Unit {0}
IsNextOf masks operation (Needs p k) = IsNextPage masks operation p k
IsNextOf masks operation Damaged = Unit {0}
IsNextOf masks operation Memory = Unit {0}

-- only parts of its writes are changed, each once, in order
abbrev pub OnlyWrites : Operation → Verdict → Type 0
OnlyWrites operation (Done reply changes) =
    Rising (body_of operation).statements 0 changes.items × (length changes.items ≤ 16)
OnlyWrites operation (Refused word) = Unit {0}
OnlyWrites operation (Needs p k) = Unit {0}
OnlyWrites operation Damaged = Unit {0}
OnlyWrites operation Memory = Unit {0}

-- it is done and changed no part, or it is refused
abbrev pub Settled : Verdict → Type 0
Settled (Done reply changes) = changes.items ≡ []
Settled (Refused word) = Unit {0}
Settled (Needs p k) = ⊥
Settled Damaged = ⊥
Settled Memory = ⊥

-- what becomes of a body that stopped, and left these parts
abbrev pub StoppedAs : List Contents → Stop → Verdict → Type 0
StoppedAs parts (stops.Refused w) verdict = verdict ≡ Refused w
StoppedAs parts (stops.Needs p i) verdict = (verdict ≡ Needs p (page_of i)) × IsContents (part_at parts p)
StoppedAs parts stops.Memory verdict = verdict ≡ Memory

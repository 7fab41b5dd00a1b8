-- What closing all objects comes to.
use Rattle.std.specs.Prelude.{◌≡◌, ◌≤◌, ℕ, List, [], ◌∷◌, ◌++◌, length, map, Bool, false, IsTrue, Option, None}
use Rattle.value_core.specs.declared.machine.LinesFault.{LinesFault}
use Rattle.value_core.specs.Contents.{Contents}
use Rattle.device_core.specs.Device.{Assignment}
use Rattle.device_core.specs.Papers.{Papers}
use Rattle.apply_core.specs.History.{IsLegal}
use Rattle.page_core.specs.Lists.{Every}
use Rattle.board_core.specs.Chain.{ShowContents, history_of}
use Rattle.board_core.specs.Sound.{kinds_of}
use Rattle.office_core.specs.Slips.{Told, IsTrueTold}
use Rattle.keep_core.specs.declared.opening.ObjectOpening.{ObjectOpening}
use Rattle.keep_core.specs.Opening.{values_of}
use Rattle.keep_core.specs.Troubles.{first_of}
use Rattle.keep_core.specs.Lines.{AreSaid, IsOfClosing, entries_line}
use Rattle.keep_core.specs.Kept.{AreStored, stored_times, once}
use Rattle.keep_core.specs.Ends.{Ended, IsAtEnd, IsKept, lines_of, refused_after, trace_of}
use Rattle.serve_core.specs.Backed.{AreBacked, AreBackedBy}
use Rattle.keep_core.specs.Moments.{Moment}

-- the names of objects that have ended
abbrev pub names_of : List Ended → List (List ℕ)
names_of ends = map (λ (e : Ended). e.name) ends

-- what their parts opened with
abbrev pub openings_of : List Ended → List ObjectOpening
openings_of ends = map (λ (e : Ended). e.opening) ends

-- the receipts that their sessions left
abbrev pub slips_of : List Ended → List (List Told)
slips_of ends = map (λ (e : Ended). e.slips) ends

-- hands show that the receipts of each are true
abbrev pub AreBackedAll : {H : Type 0} → (H → Assignment → Type 0) → List Ended → Type 0
AreBackedAll {H} backs ends = Every (λ (e : Ended). AreBacked backs e.slips) ends

-- There are hands, those of the sessions of an object, by which its receipts are true: each assignment that agrees with
-- all of them makes each true. Where the object was closed, and its opening pins show contents by such an assignment,
-- the history is legal from these.
pub record IsLegalBy {H : Type 0} (backs : H → Assignment → Type 0) (e : Ended) : Type 0 where
  pub hands : List H
  pub backed : AreBackedBy backs hands e.slips
  pub legal : IsTrue e.became.closed → (a : Assignment) →
      Every (λ (hand : H). backs hand a) hands → (contents : List Contents) →
      ShowContents a (kinds_of e.board.object) e.board.opening contents → IsLegal (history_of e.board.history) contents

-- Where it was closed, and each of its receipts is true of this assignment, its history is legal from the values with
-- which its parts opened.
abbrev pub IsFromOpening : Assignment → Ended → Type 0
IsFromOpening a e =
    IsTrue e.became.closed → Every (IsTrueTold a) e.slips → IsLegal (history_of e.board.history) (values_of e.opening)

-- the lines that are told of them, in order
abbrev pub lines_all : List Ended → List (List ℕ)
lines_all [] = []
lines_all (e ∷ ends) = lines_of e ++ lines_all ends

-- `NAME entries K` of each
abbrev pub entries_all : List Ended → List (List ℕ)
entries_all [] = []
entries_all (e ∷ ends) = entries_line e.name (length e.board.history) ∷ entries_all ends

-- whether a line said that something is refused or damaged, where these have ended too
abbrev pub refused_all : Bool → List Ended → Bool
refused_all refused [] = refused
refused_all refused (e ∷ ends) = refused_all (refused_after refused e) ends

-- the parts of each were stored, those of one behind those of the other
abbrev pub AreStoredAll : (Assignment → Type 0) → Papers → List Ended → Papers → Type 0
AreStoredAll agrees before [] papers = papers ≡ before
AreStoredAll agrees before (e ∷ ends) papers =
    (mid : Papers) × AreStored agrees e.board.object e.board.pins 0 (length e.board.object.parts.items) e.became.saved
    before mid × AreStoredAll agrees mid ends papers

-- the trace of each was stored, where it is said to be
abbrev pub AreTracedAll : Papers → List Ended → Papers → Type 0
AreTracedAll before [] papers = papers ≡ before
AreTracedAll before (e ∷ ends) papers =
    (mid : Papers) × ((times : ℕ) × (once e.became.traced ≤ times)
    × (mid ≡ stored_times times before e.board.object.name (trace_of e.board (values_of e.opening)))) × AreTracedAll mid ends papers

-- closed, saved and traced, and no part is damaged
abbrev pub IsWhole : Ended → Type 0
IsWhole e = IsKept e.became × (e.damaged ≡ [])

-- What closing objects, one after the other, comes to: the first fault that was met, what was told and
-- noted, and what is stored.
pub record AreEndings (before after : Moment) (ends : List Ended) : Type 0 where
  pub each : Every IsAtEnd ends
  pub met : Option LinesFault
  pub closing : IsOfClosing met
  pub fault : after.trouble.fault ≡ first_of before.trouble.fault met
  pub refused : after.trouble.refused ≡ refused_all before.trouble.refused ends
  pub said : AreSaid (lines_all ends) met before.written after.written
  pub whole : met ≡ None → refused_all false ends ≡ false → Every IsWhole ends
  pub stored : (papers : Papers) → after.parts papers →
      (base : Papers) × before.parts base × AreStoredAll after.files base ends papers
  pub traced : (papers : Papers) → after.traces papers →
      (base : Papers) × before.traces base × AreTracedAll base ends papers
  pub keeps : IsTrue after.keeps_all → IsTrue before.keeps_all
      × Every (λ (e : Ended). IsTrue e.became.saved × IsTrue e.became.traced) ends

-- Objects of these names were closed, each with what its parts opened with and the receipts that its sessions left, and
-- hands show that these are true.
pub record Closes {H : Type 0} (backs : H → Assignment → Type 0) (before after : Moment) (names : List (List ℕ))
    (openings : List ObjectOpening) (slips : List (List Told)) : Type 0 where
  pub ends : List Ended
  pub named : names_of ends ≡ names
  pub opened : openings_of ends ≡ openings
  pub slipped : slips_of ends ≡ slips
  pub backed : AreBackedAll backs ends
  pub endings : AreEndings before after ends
  pub files : (a : Assignment) → after.files a → before.files a

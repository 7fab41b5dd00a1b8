-- What a server writes, and how it ends.
use Rattle.std.specs.Prelude.{◌≡◌, ◌⊎◌, ℕ, Bool, List, [], ◌∷◌, map, Option, Some, None, Result, Ok, Err, codes}
use Rattle.std.specs.Prelude.{length}
use Rattle.std.specs.List.{concat}
use Rattle.std.specs.Io.KnownBytes.{Appends, Keeps}
use Rattle.value_core.specs.declared.machine.LinesFault.{LinesFault}
use Rattle.value_core.specs.declared.machine.LinesFault.TheVariants.{Memory}
use Rattle.value_core.specs.Reply.{reply}
use Rattle.device_core.specs.Device.{Assignment}
use Rattle.device_core.specs.Papers.{Papers}
use Rattle.decl_core.specs.declared.object.Object.{Object}
use Rattle.decl_core.specs.ObjectMap.{objects_of, object_names}
use Rattle.page_core.specs.Opened.{IsFirstDamaged}
use Rattle.page_core.specs.Lists.{Every, Among}
use Rattle.office_core.specs.Slips.{Told}
use Rattle.session_core.specs.declared.order.Named.{Named}
use Rattle.check_core.specs.Judging.{IsServed, IsUnserved}
use Rattle.keep_core.specs.declared.open.NotOpened.{NotOpened}
use Rattle.keep_core.specs.declared.open.NotOpened.TheVariants.{Damaged, Fault}
use Rattle.keep_core.specs.declared.opening.ObjectOpening.{ObjectOpening}
use Rattle.keep_core.specs.declared.trouble.Trouble.{Trouble}
use Rattle.keep_core.specs.Troubles.{first_of}
use Rattle.keep_core.specs.Lines.{AreSaid, damaged_line}
use Rattle.keep_core.specs.Ends.{Ended, IsAtEnd}
use Rattle.serve_core.specs.declared.serve.ServeEnd.{ServeEnd}
use Rattle.serve_core.specs.declared.serve.ServeEnd.TheVariants.{Whole, Refused, Unopened}
use Rattle.serve_core.specs.Ends.{IsEndOf}
use Rattle.serve_core.specs.Gathers.{none_of, IsGathered}
use Rattle.keep_core.specs.Moments.{Moment, with_trouble}
use Rattle.serve_core.specs.Opened.{AreLoadedAll, ArePinnedAll}
use Rattle.serve_core.specs.Closes.{names_of, openings_of, slips_of, lines_all, entries_all, refused_all, IsWhole}
use Rattle.serve_core.specs.Closes.{AreStoredAll, AreTracedAll, IsFromOpening, IsLegalBy, Closes}

-- the names under which offices are opened
abbrev pub named_in : List Named → List (List ℕ)
named_in offices = map (λ (n : Named). n.name) offices

-- the line of a part of one of these objects
abbrev pub IsDamagedLine : List Object → List ℕ → Type 0
IsDamagedLine objects line = (o : Object) × Among o objects × (place : ℕ) × (line ≡ damaged_line o place)

-- the line of a part of one of these objects, the first one of that object that is damaged, whatever the shelf may hold
abbrev pub IsFirstDamagedLine : (Papers → Type 0) → List Object → List ℕ → Type 0
IsFirstDamagedLine holds objects line =
    (o : Object) × Among o objects × (place : ℕ) × (line ≡ damaged_line o place)
    × ((papers : Papers) → holds papers → IsFirstDamaged papers o.name o.parts.items place)

-- why these objects are not opened: the line that says so is that of the first damaged part of one of them
abbrev pub IsNotOpenedOf : (Papers → Type 0) → List Object → NotOpened → Type 0
IsNotOpenedOf holds objects (Damaged line) = IsFirstDamagedLine holds objects line.items
IsNotOpenedOf holds objects (Fault fault) = Unit {0}

-- this is the line that says why objects are not opened
abbrev pub IsLineOf : NotOpened → List ℕ → Type 0
IsLineOf (Damaged text) line = line ≡ text.items
IsLineOf (Fault fault) line = ⊥

-- `listening PLACE`: a port, or the path of a socket
abbrev pub listening_line : List ℕ → List ℕ
listening_line place = reply (codes "listening ") place

-- the fault with which a server ends
abbrev pub fault_of_end : Result ServeEnd LinesFault → Option LinesFault
fault_of_end (Ok end) = None
fault_of_end (Err fault) = Some fault

-- What the sessions left of objects under these names was gathered, and then they were closed.
pub record GathersAndCloses {H : Type 0} (backs : H → Assignment → Type 0) (before after : Moment)
    (names : List (List ℕ)) (openings : List ObjectOpening) : Type 0 where
  pub gathered : Trouble
  pub slips : List (List Told)
  pub gathers : IsGathered H (none_of (length names)) before.trouble gathered slips
  pub closes : Closes backs (with_trouble before gathered) after names openings slips

-- These objects were served: `listening PLACE` is written, and then, for each object in order, the lines for how it
-- ended. The end is the first fault, those of sessions before those of the objects' ends; else refused, where a line
-- says that something is; else whole, and then each object was closed, saved and traced, and its line is `NAME entries
-- K`, K the length of its history. Memory may be refused behind that.
--
-- The receipts of each object are those that were gathered of its sessions. By the hands of these they are true, and
-- where the object was closed its history is legal.
pub record AreServed {H : Type 0} (backs : H → Assignment → Type 0) (objects : List Object)
    (end : Result ServeEnd LinesFault) (old new : Option (List ℕ)) : Type 0 where
  pub place : List ℕ
  pub ends : List Ended
  pub named : names_of ends ≡ object_names objects
  pub each : Every IsAtEnd ends
  pub said : AreSaid (listening_line place ∷ lines_all ends) (fault_of_end end) old new
  pub begun : Trouble
  pub gathered : Trouble
  pub gathers : IsGathered H (none_of (length objects)) begun gathered (slips_of ends)
  pub legal : Every (IsLegalBy backs) ends
  pub met : Option LinesFault
  pub by : IsEndOf (first_of gathered.fault met) (refused_all gathered.refused ends) end ⊎ (end ≡ Err Memory)
  pub whole : end ≡ Ok Whole → Every IsWhole ends × Appends old new (concat (listening_line place ∷ entries_all ends))

-- What is stored of objects that have ended. The parts of each opened with what the shelf had before, pages were sealed
-- with that, and it stands at the head of the trace. Where an object was closed, its history is legal from that. What is
-- stored then are the bytes under the pins at the end.
pub record AreKept (before after : Moment) (objects : List Object) (ends : List Ended) : Type 0 where
  pub pinned : ArePinnedAll after.files objects (openings_of ends)
  pub legal : (a : Assignment) → after.files a → Every (IsFromOpening a) ends
  pub stored : (papers : Papers) → after.parts papers →
      (base : Papers) × before.parts base × AreLoadedAll base objects (openings_of ends)
      × AreStoredAll after.files base ends papers
  pub traced : (papers : Papers) → after.traces papers →
      (base : Papers) × before.traces base × AreTracedAll base ends papers

-- What is written where no object is served: such a line of a part that is damaged, or nothing; where a fault comes a
-- front of one line at most.
abbrev pub IsUnservedBy : (List ℕ → Type 0) → List (List ℕ) → Result ServeEnd LinesFault → Type 0
IsUnservedBy damaged lines (Ok Whole) = ⊥
IsUnservedBy damaged lines (Ok Refused) = (line : List ℕ) × damaged line × (lines ≡ line ∷ [])
IsUnservedBy damaged lines (Ok Unopened) = lines ≡ []
IsUnservedBy damaged lines (Err fault) =
    (lines ≡ []) ⊎ ((place : List ℕ) × (lines ≡ listening_line place ∷ []))
    ⊎ ((line : List ℕ) × damaged line × (lines ≡ line ∷ []))

pub record AreNotServed (damaged : List ℕ → Type 0) (end : Result ServeEnd LinesFault)
    (old new : Option (List ℕ)) : Type 0 where
  pub lines : List (List ℕ)
  pub by : IsUnservedBy damaged lines end
  pub said : AreSaid lines (fault_of_end end) old new

-- objects are served or not
abbrev pub IsRunOf : {H : Type 0} → (H → Assignment → Type 0) → List Object → Result ServeEnd LinesFault →
    Option (List ℕ) → Option (List ℕ) → Type 0
IsRunOf backs objects end old new =
    AreServed backs objects end old new ⊎ AreNotServed (IsDamagedLine objects) end old new

-- The same, with what is stored, and a damaged part is the first one by what is stored. Where they are not served, no
-- session was: the hands for these are as they were.
abbrev pub IsRunIn : {H : Type 0} → (H → Assignment → Type 0) → Moment → Moment → List H → List H → List Object →
    Result ServeEnd LinesFault → Type 0
IsRunIn backs before after were are objects end =
    ((run : AreServed backs objects end before.written after.written) × AreKept before after objects run.ends)
    ⊎ (AreNotServed (IsFirstDamagedLine after.parts objects) end before.written after.written × (are ≡ were))

-- an end that says that something is refused, or that writing so failed
abbrev pub IsRefusal : Result ServeEnd LinesFault → Type 0
IsRefusal (Ok Whole) = ⊥
IsRefusal (Ok Refused) = Unit {0}
IsRefusal (Ok Unopened) = ⊥
IsRefusal (Err fault) = Unit {0}

-- a text was written that says so
pub record IsRefusedBy (text : List ℕ) (end : Result ServeEnd LinesFault) (old new : Option (List ℕ)) : Type 0 where
  pub ends : IsRefusal end
  pub said : AreSaid (text ∷ []) (fault_of_end end) old new

-- What a server makes of a source, what it writes and how it ends: the source is not served, and what says why is
-- written; or memory is refused, and nothing is; or each of its objects is accepted, and they are served or not.
abbrev pub IsRun : {H : Type 0} → (H → Assignment → Type 0) → List ℕ → Result ServeEnd LinesFault →
    Option (List ℕ) → Option (List ℕ) → Type 0
IsRun backs source end old new =
    ((text : List ℕ) × IsUnserved source text × IsRefusedBy text end old new)
    ⊎ ((end ≡ Err Memory) × Keeps old new)
    ⊎ ((objects : List Object) × IsServed source (objects_of objects) × IsRunOf backs objects end old new)

-- the end, or that memory was refused behind it
abbrev pub IsEndBehind : Result ServeEnd LinesFault → Result ServeEnd LinesFault → Type 0
IsEndBehind before end = (end ≡ before) ⊎ (end ≡ Err Memory)

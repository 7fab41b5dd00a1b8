-- What becomes of an object at the end.
use Rattle.std.specs.Prelude.{◌≡◌, ◌⊎◌, ℕ, List, [], ◌∷◌, ◌++◌, length, Bool, true, false, cond, IsTrue, Option, None}
use Rattle.value_core.specs.declared.machine.LinesFault.{LinesFault}
use Rattle.value_core.specs.Contents.{Contents}
use Rattle.decl_core.specs.ObjectMap.{object_of}
use Rattle.device_core.specs.Device.{Assignment}
use Rattle.device_core.specs.Papers.{Papers}
use Rattle.word_core.specs.Text.{trace_text as text_of}
use Rattle.page_core.specs.Lists.{Every}
use Rattle.board_core.specs.Board.{Board}
use Rattle.board_core.specs.Sound.{IsSound}
use Rattle.desk_core.specs.Told.{lines_told}
use Rattle.desk_core.specs.Held.{CanBeTold}
use Rattle.office_core.specs.Slips.{Told, StandsIn}
use Rattle.office_core.specs.declared.client_seat.Seat.{Seat}
use Rattle.office_core.specs.declared.inside.CloseFault.{CloseFault}
use Rattle.office_core.specs.Insides.{InsideView}
use Rattle.office_core.specs.Closing.{IsIdle, AreSeatsOf, IsWhyBy, place_told}
use Rattle.office_core.specs.Receipts.{HaveSlips}
use Rattle.keep_core.specs.declared.close.Became.{Became}
use Rattle.keep_core.specs.declared.opening.ObjectOpening.{ObjectOpening}
use Rattle.keep_core.specs.declared.trouble.Trouble.{Trouble}
use Rattle.keep_core.specs.Moments.{Moment}
use Rattle.keep_core.specs.Troubles.{first_of}
use Rattle.keep_core.specs.Opening.{BeganWith, values_of}
use Rattle.keep_core.specs.Lines.{AreSaid, IsOfClosing, damaged_lines, entries_lines, refused_line}
use Rattle.keep_core.specs.Kept.{AreStored, Saves, StoresText, Traces, once, refused_by}

-- whether it was closed, saved and traced
abbrev pub kept_in : Became → Bool
kept_in became = cond became.closed (cond became.saved became.traced false) false

-- it was closed, saved and traced
abbrev pub IsKept : Became → Type 0
IsKept became = IsTrue became.closed × IsTrue became.saved × IsTrue became.traced

-- the text of a board's trace, with these opening values
abbrev pub trace_of : Board → List Contents → List ℕ
trace_of b opening = text_of (object_of b.object) opening (lines_told b)

-- Saving the parts of a desk and writing its trace comes to this.
pub record KeepsDesk (agrees : Assignment → Type 0) (parts_were parts_are traces_were traces_are : Papers → Type 0)
    (b : Board) (opening : List Contents) (closes : Bool) (became : Became) (before after : Trouble)
    (kept_all keeps_all : Bool) (old new : Option (List ℕ)) : Type 0 where
  pub closed : became.closed ≡ closes
  pub between : Trouble
  pub saves : Saves agrees b.object b.pins 0 (length b.object.parts.items) parts_were parts_are became.saved before
      between old new
  pub traces : Traces b.object.name (trace_of b opening) traces_were traces_are became.traced between after
  pub keeps : IsTrue keeps_all → IsTrue kept_all × IsTrue became.saved × IsTrue became.traced
  pub held : CanBeTold b

-- the same of two moments
abbrev pub KeepsIn : Moment → Moment → Board → List Contents → Bool → Became → Type 0
KeepsIn before after b opening closes became =
    KeepsDesk after.files before.parts after.parts before.traces after.traces b opening closes became before.trouble
    after.trouble before.keeps_all after.keeps_all before.written after.written

-- An object at the end: its name, what its parts opened with, the seats and slips that its sessions left, the board of
-- its desk, what became of it, and the places of its parts that are damaged.
pub record Ended : Type 0 where
  pub name : List ℕ
  pub opening : ObjectOpening
  pub seats : List Seat
  pub slips : List Told
  pub board : Board
  pub became : Became
  pub damaged : List ℕ

-- the lines that are told of it: that it does not close; its damaged parts; and how long its history is, where it was
-- closed, saved and traced
abbrev pub lines_of : Ended → List (List ℕ)
lines_of e =
    cond e.became.closed [] (refused_line e.name ∷ [])
    ++ (damaged_lines e.board.object e.damaged ++ entries_lines (kept_in e.became) e.name (length e.board.history))

-- whether a line said that something is refused or damaged, where this object has ended too
abbrev pub refused_after : Bool → Ended → Bool
refused_after refused e = cond e.became.closed (refused_by refused e.damaged) true

-- What sessions left of an office adds up: no call waits or runs, each session has its seat, the seats count the
-- entries, and each slip is of the entry at its place.
abbrev pub AddsUp : InsideView → List Seat → List Told → Type 0
AddsUp r seats slips = IsIdle r.board × AreSeatsOf r seats × Every (StandsIn r.board.history) slips

-- A board is of the object of this name, it began with this opening, and each entry of its history has a slip.
abbrev pub HasAll : List ℕ → ObjectOpening → Board → List Told → Type 0
HasAll name opening b slips = (b.object.name ≡ name) × BeganWith b opening × HaveSlips b.history slips

-- The office of the object of this name, which began with this opening, was closed: what its sessions left adds up, and
-- nothing is missing. Or it was not: for the first cause for which that does not add up; or it adds up, and an entry has
-- no slip or the office is another one.
abbrev pub IsClosed : Bool → List ℕ → ObjectOpening → InsideView → List Seat → List Told → Type 0
IsClosed true name opening r seats slips = AddsUp r seats slips × HasAll name opening r.board slips
IsClosed false name opening r seats slips =
    ((why : CloseFault) × IsWhyBy Told StandsIn place_told r seats slips why)
    ⊎ (AddsUp r seats slips × (HasAll name opening r.board slips → ⊥))

-- its board is that of an office, which was closed with what its sessions left or not; and lines can tell of it
pub record IsAtEnd (e : Ended) : Type 0 where
  pub sound : IsSound e.board
  pub held : CanBeTold e.board
  pub inside : InsideView
  pub of : inside.board ≡ e.board
  pub closed : IsClosed e.became.closed e.name e.opening inside e.seats e.slips

-- it is the one of this name, with this opening, these seats and slips
pub record IsOf (name : List ℕ) (opening : ObjectOpening) (seats : List Seat) (slips : List Told)
    (e : Ended) : Type 0 where
  pub named : e.name ≡ name
  pub opened : e.opening ≡ opening
  pub seated : e.seats ≡ seats
  pub slipped : e.slips ≡ slips

-- What closing an object comes to: the first fault that was met, what was told and noted, and what is stored. The parts
-- were saved from its pins, and the trace is the text of its board's.
pub record IsEnding (agrees : Assignment → Type 0) (parts_were parts_are traces_were traces_are : Papers → Type 0)
    (e : Ended) (before after : Trouble) (kept_all keeps_all : Bool) (old new : Option (List ℕ)) : Type 0 where
  pub ended : IsAtEnd e
  pub met : Option LinesFault
  pub closing : IsOfClosing met
  pub fault : after.fault ≡ first_of before.fault met
  pub refused : after.refused ≡ refused_after before.refused e
  pub said : AreSaid (lines_of e) met old new
  pub whole : met ≡ None → refused_after false e ≡ false → IsKept e.became
  pub stored : (papers : Papers) → parts_are papers →
      (base : Papers) × parts_were base × AreStored agrees e.board.object e.board.pins 0
      (length e.board.object.parts.items) e.became.saved base papers
  pub traced : StoresText (once e.became.traced) e.board.object.name (trace_of e.board (values_of e.opening)) traces_were
      traces_are
  pub keeps : IsTrue keeps_all → IsTrue kept_all × IsTrue e.became.saved × IsTrue e.became.traced

-- the same of two moments
abbrev pub IsEndingIn : Moment → Moment → Ended → Type 0
IsEndingIn before after e =
    IsEnding after.files before.parts after.parts before.traces after.traces e before.trouble after.trouble
    before.keeps_all after.keeps_all before.written after.written

-- an object at its end, by what is known of it where its board was ended
abbrev pub ended_of : List ℕ → ObjectOpening → List Seat → List Told → Board → Became → List ℕ → Ended
ended_of name opening seats slips b became damaged = record {
  name = name;
  opening = opening;
  seats = seats;
  slips = slips;
  board = b;
  became = became;
  damaged = damaged;
}

-- Ending the board of an object comes to this: it is told as closed or not, and the rest is done, whatever its sessions
-- left.
pub record EndsDesk (agrees : Assignment → Type 0) (parts_were parts_are traces_were traces_are : Papers → Type 0)
    (name : List ℕ) (opening : ObjectOpening) (b : Board) (closes : Bool) (before after : Trouble)
    (kept_all keeps_all : Bool) (old new : Option (List ℕ)) : Type 0 where
  pub became : Became
  pub closed : became.closed ≡ closes
  pub damaged : List ℕ
  pub held : CanBeTold b
  pub ends : (seats : List Seat) (slips : List Told) → IsAtEnd (ended_of name opening seats slips b became damaged) →
      IsEnding agrees parts_were parts_are traces_were traces_are
      (ended_of name opening seats slips b became damaged) before after kept_all keeps_all old new

-- the same of two moments
abbrev pub EndsIn : Moment → Moment → List ℕ → ObjectOpening → Board → Bool → Type 0
EndsIn before after name opening b closes =
    EndsDesk after.files before.parts after.parts before.traces after.traces name opening b closes before.trouble
    after.trouble before.keeps_all after.keeps_all before.written after.written

-- The tables of a desk.
use Rattle.std.specs.Prelude.{◌≡◌, ◌≢◌, ℕ, zero, suc, ◌+◌, ◌*◌, ◌≤◌, ◌<◌, List, length, map, slice_get, Option, Some}
use Rattle.std.specs.Prelude.{None, vec_capacity}
use Rattle.std.specs.Arc.{arc_value}
use Rattle.path_count.specs.Stands.{StandsFor}
use Rattle.board_core.specs.declared.event.TraceEvent.{TraceEvent}
use Rattle.board_core.specs.declared.event.TraceEvent.TheVariants.{Start, End}
use Rattle.page_core.specs.Lists.{Every}
use Rattle.page_core.specs.ObjectCalls.{Noted}
use Rattle.board_core.specs.Board.{Board, paths_of, past_of}
use Rattle.board_core.specs.Sound.{IsSound}
use Rattle.board_core.specs.Index.{AreIndexed}
use Rattle.desk_core.specs.declared.marks.Mark.{Mark}
use Rattle.desk_core.specs.declared.marks.Mark.TheVariants as marks
use Rattle.desk_core.specs.declared.roster.Roster.TheInside.{Inside}

-- the end that an entry tells of; where there is none, an event of no call
abbrev pub end_of : Option Noted → TraceEvent
end_of None = Start 0
end_of (Some e) = End e.number e.reply

-- what a mark tells: that a call started, or the end that the entry at its place tells of
abbrev pub event_of : List Noted → Mark → TraceEvent
event_of history (marks.Start n) = Start n
event_of history (marks.End place) = end_of (slice_get history place)

abbrev pub events_of : List Noted → List Mark → List TraceEvent
events_of history all = map (event_of history) all

-- the entry that a mark is of is one of so many
abbrev pub IsMarkIn : ℕ → Mark → Type 0
IsMarkIn count (marks.Start n) = Unit {0}
IsMarkIn count (marks.End place) = place < count

-- the place, from 1, of the entry of the call of this number, and 0 where it has none
abbrev pub IsPlaceOf : List Noted → ℕ → ℕ → Type 0
IsPlaceOf history n zero = Every (λ e. e.number ≢ n) history
IsPlaceOf history n (suc k) = (e : Noted) × (slice_get history k ≡ Some e) × (e.number ≡ n)

-- there is a place for each of so many calls, by its number
pub record ArePlaces (history : List Noted) (count : ℕ) (places : List ℕ) : Type 0 where
  pub each : length places ≡ count
  pub at : (k place : ℕ) → slice_get places k ≡ Some place → IsPlaceOf history (suc k) place

abbrev pub board_of : Inside → Board
board_of d =
    record {
      object = d.accepted;
      calls = map (λ c. arc_value c) d.calls.items;
      trace = events_of d.history.items d.marks.items;
      history = d.history.items;
      waiting = d.waiting;
      running = d.running.items;
      gone = d.gone.items;
      opening = d.opening;
      pins = d.pins;
    }

-- there is room for all that the calls which wait or run will add
pub record HasRoom (d : Inside) : Type 0 where
  pub marks : length d.marks.items + 2 * length d.waiting + length d.running.items ≤ vec_capacity d.marks
  pub history : length d.history.items + length d.waiting + length d.running.items ≤ vec_capacity d.history
  pub running : length d.waiting + length d.running.items ≤ vec_capacity d.running

-- a board that is sound, counters that stand for it, marks and places of its entries, the numbers of each
-- session's calls, and room
pub record IsKept (d : Inside) : Type 0 where
  pub marks : Every (IsMarkIn (length d.history.items)) d.marks.items
  pub places : ArePlaces d.history.items (length d.calls.items) d.places.items
  pub index : AreIndexed (map (λ c. arc_value c) d.calls.items) d.index
  pub sound : IsSound (board_of d)
  pub stands : StandsFor d.counters (length d.accepted.operations.items) (paths_of (board_of d)) (past_of (board_of d))
  pub room : HasRoom d

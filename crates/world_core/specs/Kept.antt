-- What holds of the tables of a world.
use Rattle.std.specs.Prelude.{◌≡◌, ◌<◌, ◌≤◌, ℕ, true, false, List, take, drop, map, length, vec_capacity, slice_get}
use Rattle.std.specs.Prelude.{Some}
use Rattle.value_core.specs.Contents.{Contents}
use Rattle.device_core.specs.declared.file.File.{File}
use Rattle.device_core.specs.declared.hand.Stamp.{Stamp}
use Rattle.device_core.specs.Device.{Assignment}
use Rattle.device_core.specs.Files.{HasFiles, IsOpen, Serves, files_of}
use Rattle.run_core.specs.Runs.{run_call, run_place, run_sealed, PenHolds, SoFar, AreApart}
use Rattle.page_core.specs.Cut.{most_pages}
use Rattle.page_core.specs.Pages.{ArePinsServed}
use Rattle.run_core.specs.Steps.{Place, at_read, at_page, at_create, at_append, at_seal, at_end, AreServed, PinsServed}
use Rattle.page_core.specs.Lists.{Every, EachPair}
use Rattle.board_core.specs.declared.event.TraceEvent.TheVariants.{Start}
use Rattle.page_core.specs.ObjectCalls.{RunningCall, WaitingCall}
use Rattle.board_core.specs.Started.{run_of}
use Rattle.board_core.specs.Board.{Board}
use Rattle.board_core.specs.Chain.{ShowContents, IsTrueEntry}
use Rattle.board_core.specs.Sound.{IsSound, kinds_of}
use Rattle.world_core.specs.declared.slot.Slot.{Slot}
use Rattle.world_core.specs.declared.stage.WorldTables.{WorldTables}
use Rattle.world_core.specs.Scene.{Scene, Standing, call_running}

-- what a run is to whoever drives a world
abbrev pub standing_of : Slot → Standing
standing_of slot = record { call = run_call slot.run; place = run_place slot.run }

abbrev pub scene_of : WorldTables → Scene
scene_of s =
    record { board = s.desk; opening = s.opening.items; files = files_of s.hand; runs = map standing_of s.runs.items }

-- the page that is read there has one of the places that a page may have
abbrev pub IsNear : Place → Type 0
IsNear (at_read part page) = page < most_pages
IsNear (at_page known part page) = page < most_pages
IsNear (at_create writes sealed) = Unit {0}
IsNear (at_append writes sealed) = Unit {0}
IsNear (at_seal writes sealed) = Unit {0}
IsNear (at_end reply sealed) = Unit {0}

-- no pin has more pages than a part may have
abbrev pub ArePinsShort : List (List Stamp) → Type 0
ArePinsShort pins = (p : ℕ) (pages : List Stamp) → slice_get pins p ≡ Some pages → length pages ≤ most_pages

-- A run can go on over these files: they hold what it appended, its pins and what it sealed can be read, and what it
-- has found is true of each assignment that agrees.
pub record IsReady (files : List File) (slot : Slot) : Type 0 where
  pub pen : PenHolds (λ n b. IsOpen files n b) slot.run
  pub pins : PinsServed (λ s. Serves files s) (run_call slot.run)
  pub written : AreServed (λ s. Serves files s) (run_sealed slot.run)
  pub found : (a : Assignment) → HasFiles files a → SoFar a slot.run
  pub near : IsNear (run_place slot.run)
  pub number : slot.number ≡ (run_call slot.run).number

-- a board, files, and the runs of the first running calls, whose tickets were taken
pub record IsKept (b : Board) (files : List File) (runs : List Slot) (values : List Contents) : Type 0 where
  pub sound : IsSound b
  pub few : length runs ≤ length b.running
  pub taken : Every (λ (r : RunningCall). r.taken ≡ true) (take (length runs) b.running)
  pub left : Every (λ (r : RunningCall). r.taken ≡ false) (drop (length runs) b.running)
  pub calls : map (λ slot. run_call slot.run) runs ≡ map call_running (take (length runs) b.running)
  pub ready : Every (IsReady files) runs
  pub apart : EachPair (λ (x y : Slot). AreApart x.run y.run) runs
  pub served : ArePinsServed (λ s. Serves files s) b.pins
  pub short : ArePinsShort b.pins
  pub opening : (a : Assignment) → HasFiles files a → ShowContents a (kinds_of b.object) b.opening values
  pub entries : (a : Assignment) → HasFiles files a → Every (IsTrueEntry a) b.history

-- the running calls without a run, and the last events of the trace, are those of calls that have just started
pub record HasNew (b : Board) (begun from : ℕ) (ones : List WaitingCall) : Type 0 where
  pub running : drop begun b.running ≡ map (run_of b.pins) ones
  pub trace : drop from b.trace ≡ map (λ (w : WaitingCall). Start w.number) ones
  pub within : from ≤ length b.trace

-- the tables of a world, where each running call has its run
pub record IsStaged (s : WorldTables) : Type 0 where
  pub kept : IsKept s.desk (files_of s.hand) s.runs.items s.opening.items
  pub all : length s.runs.items ≡ length s.desk.running
  pub room : 256 ≤ vec_capacity s.runs

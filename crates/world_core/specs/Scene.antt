-- A world, as contracts see it.
use Rattle.std.specs.Prelude.{◌≡◌, ℕ, true, List, [], ◌∷◌, ◌++◌, length, map, slice_get, Some}
use Rattle.value_core.specs.Contents.{Contents}
use Rattle.value_core.specs.Meaning.{opening_of}
use Rattle.decl_core.specs.declared.object.Object.{Object}
use Rattle.device_core.specs.declared.hand.Stamp.{Stamp}
use Rattle.device_core.specs.declared.file.File.{File}
use Rattle.device_core.specs.Device.{Assignment}
use Rattle.device_core.specs.Files.{HasFiles}
use Rattle.page_core.specs.CallPins.{Call, call_of}
use Rattle.run_core.specs.Steps.{Place, Starts}
use Rattle.page_core.specs.ObjectCalls.{RunningCall}
use Rattle.board_core.specs.Board.{Board, opened}
use Rattle.board_core.specs.Sound.{kinds_of}
use Rattle.board_core.specs.Started.{Settles, run_of}

-- a run: its call, and where it stands
pub record Standing : Type 0 where
  pub call : Call
  pub place : Place

-- The board of the object's desk, the opening contents, the files of the device, and the runs of the running
-- calls, in their order.
pub record Scene : Type 0 where
  pub board : Board
  pub opening : List Contents
  pub files : List File
  pub runs : List Standing

-- the device agrees with an assignment: it has each file that was sealed
abbrev pub AgreesWith : Scene → Assignment → Type 0
AgreesWith w a = HasFiles w.files a

-- the call of a running call
abbrev pub call_running : RunningCall → Call
call_running r = call_of r.number r.call.operation r.call.arguments r.pins

-- the ticket of each running call was taken
abbrev pub collected : Board → Board
collected b = record b { running = map (λ (r : RunningCall). record r { taken = true }) b.running }

-- a run stands at its beginning, one for each of these calls
abbrev pub AreBegun : List RunningCall → List Standing → Type 0
AreBegun [] [] = Unit {0}
AreBegun (r ∷ rs) [] = ⊥
AreBegun [] (s ∷ ss) = ⊥
AreBegun (r ∷ rs) (s ∷ ss) = (s.call ≡ call_running r) × Starts s.call s.place × AreBegun rs ss

-- Admission follows on a board: so many calls start, and their runs begin behind these.
pub record Goes (old : Scene) (between : Board) (kept : List Standing) (starts : ℕ) (new : Scene) : Type 0 where
  pub settled : Board
  pub settles : Settles between settled
  pub board : new.board ≡ collected settled
  pub starts_are : starts ≡ length settles.ones
  pub begun : List Standing
  pub begin : AreBegun (map (run_of between.pins) settles.ones) begun
  pub runs : new.runs ≡ kept ++ begun
  pub files : new.files ≡ old.files
  pub opening : new.opening ≡ old.opening

-- the run of the call of this number stands at this place of the runs, and no other run is of that call
pub record IsRunAt (runs : List Standing) (k n : ℕ) (run : Standing) : Type 0 where
  pub there : slice_get runs k ≡ Some run
  pub number : run.call.number ≡ n
  pub only : (j : ℕ) (other : Standing) → slice_get runs j ≡ Some other → other.call.number ≡ n → j ≡ k

-- the world of an object before any event: no calls, each part with its opening value
pub record IsNew (o : Object) (w : Scene) : Type 0 where
  pub pins : List (List Stamp)
  pub board : w.board ≡ opened o pins
  pub opening : w.opening ≡ map opening_of (kinds_of o)
  pub runs : w.runs ≡ []

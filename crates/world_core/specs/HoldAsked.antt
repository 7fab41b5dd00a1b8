-- What a script of an object with holds is answered where it asks.
use Rattle.std.specs.Prelude.{◌≢◌, ℕ, ◌+◌, List, ◌++◌, length, map, sum}
use Rattle.std.specs.List.{flat_map}
use Rattle.decl_core.specs.ObjectForm.{ObjectForm}
use Rattle.decl_core.specs.ObjectMap.{object_of}
use Rattle.board_core.specs.Board.{Board}
use Rattle.stuck_core.specs.Who.{Refused, who_line, waits_line}
use Rattle.world_core.specs.Asked.{Asked, who}
use Rattle.world_core.specs.Told.{IsTold, AreRefused, waiting_among, numbered}
use Rattle.decl_core.specs.HoldForm.{HoldForm}
use Rattle.guest_core.specs.Held.{HeldCall}
use Rattle.check_core.specs.HeldTold.{holds_line}

-- the answer to `who`: the calls that wait, each with what refuses it, and behind them what is held
abbrev pub held_who_text : ObjectForm → List HoldForm → List Refused → List HeldCall → List ℕ
held_who_text o holds calls held =
    who_line (sum (map (λ c. length c.whys) calls) + length held)
    ++ flat_map (λ c. flat_map (waits_line o c.call) c.whys) calls ++ flat_map (holds_line o holds) held

-- `who` tells of all calls that wait, and of all that is held, the oldest first. Else a question is answered as in each
-- script.
pub data IsHeldTold (holds : List HoldForm) (held : List HeldCall) (b : Board) : Asked → List ℕ → Type 0 where
  by_desk : {question : Asked} {text : List ℕ} → question ≢ who → IsTold b question text →
      IsHeldTold holds held b question text
  who_holds : (all : List Refused) → AreRefused b (waiting_among b (numbered 1 b.calls)) all →
      IsHeldTold holds held b who (held_who_text (object_of b.object) holds all held)

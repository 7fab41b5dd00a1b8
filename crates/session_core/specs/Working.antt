-- What a session does with its hand: it runs calls, and retires the files that nobody needs any more.
use Rattle.std.specs.Prelude.{◌≡◌, List, [], ◌++◌, Ok}
use Rattle.device_core.specs.declared.hand.Stamp.{Stamp}
use Rattle.device_core.specs.Device.{Assignment}
use Rattle.device_core.specs.Made.{Made}
use Rattle.device_core.specs.Retired.{Left, RetiresAll}
use Rattle.page_core.specs.Calls.{AreMade}
use Rattle.page_core.specs.declared.outcome.Outcome.{Outcome}
use Rattle.page_core.specs.Outcomes.{outcome_call, outcome_reply, outcome_sealed}
use Rattle.run_core.specs.AtOnce.{RunsAtOnce}
use Rattle.board_core.specs.declared.answer.Finished.{Finished}
use Rattle.office_core.specs.declared.client_seat.Seat.{Seat}
use Rattle.office_core.specs.Seats.{CompletedIn}
use Rattle.session_core.specs.Truth.{Keeps, AreTrue}
use Rattle.session_core.specs.declared.work.Worked.{Worked}
use Rattle.session_core.specs.Leaving.{RetiresLeft}

-- the device calls of a call that ran at once, and came to this outcome
abbrev pub Runs : {H : Type 0} → (H → Made → H → Type 0) → Outcome → H → H → Type 0
Runs makes o old new =
    (calls : List Made) × AreMade makes old calls new
    × RunsAtOnce (outcome_call o) (outcome_reply o) (outcome_sealed o) calls

-- the inside of an office took this outcome, and handed these files out as free
pub record HandsOut (o : Outcome) (free : List Stamp) : Type 0 where
  pub seat : Seat
  pub finished : Finished
  pub after : Outcome
  pub taken : CompletedIn seat o (Ok finished) after
  pub are : finished.free.items ≡ free

-- From its first hand on a session came to this one, and these files are left to be retired. It runs calls, and has
-- their outcomes taken. What is handed out as free then is left, and retired later, each file once; one whose retire
-- failed is left again, but the last ones where memory is refused. It retires no other file.
pub data Works {H : Type 0} (makes : H → Made → H → Type 0) (first : H) : H → List Stamp → Type 0 where
  begins : Works makes first first []
  runs : (hand next : H) (left free : List Stamp) (o : Outcome) → Works makes first hand left →
      Runs makes o hand next → HandsOut o free → Works makes first next (left ++ free)
  retires : (hand next : H) (left after : List Stamp) → Works makes first hand left →
      RetiresLeft makes hand left after next → Works makes first next after
  lets_go : (hand next : H) (left last : List Stamp) (failed : List Left) → Works makes first hand (left ++ last) →
      RetiresAll makes hand last failed next → Works makes first next left

-- from one hand to another it worked on, whatever it did before
abbrev pub WorksOn : {H : Type 0} → (H → Made → H → Type 0) → H → List Stamp → H → List Stamp → Type 0
WorksOn {H} makes old left new after = (first : H) → Works makes first old left → Works makes first new after

-- what the first thread leaves, which began with this hand
abbrev pub HasWorked : {H : Type 0} → (H → Assignment → Type 0) → (H → Made → H → Type 0) → H → Worked H → Type 0
HasWorked agrees makes hand worked =
    Keeps agrees hand worked.hand × AreTrue agrees worked.hand worked.receipts.items
    × Works makes hand worked.hand worked.free.items

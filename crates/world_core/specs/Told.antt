-- What is answered of a board.
use Rattle.std.specs.Prelude.{◌≡◌, ℕ, ◌+◌, ◌≤◌, ◌&&◌, Bool, true, false, if◌then◌else◌, List, [], ◌∷◌, ◌++◌}
use Rattle.std.specs.Prelude.{Option, Some, None, drop, length, sum, map}
use Rattle.std.specs.List.{flat_map, list_any}
use Rattle.decl_core.specs.ObjectMap.{object_of}
use Rattle.stuck_core.specs.Waits.{is_among}
use Rattle.stuck_core.specs.Lacks.{Why}
use Rattle.stuck_core.specs.Tells.{Tells}
use Rattle.page_core.specs.ObjectCalls.{AcceptedCall}
use Rattle.board_core.specs.Board.{Board, call_at, paths_of, past_of}
use Rattle.board_core.specs.Answers.{waits_in, runs_in}
use Rattle.stuck_core.specs.declared.why.CallStatus.TheVariants.{Running as IsRunning, Ended, Unknown}
use Rattle.stuck_core.specs.declared.why.RunningRow.{RunningRow}
use Rattle.stuck_core.specs.Why.{state_line, why_text}
use Rattle.stuck_core.specs.Who.{Refused, waits_line, who_text}
use Rattle.stuck_core.specs.List.{list_text}
use Rattle.world_core.specs.Asked.{Asked, why, who, list}

-- a call with its number
pub record Numbered : Type 0 where
  pub number : ℕ
  pub call : AcceptedCall

-- calls with their numbers, from this one on
abbrev pub numbered : ℕ → List AcceptedCall → List Numbered
numbered n [] = []
numbered n (call ∷ calls) = record { number = n; call = call } ∷ numbered (n + 1) calls

-- a finish of the operation is needed
abbrev pub is_needed : List Why → ℕ → Bool
is_needed whys op = list_any (λ why. is_among why.needs op) whys

-- the call, if it runs and a finish of its operation is needed
abbrev pub if_runs : Board → List Why → Numbered → List RunningRow
if_runs b whys c =
    if runs_in b c.number && is_needed whys c.call.op
    then record { number = c.number; session = c.call.session; operation = c.call.op } ∷ [] else []

-- the same of the call of this number, if there is one
abbrev pub if_there_runs : Board → List Why → ℕ → Option AcceptedCall → List RunningRow
if_there_runs b whys n None = []
if_there_runs b whys n (Some call) = if_runs b whys (record { number = n; call = call })

-- the calls that run of the operations whose finish is needed, in the order of their numbers
abbrev pub running_there : Board → List Why → List RunningRow
running_there b whys = flat_map (if_runs b whys) (numbered 1 b.calls)

-- the calls among these that wait
abbrev pub waiting_among : Board → List Numbered → List Numbered
waiting_among b calls = flat_map (λ c. if waits_in b c.number then c ∷ [] else []) calls

-- the same call, and what refuses it
pub record IsRefused (b : Board) (c : Numbered) (r : Refused) : Type 0 where
  pub call : r.call ≡ record { number = c.number; session = c.call.session; operation = c.call.op; seconds = None }
  pub tells : Tells (paths_of b) c.call.op (past_of b) r.whys

-- each of these calls, in their order, with what refuses it
abbrev pub AreRefused : Board → List Numbered → List Refused → Type 0
AreRefused b [] [] = Unit {0}
AreRefused b [] (r ∷ all) = ⊥
AreRefused b (c ∷ calls) [] = ⊥
AreRefused b (c ∷ calls) (r ∷ all) = IsRefused b c r × AreRefused b calls all

-- The answer to a question. Of a call that waits exactly the nodes at which paths refuse it now are told, with whose
-- finish is needed there, and the calls that run of these operations; `who` tells of all calls that wait.
pub data IsTold (b : Board) : Asked → List ℕ → Type 0 where
  unknown : {number : ℕ} → call_at b.calls number ≡ None → IsTold b (why number) (state_line number Unknown)
  waits : {number : ℕ} (call : AcceptedCall) (whys : List Why) → call_at b.calls number ≡ Some call →
      waits_in b number ≡ true → Tells (paths_of b) call.op (past_of b) whys →
      IsTold b (why number) (why_text (object_of b.object) number whys (running_there b whys))
  runs : {number : ℕ} (call : AcceptedCall) → call_at b.calls number ≡ Some call → waits_in b number ≡ false →
      runs_in b number ≡ true → IsTold b (why number) (state_line number IsRunning)
  ended : {number : ℕ} (call : AcceptedCall) → call_at b.calls number ≡ Some call → waits_in b number ≡ false →
      runs_in b number ≡ false → IsTold b (why number) (state_line number Ended)
  all_that_wait : (all : List Refused) → AreRefused b (waiting_among b (numbered 1 b.calls)) all →
      IsTold b who (who_text (object_of b.object) [] all)
  operations : IsTold b list (list_text (b.object.name ∷ []) (Some (object_of b.object)))

-- The lines of those calls among the first ones that wait are so many, with this text.
pub record HasTold (b : Board) (place lines : ℕ) (text : List ℕ) : Type 0 where
  pub front : List Refused
  pub are : (rest : List Refused) → AreRefused b (waiting_among b (drop place (numbered 1 b.calls))) rest →
      AreRefused b (waiting_among b (numbered 1 b.calls)) (front ++ rest)
  pub many : lines ≡ sum (map (λ r. length r.whys) front)
  pub said : text ≡ flat_map (λ r. flat_map (waits_line (object_of b.object) r.call) r.whys) front
  pub few : lines ≤ length text

-- The lines of all calls that wait are so many, with this text: each call with the nodes that refuse it.
pub record AreWaitLines (b : Board) (count : ℕ) (text : List ℕ) : Type 0 where
  pub all : List Refused
  pub are : AreRefused b (waiting_among b (numbered 1 b.calls)) all
  pub many : count ≡ sum (map (λ r. length r.whys) all)
  pub said : text ≡ flat_map (λ r. flat_map (waits_line (object_of b.object) r.call) r.whys) all
  pub few : count ≤ length text

-- What a world answers to events, and what each of them leaves.
use Rattle.std.specs.Prelude.{◌≡◌, ◌≢◌, ℕ, ◌+◌, ◌≤◌, ◌<◌, ◌⊎◌, ◌==◌, not, Bool, true, false, List, length, filter}
use Rattle.std.specs.Prelude.{slice_set, Some, Err}
use Rattle.std.specs.Global.{Vec}
use Rattle.value_core.specs.Contents.{Contents}
use Rattle.device_core.specs.declared.hand.Stamp.{Stamp}
use Rattle.device_core.specs.Device.{Assignment}
use Rattle.device_core.specs.declared.file.File.{File}
use Rattle.page_core.specs.PartPins.{PartPin}
use Rattle.apply_core.specs.declared.reply.Failure.TheVariants as failures
use Rattle.apply_core.specs.declared.reply.Reply.{Reply}
use Rattle.apply_core.specs.declared.reply.Reply.TheVariants as replies
use Rattle.apply_core.specs.declared.need.Need.TheVariants as needs
use Rattle.run_core.specs.Steps.{Place, Follows, FailsWith, need_at, ending_at, sealed_at}
use Rattle.run_core.specs.Phases.{IsRenewedBy, step_answer}
use Rattle.apply_core.specs.History.{leads_to}
use Rattle.page_core.specs.Lists.{Among}
use Rattle.page_core.specs.ObjectCalls.{AcceptedCall, RunningCall}
use Rattle.board_core.specs.Board.{joined, dismissed, released, marked, ended, entry_of}
use Rattle.board_core.specs.Chain.{history_of}
use Rattle.board_core.specs.Keys as keys
use Rattle.board_core.specs.Keys.{next_key}
use Rattle.guest_core.specs.declared.answer.SubmitFault.{SubmitFault}
use Rattle.guest_core.specs.declared.answer.KeyedFault.{KeyedFault}
use Rattle.board_core.specs.declared.answer.EarlierCall.{EarlierCall as KeptCall}
use Rattle.guest_core.specs.declared.answer.Cancelled.{Cancelled}
use Rattle.guest_core.specs.declared.answer.Cancelled.TheVariants as cancels
use Rattle.board_core.specs.Answers.{Asked, IsGone, IsTaken, IsRefused, Cancels, waits_in, runs_in}
use Rattle.board_core.specs.Keyed.{IsKeptCall, SubmitsKeyed}
use Rattle.world_core.specs.declared.event.EventRefusal.TheVariants.{Submit, Keyed, NotRunning, NoStep, NotDone, NoSession}
use Rattle.world_core.specs.declared.event.EventRefusal.TheVariants.{Memory}
use Rattle.world_core.specs.declared.event.WorldAnswer.{WorldAnswer}
use Rattle.world_core.specs.declared.event.WorldAnswer.TheVariants.{Number, Stepped, Ended, Cancel, Dropped, Resumed, Kept}
use Rattle.world_core.specs.declared.event.WorldAnswer.TheVariants.{Shown, Refused}
use Rattle.world_core.specs.declared.event.EventAnswer.{EventAnswer}
use Rattle.world_core.specs.Events.{WorldEvent, call, call_key, step, finish, cancel, leave, resume, look}
use Rattle.world_core.specs.Scene.{Scene, Standing, AgreesWith, Goes, IsRunAt, call_running}
use Rattle.world_core.specs.Work.{work_at}

-- an answer, and how many calls the event started
abbrev pub with_starts : WorldAnswer → ℕ → EventAnswer
with_starts answer starts = record { answer = answer; starts = starts }

-- A step of a run by the rule of steps: one that works does not fail for the device, one that does not work fails, and
-- no part is found damaged. It leaves the run less to do.
pub record Moves (run : Standing) (is_to_work : Bool) (after : Place) : Type 0 where
  pub follows : Follows run.call run.place after
  pub works : is_to_work ≡ true → ending_at after ≢ Some (replies.Failed failures.Device)
  pub fails : is_to_work ≡ false → FailsWith run.place (ending_at after)
  pub sound : ending_at after ≢ Some (replies.Failed failures.Damaged)
  pub falls : work_at after < work_at run.place

-- What a run leaves that has ended so: where its body was done, its new pins are the lists of a plan, over the bytes
-- that it read and those that the body changed; whatever the device agrees with.
pub record Leaves (w : Scene) (run : Standing) (reply : Reply) (news : List PartPin) : Type 0 where
  pub gone : List Stamp
  pub renewed : (a : Assignment) → AgreesWith w a → IsRenewedBy a run.call reply (sealed_at run.place) news gone

-- The answer to an event, and what it leaves. A refused event changes nothing.
pub data Answers (old : Scene) : WorldEvent → EventAnswer → Scene → Type 0 where
  -- a call that is taken joins those that wait, with the next number
  called : {asked : Asked} {starts : ℕ} {new : Scene} (accepted : AcceptedCall) → IsTaken old.board asked accepted →
      Goes old (joined old.board accepted) old.runs starts new
      → Answers old (call asked) (with_starts (Number (length old.board.calls + 1)) starts) new
  not_called : {asked : Asked} (fault : SubmitFault) → IsRefused old.board asked fault →
      Answers old (call asked) (with_starts (Refused (Submit fault)) 0) old
  -- under the key of the session's next call it is such a call; under that of an earlier one it tells what became of
  -- that one, and changes nothing
  called_key : {asked : Asked} {key starts : ℕ} {new : Scene} (accepted : AcceptedCall) →
      key ≡ next_key old.board.calls asked.session → IsTaken old.board asked accepted →
      Goes old (joined old.board accepted) old.runs starts new
      → Answers old (call_key asked key) (with_starts (Number (length old.board.calls + 1)) starts) new
  kept : {asked : Asked} {key : ℕ} (made : KeptCall) → (IsGone old.board asked.session → ⊥) →
      IsKeptCall old.board asked key made → Answers old (call_key asked key) (with_starts (Kept made) 0) old
  not_called_key : {asked : Asked} {key : ℕ} (fault : KeyedFault) →
      SubmitsKeyed old.board asked key (Err fault) old.board →
      Answers old (call_key asked key) (with_starts (Refused (Keyed fault)) 0) old
  -- a step is one step of that call's run
  stepped : {number : ℕ} {works : Bool} (k : ℕ) (run : Standing) (after : Place) (files : List File) →
      IsRunAt old.runs k number run → need_at run.place ≢ needs.Done → Moves run works after
      → Answers old (step number works) (with_starts (Stepped (need_at run.place)
      (step_answer (ending_at run.place) (ending_at after))) 0)
      (record old { runs = slice_set old.runs k (record run { place = after }); files = files })
  no_step : {number : ℕ} {works : Bool} (k : ℕ) (run : Standing) → IsRunAt old.runs k number run →
      need_at run.place ≡ needs.Done → Answers old (step number works) (with_starts (Refused NoStep) 0) old
  step_not_running : {number : ℕ} {works : Bool} → runs_in old.board number ≡ false →
      Answers old (step number works) (with_starts (Refused NotRunning) 0) old
  -- a call finishes as its run has ended, and the new pins that it leaves are published, if it was done
  finished : {number starts : ℕ} {new : Scene} (k : ℕ) (r : RunningCall) (run : Standing) (reply : Reply)
      (news : List PartPin) → Among r old.board.running → IsRunAt old.runs k number run → run.call ≡ call_running r →
      ending_at run.place ≡ Some reply
      → Leaves old run reply news → Goes old (ended old.board (entry_of r reply news))
      (filter (λ s. not (s.call.number == number)) old.runs) starts new
      → Answers old (finish number) (with_starts (Ended reply) starts) new
  not_done : {number : ℕ} (k : ℕ) (run : Standing) → IsRunAt old.runs k number run → need_at run.place ≢ needs.Done →
      Answers old (finish number) (with_starts (Refused NotDone) 0) old
  finish_not_running : {number : ℕ} → runs_in old.board number ≡ false →
      Answers old (finish number) (with_starts (Refused NotRunning) 0) old
  -- a call that waits is taken out; one that runs goes on
  cancelled : {number starts : ℕ} {new : Scene} → waits_in old.board number ≡ true →
      Goes old (dismissed old.board number) old.runs starts new →
      Answers old (cancel number) (with_starts (Cancel cancels.Cancelled) starts) new
  not_cancelled : {number : ℕ} (answer : Cancelled) → answer ≢ cancels.Cancelled →
      Cancels old.board number answer old.board → Answers old (cancel number) (with_starts (Cancel answer) 0) old
  -- a session leaves: its waiting call is cancelled, its running call goes on
  left : {session starts : ℕ} {new : Scene} → 0 < session → session ≤ 1024 →
      Goes old (marked (released old.board session) session) old.runs starts new →
      Answers old (leave session) (with_starts Dropped starts) new
  no_session : {session : ℕ} → (session ≡ 0) ⊎ (1024 < session) →
      Answers old (leave session) (with_starts (Refused NoSession) 0) old
  -- a session is back: it no longer counts as one that left, and nothing else changes
  resumed : {session : ℕ} → 0 < session → session ≤ 1024 →
      Answers old (resume session) (with_starts Resumed 0) (record old { board = keys.resumed old.board session })
  not_resumed : {session : ℕ} → (session ≡ 0) ⊎ (1024 < session) →
      Answers old (resume session) (with_starts (Refused NoSession) 0) old
  -- the contents after the history so far
  shown : (values : Vec Contents) → values.items ≡ leads_to (history_of old.board.history) old.opening →
      Answers old look (with_starts (Shown values) 0) old
  not_shown : Answers old look (with_starts (Refused Memory) 0) old

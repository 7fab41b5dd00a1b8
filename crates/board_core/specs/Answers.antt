-- What a desk answers.
use Rattle.std.specs.Prelude.{◌≡◌, ℕ, ◌+◌, ◌-◌, ◌<◌, ◌≤◌, ◌⊎◌, Bool, true, false, ◌||◌, ◌==◌, List, [], ◌∷◌, ◌++◌, take}
use Rattle.std.specs.Prelude.{length, slice_get, Some, None}
use Rattle.std.specs.List.{list_any}
use Rattle.std.specs.Str.{str_to_ascii_lowercase}
use Rattle.value_core.specs.declared.datum.Datum.{Datum}
use Rattle.decl_core.specs.declared.object.Object.{Object}
use Rattle.decl_core.specs.declared.object.Operation.{Operation}
use Rattle.apply_core.specs.Fits.{ArgumentsFit}
use Rattle.page_core.specs.CallPins.{call_of}
use Rattle.page_core.specs.Outcomes.{outcome_call, outcome_reply, outcome_news, outcome_free, IsFresh, TellsSame}
use Rattle.page_core.specs.declared.outcome.Outcome.{Outcome}
use Rattle.board_core.specs.declared.receipt.Receipt.{Receipt}
use Rattle.page_core.specs.Tickets.{ticket_call}
use Rattle.guest_core.specs.declared.answer.SubmitFault.{SubmitFault}
use Rattle.guest_core.specs.declared.answer.SubmitFault.TheVariants.{Gone, UnknownOp, BadArgs, SessionBusy, Full}
use Rattle.guest_core.specs.declared.answer.SubmitFault.TheVariants.{HistoryFull, Memory}
use Rattle.guest_core.specs.declared.answer.Cancelled.{Cancelled}
use Rattle.guest_core.specs.declared.answer.Cancelled.TheVariants as cancels
use Rattle.board_core.specs.declared.answer.Collected.{Collected}
use Rattle.board_core.specs.declared.answer.Finished.{Finished}
use Rattle.board_core.specs.declared.answer.Collected.TheVariants as collects
use Rattle.page_core.specs.Lists.{Every, Among}
use Rattle.page_core.specs.ObjectCalls.{AcceptedCall, RunningCall}
use Rattle.board_core.specs.Board.{Board, bodies, call_at, dismissed, taken_at, ended, entry_of}
use Rattle.board_core.specs.Chain.{pins_after}
use Rattle.board_core.specs.Free.{IsNeeded, Picks}
use Rattle.board_core.specs.Outcomes.{IsOf}
use Rattle.board_core.specs.Started.{Settles}

-- what a session asks for: an operation by its name, in any case, and arguments
pub record Asked : Type 0 where
  pub session : ℕ
  pub name : List ℕ
  pub arguments : List Datum

-- an operation has this name
abbrev pub HasName : List ℕ → Operation → Type 0
HasName name operation = str_to_ascii_lowercase name ≡ operation.name

-- the first operation of this name stands at this place
pub record IsNamedAt (o : Object) (k : ℕ) (operation : Operation) (name : List ℕ) : Type 0 where
  pub there : slice_get (bodies o) k ≡ Some operation
  pub has : HasName name operation
  pub first : Every (λ x. HasName name x → ⊥) (take k (bodies o))

-- the session has left, or has no number from 1 to 1024
abbrev pub IsGone : Board → ℕ → Type 0
IsGone b session = (session ≡ 0) ⊎ ((1024 < session) ⊎ (slice_get b.gone (session - 1) ≡ Some true))

-- no operation has this name
abbrev pub IsUnknown : Board → List ℕ → Type 0
IsUnknown b name = Every (λ x. HasName name x → ⊥) (bodies b.object)

-- a call of the session waits or runs
abbrev pub is_busy : Board → ℕ → Bool
is_busy b session =
    list_any (λ w. w.call.session == session) b.waiting || list_any (λ r. r.call.session == session) b.running

-- a call of this number waits, and one runs
abbrev pub waits_in : Board → ℕ → Bool
waits_in b n = list_any (λ w. w.number == n) b.waiting

abbrev pub runs_in : Board → ℕ → Bool
runs_in b n = list_any (λ r. r.number == n) b.running

-- a call of this session runs
abbrev pub runs_by : Board → ℕ → Bool
runs_by b session = list_any (λ r. r.call.session == session) b.running

-- the operation and the arguments of what is asked: this operation, at this place
pub record IsAsked (b : Board) (a : Asked) (call : AcceptedCall) : Type 0 where
  pub session : call.session ≡ a.session
  pub named : IsNamedAt b.object call.op call.operation a.name
  pub arguments : call.arguments ≡ a.arguments
  pub fits : ArgumentsFit call.operation call.arguments

-- nothing speaks against it: the session is there and not busy, the operation is known, the arguments
-- fit, and there is room
pub record IsTaken (b : Board) (a : Asked) (call : AcceptedCall) : Type 0 where
  pub here : IsGone b a.session → ⊥
  pub asked : IsAsked b a call
  pub free : is_busy b a.session ≡ false
  pub room : length b.waiting + length b.running < 256
  pub numbers : length b.calls < 65536

-- Why a call is refused: the first of the faults, in their order, that applies.
abbrev pub IsRefused : Board → Asked → SubmitFault → Type 0
IsRefused b a Gone = IsGone b a.session
IsRefused b a UnknownOp = (IsGone b a.session → ⊥) × IsUnknown b a.name
IsRefused b a BadArgs =
    (IsGone b a.session → ⊥) × ((k : ℕ) × (operation : Operation) × IsNamedAt b.object k operation a.name
    × (ArgumentsFit operation a.arguments → ⊥))
IsRefused b a SessionBusy =
    (IsGone b a.session → ⊥) × ((call : AcceptedCall) × IsAsked b a call) × (is_busy b a.session ≡ true)
IsRefused b a Full =
    (IsGone b a.session → ⊥) × ((call : AcceptedCall) × IsAsked b a call) × (is_busy b a.session ≡ false)
    × (256 ≤ length b.waiting + length b.running)
IsRefused b a HistoryFull =
    (IsGone b a.session → ⊥) × ((call : AcceptedCall) × IsAsked b a call) × (is_busy b a.session ≡ false)
    × (length b.waiting + length b.running < 256) × (65536 ≤ length b.calls)
IsRefused b a Memory = (call : AcceptedCall) × IsTaken b a call

-- what a cancel answers, and what it makes of the board
abbrev pub Cancels : Board → ℕ → Cancelled → Board → Type 0
Cancels b n cancels.Cancelled after = (waits_in b n ≡ true) × Settles (dismissed b n) after
Cancels b n cancels.Running after = (waits_in b n ≡ false) × (runs_in b n ≡ true) × (after ≡ b)
Cancels b n cancels.Ended after =
    (waits_in b n ≡ false) × (runs_in b n ≡ false) × ((call : AcceptedCall) × (call_at b.calls n ≡ Some call))
    × (after ≡ b)
Cancels b n cancels.Unknown after =
    (waits_in b n ≡ false) × (runs_in b n ≡ false) × (call_at b.calls n ≡ None) × (after ≡ b)

-- a call of this number has finished
abbrev pub ended_in : Board → ℕ → Bool
ended_in b n = list_any (λ e. e.number == n) b.history

-- a running call of this number whose ticket was not taken
pub record IsLeft (b : Board) (n k : ℕ) (r : RunningCall) : Type 0 where
  pub there : slice_get b.running k ≡ Some r
  pub number : r.number ≡ n
  pub left : r.taken ≡ false

-- each running call of this number has its ticket taken
abbrev pub NoneIsLeft : Board → ℕ → Type 0
NoneIsLeft b n = Every (λ r. r.number ≡ n → r.taken ≡ true) b.running

-- what a submitter finds, and what it makes of the board
abbrev pub Collects : Board → ℕ → Collected → Board → Type 0
Collects b n (collects.Ticket t) after =
    (k : ℕ) × (r : RunningCall) × IsLeft b n k r × (ticket_call t ≡ call_of n r.call.operation r.call.arguments r.pins)
    × (after ≡ taken_at b k r)
Collects b n collects.Waiting after = NoneIsLeft b n × (waits_in b n ≡ true) × (after ≡ b)
Collects b n collects.Cancelled after =
    NoneIsLeft b n × (waits_in b n ≡ false) × (runs_in b n ≡ false) × (ended_in b n ≡ false)
    × ((call : AcceptedCall) × (call_at b.calls n ≡ Some call)) × (after ≡ b)
Collects b n collects.Unknown after =
    NoneIsLeft b n × (waits_in b n ≡ false)
    × ((runs_in b n ≡ true) ⊎ ((ended_in b n ≡ true) ⊎ (call_at b.calls n ≡ None))) × (after ≡ b)

-- the receipt of an outcome that was left where it lay
abbrev pub receipt_by : Finished → Outcome → Receipt
receipt_by f o = record { place = f.place; noted = record { session = f.session; outcome = o }; free = f.free }

-- An outcome is that of a running call: the call has ended, its entry is the last of the history, the receipt holds
-- what the outcome tells and its session, and frees what the call left to nobody and nobody needs.
pub record Finishes (b : Board) (o : Outcome) (receipt : Receipt) (after : Board) : Type 0 where
  pub call : RunningCall
  pub runs : Among call b.running
  pub is : IsOf (outcome_call o) call
  pub settles : Settles (ended b (entry_of call (outcome_reply o) (outcome_news o))) after
  pub history : after.history ≡ b.history ++ entry_of call (outcome_reply o) (outcome_news o) ∷ []
  pub pins : after.pins ≡ pins_after b.pins (entry_of call (outcome_reply o) (outcome_news o))
  pub place : receipt.place ≡ length after.history
  pub session : receipt.noted.session ≡ call.call.session
  pub outcome : TellsSame o receipt.noted.outcome
  pub free : Picks (IsNeeded after.pins after.running) [] (outcome_free o) receipt.free.items

-- An outcome that is not taken: it was handed in before, or it is that of no running call.
abbrev pub IsStranger : Board → Outcome → Type 0
IsStranger b o = (IsFresh o → ⊥) ⊎ Every (λ r. IsOf (outcome_call o) r → ⊥) b.running

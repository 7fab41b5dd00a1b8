-- What slips tell.
use Rattle.std.specs.Prelude.{◌≡◌, ℕ, ◌-◌, ◌<◌, List, slice_get, Some}
use Rattle.decl_core.specs.ObjectMap.{operation_of}
use Rattle.device_core.specs.Device.{Assignment}
use Rattle.apply_core.specs.declared.reply.Reply.{Reply}
use Rattle.page_core.specs.PartPins.{PartPin}
use Rattle.page_core.specs.CallPins.{Call}
use Rattle.page_core.specs.Truths.{IsTrueOf}
use Rattle.page_core.specs.declared.outcome.Outcome.{Outcome}
use Rattle.page_core.specs.Outcomes.{outcome_call, outcome_reply, outcome_pins, if_done}
use Rattle.board_core.specs.declared.receipt.Receipt.{Receipt}
use Rattle.page_core.specs.ObjectCalls.{Noted}

-- what a receipt tells: the place of an entry, and the entry there, as its session and the outcome of its run tell it
pub record Told : Type 0 where
  pub place : ℕ
  pub session : ℕ
  pub call : Call
  pub reply : Reply
  pub news : List PartPin

-- the new pins: a call that was not done has none
abbrev pub pins_told : Told → List PartPin
pins_told t = if_done t.reply t.news

-- what a receipt tells by an outcome of a call of this session, whose entry has this place
abbrev pub told_by : ℕ → ℕ → Outcome → Told
told_by place session o = record {
  place = place;
  session = session;
  call = outcome_call o;
  reply = outcome_reply o;
  news = outcome_pins o;
}

abbrev pub told_of : Receipt → Told
told_of r = told_by r.place r.noted.session r.noted.outcome

-- An entry is the one that is told: it tells of the call all that is told.
pub record IsEntryTold (t : Told) (e : Noted) : Type 0 where
  pub number : e.number ≡ t.call.number
  pub session : e.session ≡ t.session
  pub operation : operation_of e.operation ≡ operation_of t.call.operation
  pub arguments : e.arguments ≡ t.call.arguments
  pub reply : e.reply ≡ t.reply
  pub pins : e.pins ≡ t.call.pins
  pub news : e.news ≡ pins_told t

-- the entry at its place in a history is the one that is told
abbrev pub StandsIn : List Noted → Told → Type 0
StandsIn history t = (0 < t.place) × ((e : Noted) × (slice_get history (t.place - 1) ≡ Some e) × IsEntryTold t e)

-- what is told is true of an assignment
abbrev pub IsTrueTold : Assignment → Told → Type 0
IsTrueTold a t = IsTrueOf a t.call t.reply t.news

-- Which running call an outcome is of, and which entry is made of it.
use Rattle.std.specs.Prelude.{◌≡◌, ℕ}
use Rattle.decl_core.specs.ObjectMap.{operation_of}
use Rattle.page_core.specs.CallPins.{Call}
use Rattle.page_core.specs.declared.outcome.Outcome.{Outcome}
use Rattle.page_core.specs.Outcomes.{outcome_call, outcome_reply, outcome_pins}
use Rattle.page_core.specs.ObjectCalls.{RunningCall, Noted}

-- an outcome, by its call, comes from this running call
pub record IsOf (c : Call) (r : RunningCall) : Type 0 where
  pub number : r.number ≡ c.number
  pub operation : operation_of r.call.operation ≡ operation_of c.operation
  pub arguments : r.call.arguments ≡ c.arguments
  pub pins : r.pins ≡ c.pins

-- An entry is that of this outcome of a call of this session: it tells of the call all that the outcome tells.
pub record IsEntryOf (from : ℕ) (o : Outcome) (e : Noted) : Type 0 where
  pub number : e.number ≡ (outcome_call o).number
  pub session : e.session ≡ from
  pub operation : operation_of e.operation ≡ operation_of (outcome_call o).operation
  pub arguments : e.arguments ≡ (outcome_call o).arguments
  pub reply : e.reply ≡ outcome_reply o
  pub pins : e.pins ≡ (outcome_call o).pins
  pub news : e.news ≡ outcome_pins o

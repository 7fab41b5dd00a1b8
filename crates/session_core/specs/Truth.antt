-- The truth of receipts, by a device.
use Rattle.std.specs.Prelude.{List}
use Rattle.device_core.specs.Device.{Assignment}
use Rattle.page_core.specs.declared.outcome.Outcome.{Outcome}
use Rattle.page_core.specs.Outcomes.{outcome_call, outcome_reply, outcome_pins}
use Rattle.page_core.specs.Truths.{IsTrueOf}
use Rattle.page_core.specs.Lists.{Every}
use Rattle.office_core.specs.Slips.{Told, IsTrueTold}

-- each assignment that agrees with the new hand agrees with the old one
abbrev pub Keeps : {H : Type 0} → (H → Assignment → Type 0) → H → H → Type 0
Keeps {H} agrees old new = (a : Assignment) → agrees new a → agrees old a

-- an outcome is true of an assignment
abbrev pub OutcomeIsTrue : Assignment → Outcome → Type 0
OutcomeIsTrue a o = IsTrueOf a (outcome_call o) (outcome_reply o) (outcome_pins o)

-- the entry of each receipt is true of each assignment that agrees with the hand
abbrev pub AreTrue : {H : Type 0} → (H → Assignment → Type 0) → H → List Told → Type 0
AreTrue {H} agrees hand receipts = (a : Assignment) → agrees hand a → Every (IsTrueTold a) receipts

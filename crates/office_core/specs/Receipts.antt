-- What receipts say of a closed desk.
use Rattle.std.specs.Prelude.{◌≡◌, ℕ, ◌+◌, List, slice_get, Some}
use Rattle.value_core.specs.Contents.{Contents}
use Rattle.device_core.specs.Device.{Assignment}
use Rattle.page_core.specs.Truths.{IsTrueOf}
use Rattle.apply_core.specs.History.{IsLegal, leads_to}
use Rattle.page_core.specs.Outcomes.{outcome_call, outcome_reply, outcome_pins}
use Rattle.board_core.specs.declared.receipt.Receipt.{Receipt}
use Rattle.page_core.specs.Lists.{Every, Among}
use Rattle.page_core.specs.ObjectCalls.{Noted}
use Rattle.board_core.specs.Board.{Board}
use Rattle.board_core.specs.Chain.{ShowContents, history_of}
use Rattle.board_core.specs.Sound.{IsSound, kinds_of}
use Rattle.office_core.specs.Slips.{Told, StandsIn, IsTrueTold}
use Rattle.office_core.specs.Closing.{Stands}

-- the outcome that a receipt holds is true of an assignment
abbrev pub IsTrueReceipt : Assignment → Receipt → Type 0
IsTrueReceipt a r =
    IsTrueOf a (outcome_call r.noted.outcome) (outcome_reply r.noted.outcome) (outcome_pins r.noted.outcome)

-- each entry has a receipt
abbrev pub HaveReceipts : List Noted → List Receipt → Type 0
HaveReceipts history receipts =
    (k : ℕ) (e : Noted) → slice_get history k ≡ Some e → (r : Receipt) × Among r receipts × (r.place ≡ k + 1)

-- Where each entry of a desk has a receipt, and each receipt tells of the entry at its place and is true, the history
-- is legal, and it leads to what the published pins spell.
abbrev pub ReceiptsAreLegal : Type 0
ReceiptsAreLegal = (a : Assignment) (b : Board) (receipts : List Receipt) (contents : List Contents) →
    IsSound b → Every (Stands b.history) receipts → HaveReceipts b.history receipts → Every (IsTrueReceipt a) receipts →
    ShowContents a (kinds_of b.object) b.opening contents →
    IsLegal (history_of b.history) contents
    × ShowContents a (kinds_of b.object) b.pins (leads_to (history_of b.history) contents)

-- each entry has a slip
abbrev pub HaveSlips : List Noted → List Told → Type 0
HaveSlips history slips =
    (k : ℕ) (e : Noted) → slice_get history k ≡ Some e → (t : Told) × Among t slips × (t.place ≡ k + 1)

-- Where each entry of a desk has a slip, and each slip tells of the entry at its place and is true, the history is
-- legal, and it leads to what the published pins spell.
abbrev pub SlipsAreLegal : Type 0
SlipsAreLegal = (a : Assignment) (b : Board) (slips : List Told) (contents : List Contents) →
    IsSound b → Every (StandsIn b.history) slips → HaveSlips b.history slips → Every (IsTrueTold a) slips →
    ShowContents a (kinds_of b.object) b.opening contents →
    IsLegal (history_of b.history) contents
    × ShowContents a (kinds_of b.object) b.pins (leads_to (history_of b.history) contents)

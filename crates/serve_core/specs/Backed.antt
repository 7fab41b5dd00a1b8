-- Receipts, and the hands that show that they are true.
use Rattle.std.specs.Prelude.{List}
use Rattle.device_core.specs.Device.{Assignment}
use Rattle.page_core.specs.Lists.{Every}
use Rattle.office_core.specs.Slips.{Told, IsTrueTold}

-- each assignment that agrees with all of these hands makes each of these receipts true
abbrev pub AreBackedBy : {H : Type 0} → (H → Assignment → Type 0) → List H → List Told → Type 0
AreBackedBy {H} agrees hands slips =
    (a : Assignment) → Every (λ (hand : H). agrees hand a) hands → Every (IsTrueTold a) slips

-- there are hands so
abbrev pub AreBacked : {H : Type 0} → (H → Assignment → Type 0) → List Told → Type 0
AreBacked {H} agrees slips = (hands : List H) × AreBackedBy agrees hands slips

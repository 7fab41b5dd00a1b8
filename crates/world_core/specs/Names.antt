-- The names of refusals.
use Rattle.std.specs.Prelude.{ℕ, List, codes}
use Rattle.guest_core.specs.declared.answer.SubmitFault.{SubmitFault}
use Rattle.guest_core.specs.declared.answer.SubmitFault.TheVariants as faults
use Rattle.guest_core.specs.declared.answer.KeyedFault.{KeyedFault}
use Rattle.guest_core.specs.declared.answer.KeyedFault.TheVariants as keyed
use Rattle.world_core.specs.declared.event.EventRefusal.{EventRefusal}
use Rattle.world_core.specs.declared.event.EventRefusal.TheVariants.{Submit, Keyed, NotRunning, NoStep, NotDone, NoSession}
use Rattle.world_core.specs.declared.event.EventRefusal.TheVariants.{Memory}

abbrev pub fault_name : SubmitFault → List ℕ
fault_name faults.Gone = codes "Gone"
fault_name faults.UnknownOp = codes "UnknownOp"
fault_name faults.BadArgs = codes "BadArgs"
fault_name faults.SessionBusy = codes "SessionBusy"
fault_name faults.Full = codes "Full"
fault_name faults.HistoryFull = codes "HistoryFull"
fault_name faults.Memory = codes "Memory"

abbrev pub keyed_name : KeyedFault → List ℕ
keyed_name keyed.Gone = codes "Gone"
keyed_name keyed.BadKey = codes "BadKey"
keyed_name keyed.KeyReused = codes "KeyReused"
keyed_name (keyed.Submit fault) = fault_name fault

abbrev pub refusal_name : EventRefusal → List ℕ
refusal_name (Submit fault) = fault_name fault
refusal_name (Keyed fault) = keyed_name fault
refusal_name NotRunning = codes "NotRunning"
refusal_name NoStep = codes "NoStep"
refusal_name NotDone = codes "NotDone"
refusal_name NoSession = codes "NoSession"
refusal_name Memory = codes "Memory"

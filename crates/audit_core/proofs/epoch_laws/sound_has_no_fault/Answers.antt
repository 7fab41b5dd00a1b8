use Rattle.audit_core.proofs.EpochExact.{sound_no_fault}
use Rattle.audit_core.proofs.epoch_laws.sound_has_no_fault.Goals as goal

pub returns : goal.returns
returns c = sound_no_fault

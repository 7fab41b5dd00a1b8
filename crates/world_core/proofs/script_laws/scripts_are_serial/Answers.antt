use Rattle.world_core.proofs.Serializing.{all_serial}
use Rattle.world_core.proofs.script_laws.scripts_are_serial.Goals as goal

pub returns : goal.returns
returns c = all_serial c.legal_by_one.ensures c.leads_by_one.ensures c.fails_only_with_its_device.ensures

use Rattle.run_core.proofs.Origins.{new_pins_are_old_or_sealed}
use Rattle.run_core.proofs.call_laws.new_pins_are_old_or_sealed.Goals as goal

pub returns : goal.returns
returns c = new_pins_are_old_or_sealed

use Rattle.run_core.proofs.Left.{new_pins_are_left}
use Rattle.run_core.proofs.call_laws.new_pins_are_left.Goals as goal

pub returns : goal.returns
returns c = new_pins_are_left

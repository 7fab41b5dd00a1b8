use Rattle.std.proofs.Common.{◌-◌}
use Rattle.run_core.proofs.uncalled.+have_pins.Given as goal

abbrev pub decreases-have_pins : goal.decreases-have_pins
decreases-have_pins l = 16 - l.from

use Rattle.desk_core.proofs.Publishing.{ArePut}
use Rattle.desk_core.proofs.roster.put_pins.Given as goal

abbrev pub invariant-loop-part : goal.invariant-loop-part
invariant-loop-part l = ArePut l.fn.pins l.fn.news l.part l.pins

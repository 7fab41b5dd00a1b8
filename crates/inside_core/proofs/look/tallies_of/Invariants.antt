use Rattle.std.proofs.Common.{◌≡◌, length}
use Rattle.inside_core.specs.Adds.{crowd_of}
use Rattle.inside_core.specs.Looks.{AreTallies}
use Rattle.inside_core.proofs.look.tallies_of.Given as goal

abbrev pub invariant-loop-place : goal.invariant-loop-place
invariant-loop-place l = AreTallies (crowd_of l.clients l.whom) l.object l.ends 0 l.tallies.items × (length l.tallies.items ≡ l.place)

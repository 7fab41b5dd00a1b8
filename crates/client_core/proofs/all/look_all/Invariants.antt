use Rattle.std.proofs.Common.{◌≡◌}
use Rattle.client_core.specs.Views.{custodies_of}
use Rattle.client_core.proofs.Becoming.{LooksUpTo}
use Rattle.client_core.proofs.all.look_all.Given as goal

abbrev pub invariant-loop-at : goal.invariant-loop-at
invariant-loop-at l = (custodies_of l.rows.items ≡ custodies_of l.fn.rows.items)
    × LooksUpTo l.objects l.second l.at l.fn.rows.items l.rows.items

use Rattle.std.proofs.Common.{◌≡◌, length}
use Rattle.inside_core.specs.Looks.{ShowsAll}
use Rattle.client_core.specs.Views.{custodies_of}
use Rattle.inside_core.proofs.look.seen_in.Given as goal

abbrev pub invariant-loop-at : goal.invariant-loop-at
invariant-loop-at l = ShowsAll l.objects l.tallies.objects.items l.clients (custodies_of l.custody) l.second 0 l.seen.items × (length l.seen.items ≡ l.at)

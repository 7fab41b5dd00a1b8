use Rattle.std.proofs.Common.{◌≡◌, ◌++◌, ◌+◌, length}
use Rattle.decl_read.specs.Sections.{blank_span}
use Rattle.decl_read.proofs.cut.blank_span.Given as goal

abbrev pub invariant-bytes : goal.invariant-bytes
invariant-bytes l =
    (l.all.items ++ blank_span l.from l.to l.at l.rest ≡ blank_span l.from l.to 0 l.source) × (l.at + length l.rest ≡ length l.source)

abbrev pub decreases-bytes : goal.decreases-bytes
decreases-bytes l = length l.rest

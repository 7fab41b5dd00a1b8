use Rattle.std.proofs.Common.{ap, length, arith}
use Rattle.word_core.proofs.Spaces.{bare_first, no_apostrophe}
use Rattle.word_core.proofs.front.next_bare.Goals as goal

pub returns-else-first-eq39 : goal.returns-else-first-eq39
returns-else-first-eq39 c =
    let line = c.skip_spaces-line.result.now in
    bare_first c.args.line.now line c.split_at_space.result.0.now c.split_at_space.result.1.now c.skip_spaces-line.ensures c.split_at_space.ensures.clear c.split_at_space.ensures.ends c.split_at_space.ensures.cut
    (no_apostrophe line c.if-first-eq39.false) (λ none. omega (arith, ap length none))

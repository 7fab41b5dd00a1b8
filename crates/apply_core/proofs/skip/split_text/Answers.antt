use Rattle.std.proofs.Common.{◌++◌, length, append_assoc, ◌∙◌, arith}
use Rattle.std.specs.Int.{w16, to_be_bytes}
use Rattle.apply_core.proofs.Skips.{cut_text, no_text_there}
use Rattle.apply_core.proofs.skip.split_text.Goals as goal

pub returns-clause-some : goal.returns-clause-some
returns-clause-some c = λ text rest is spelled.
    cut_text c.args.bytes.now c.in-Some.behind.now c.cut.result.0.now c.cut.result.1.now text rest c.in-Some.len c.in-Some.ensures.some.0 c.in-Some.ensures.some.1 c.cut.ensures.whole c.cut.ensures.len is spelled

pub returns-then-behind-len-clause-none : goal.returns-then-behind-len-clause-none
returns-then-behind-len-clause-none c = λ text rest is spelled.
    no_text_there c.args.bytes.now c.in-Some.behind.now text rest c.in-Some.len c.in-Some.ensures.some.0 c.in-Some.ensures.some.1 (omega arith) is spelled

pub returns-in_default-clause-none : goal.returns-in_default-clause-none
returns-in_default-clause-none c = λ text rest is spelled.
    c.in_default.ensures.none (length text) (text ++ rest) (spelled ∙ append_assoc (to_be_bytes w16 (length text)) text rest)

use Rattle.std.proofs.Common.{arith}
use Rattle.std.proofs.lemmas.Bool.Decides.{nat_tests}
use Rattle.path_count.proofs.Wording.{next-word, next-none}
use Rattle.path_count.proofs.paths.words.next_word.Goals as goal

pub returns-then-is_empty : goal.returns-then-is_empty
returns-then-is_empty c = next-none c.args.line.now c.skip_spaces-line.result.now c.skip_spaces-line.ensures (grind (arith, nat_tests))

pub returns : goal.returns
returns c =
    next-word c.args.line.now c.skip_spaces-line.result.now c.split_at_space.result.0.now c.split_at_space.result.1.now c.skip_spaces-line.ensures (λ h. grind (arith, nat_tests))
    c.split_at_space.ensures.clear c.split_at_space.ensures.ends c.split_at_space.ensures.cut

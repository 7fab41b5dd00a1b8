use Rattle.keep_loop.proofs.Heads.{head_match, head_absent}
use Rattle.keep_loop.proofs.head.head_of.Goals as goal

pub returns-in-Some : goal.returns-in-Some
returns-in-Some c = head_match (λ p. p.0.now) (λ p. p.1.now) c.word_of.result c.args.text.now c.in-Some.tail.now c.in-Some.ensures c.word_of.ensures

pub returns-in-None : goal.returns-in-None
returns-in-None c = head_absent c.args.text.now c.in-None.ensures

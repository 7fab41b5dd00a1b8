use Rattle.taken_core.proofs.Lost.{says_few}
use Rattle.taken_core.proofs.taken.says_more.Goals as goal

pub returns-else-size-written : goal.returns-else-size-written
returns-else-size-written c = says_few c.args.text.now c.args.written c.in-Some.size c.in_ok-size.field-0 c.in_ok-size.ensures c.in-Some.is c.if-size-written.false

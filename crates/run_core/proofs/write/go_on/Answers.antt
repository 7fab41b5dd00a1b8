use Rattle.std.proofs.Common.{arith}
use Rattle.run_core.proofs.Writing.{all_written}
use Rattle.run_core.proofs.write.go_on.Goals as goal

pub returns-else-len-clause-found : goal.returns-else-len-clause-found
returns-else-len-clause-found c = λ a call is.
    all_written a call c.args.reply c.args.pages c.renewed.result.news c.renewed.result.sealed.items c.renewed.result.gone.items (omega arith) c.renewed.ensures.news c.renewed.ensures.sealed c.renewed.ensures.gone is

use Rattle.keep_loop.specs.Journal.{recovered}
use Rattle.keep_core.proofs.Going.{begun, not_begun}
use Rattle.keep_core.proofs.start.begin_behind.Goals as goal

pub returns-in-Ok-clause-ok : goal.returns-in-Ok-clause-ok
returns-in-Ok-clause-ok c =
    begun c.args.object c.args.house (recovered c.args.text.now) c.args.limits c.in-Ok.hosted c.in-Ok-Ok.came (rw c.in-Ok-Ok.field-0-is at c.in-Ok-Ok.ensures) c.in-Ok.ensures.ok

pub returns-in-Err-go_on-clause-err : goal.returns-in-Err-go_on-clause-err
returns-in-Err-go_on-clause-err c =
    not_begun c.args.object c.args.house (recovered c.args.text.now) c.in-Ok-Ok.came c.in-Err-go_on.why (rw c.in-Ok-Ok.field-0-is at c.in-Ok-Ok.ensures) c.in-Err-go_on.ensures.err

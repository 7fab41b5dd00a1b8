use Rattle.history_law.proofs.OrderRuns.{crash_leaves_in_order}
use Rattle.history_law.proofs.order_laws.crash_leaves_in_order.Goals as goal

pub returns : goal.returns
returns c = crash_leaves_in_order

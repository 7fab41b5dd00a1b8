use Rattle.history_law.proofs.OrderRuns.{answers_are_in_order}
use Rattle.history_law.proofs.order_laws.answers_are_in_order.Goals as goal

pub returns : goal.returns
returns c = answers_are_in_order

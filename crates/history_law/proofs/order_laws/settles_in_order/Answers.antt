use Rattle.history_law.proofs.Settling.{settles_in_order}
use Rattle.history_law.proofs.order_laws.settles_in_order.Goals as goal

pub returns : goal.returns
returns c = settles_in_order

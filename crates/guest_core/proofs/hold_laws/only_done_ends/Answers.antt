use Rattle.guest_core.proofs.Given.{only_done_ends}
use Rattle.guest_core.proofs.hold_laws.only_done_ends.Goals as goal

pub returns : goal.returns
returns c = only_done_ends

use Rattle.guest_core.proofs.Given.{never_more_given}
use Rattle.guest_core.proofs.hold_laws.never_more_given.Goals as goal

pub returns : goal.returns
returns c = never_more_given

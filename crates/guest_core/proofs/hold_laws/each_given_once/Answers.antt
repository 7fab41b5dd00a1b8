use Rattle.guest_core.proofs.Given.{each_given_once}
use Rattle.guest_core.proofs.hold_laws.each_given_once.Goals as goal

pub returns : goal.returns
returns c = each_given_once

use Rattle.decl_core.proofs.NeverMeet.{separated_never_meet}
use Rattle.decl_core.proofs.exclude_laws.separated_never_meet.Goals as goal

pub returns : goal.returns
returns c = separated_never_meet

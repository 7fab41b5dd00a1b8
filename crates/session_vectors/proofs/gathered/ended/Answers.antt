use Rattle.std.proofs.Common.{sym, subst}
use Rattle.page_core.specs.Lists.{Every}
use Rattle.office_core.specs.Slips.{IsTrueTold}
use Rattle.session_vectors.proofs.gathered.ended.Goals as goal

pub new-backed-requires : goal.new-backed-requires
new-backed-requires c = λ a is. subst (Every (IsTrueTold a)) (sym c.new-receipts.ensures.items) tt

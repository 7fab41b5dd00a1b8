use Rattle.office_core.proofs.Law.{receipts_are_legal}
use Rattle.office_core.proofs.laws.receipts_are_legal.Goals as goal

pub returns : goal.returns
returns c = receipts_are_legal

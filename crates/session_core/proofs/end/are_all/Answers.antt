use Rattle.std.proofs.Common.{arith, length}
use Rattle.session_core.proofs.Ending.{all_of, first_of, as_many, not_same}
use Rattle.session_core.proofs.end.are_all.Goals as goal

pub returns-then-receipts-notes : goal.returns-then-receipts-notes
returns-then-receipts-notes c = (
  λ first. all_of c.args.receipts.now c.args.notes.now (search (arith, c.if-receipts-notes.true)) (c.are_first.ensures.0 first),
  λ all. c.are_first.ensures.1 (first_of c.args.receipts.now c.args.notes.now all),
)

pub returns-else-receipts-notes : goal.returns-else-receipts-notes
returns-else-receipts-notes c = (
  λ told. absurd (not_same (length c.args.receipts.now) (length c.args.notes.now) c.if-receipts-notes.false told),
  λ all. absurd (c.if-receipts-notes.false (as_many c.args.receipts.now c.args.notes.now all)),
)

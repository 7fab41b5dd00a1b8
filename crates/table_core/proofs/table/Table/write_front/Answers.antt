use Rattle.std.proofs.Common.{subst}
use Rattle.client_core.specs.Moves.{IsFrontAt}
use Rattle.table_core.proofs.table.Table.write_front.Goals as goal

pub has_held-requires : goal.has_held-requires
has_held-requires c =
    subst (λ objects. IsFrontAt objects c.args.at c.fronts_at.new.front.items) c.deref.ensures.value (c.fronts_at.ensures c.if-not-fronts_at.false)

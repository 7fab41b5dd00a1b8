use Rattle.std.proofs.Common.{subst, List}
use Rattle.value_core.specs.declared.datum.Datum.{Datum}
use Rattle.table_core.specs.Parts.{MayNotAsk}
use Rattle.table_core.specs.Seen.{seen}
use Rattle.table_core.proofs.Settling.{asks_not}
use Rattle.table_core.proofs.table.Table.ask_new.Goals as goal

pub returns-then-is_unheld : goal.returns-then-is_unheld
returns-then-is_unheld c = asks_not c.args.post.now c.refuse_unheld.new.post (seen c.args.self.now) (seen c.refuse_unheld.new.self) c.args.asker.place c.args.asker.opened
    c.args.operation c.args.arguments.items
    (subst (λ (l : List Datum). MayNotAsk (seen c.args.self.now) c.args.asker.opened c.args.operation l) c.deref.ensures.value
    (c.is_unheld.ensures.yes c.if-is_unheld.true)) c.in_ok-refuse_unheld.ensures

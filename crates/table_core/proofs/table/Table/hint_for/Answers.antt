use Rattle.std.proofs.Common.{subst, ℕ, List}
use Rattle.std.specs.Prelude.{IfSome}
use Rattle.std.specs.Global.{Vec}
use Rattle.live_core.specs.Scene.{Scene}
use Rattle.table_core.specs.Hints.{IsHintAt}
use Rattle.table_core.specs.Seen.{seen}
use Rattle.table_core.proofs.Hinting.{if_hint}
use Rattle.table_core.proofs.table.Table.hint_for.Goals as goal

pub returns-in-Some : goal.returns-in-Some
returns-in-Some c = if_hint c.hint_at.result (seen c.args.self.now) c.args.place c.in-Some.opened c.args.fault c.in-Some.ensures
    (subst (λ (xs : List Scene). IfSome c.hint_at.result (λ (text : Vec ℕ). IsHintAt xs c.in-Some.opened.object c.args.fault text.items)) c.deref.ensures.value c.hint_at.ensures)

use Rattle.std.proofs.Common.{sym, subst, List}
use Rattle.live_core.specs.Scene.{Scene}
use Rattle.client_core.specs.Turns.{HasNameAt}
use Rattle.table_core.proofs.table.Table.waits_by_name.Goals as goal

pub returns-then-opened-clause-yes : goal.returns-then-opened-clause-yes
returns-then-opened-clause-yes c = λ is.
    (c.if-opened.true, subst (λ (xs : List Scene). HasNameAt xs c.args.opened.object c.args.opened.session) c.deref.ensures.value (c.has_name_at.ensures.yes is))

pub returns-then-opened-clause-no : goal.returns-then-opened-clause-no
returns-then-opened-clause-no c = λ is waits has.
    c.has_name_at.ensures.no is (subst (λ (xs : List Scene). HasNameAt xs c.args.opened.object c.args.opened.session) (sym c.deref.ensures.value) has)

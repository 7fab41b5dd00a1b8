use Rattle.std.proofs.Common.{◌≡◌, ◌∙◌, ap, sym, List, slice_get}
use Rattle.decl_core.specs.ObjectMap.{object_of}
use Rattle.live_core.specs.Scene.{Scene}
use Rattle.table_core.specs.Seen.{seen}
use Rattle.table_core.proofs.Placing.{at_place}
use Rattle.table_core.proofs.Settling.{owed_found}
use Rattle.table_core.proofs.table.Table.owed_at.Goals as goal

pub returns-in-Some : goal.returns-in-Some
returns-in-Some c =
    let same : c.object.result.now ≡ c.in-Some.object.now.hall.object = (let a = c.object.ensures in let b = c.live.ensures in cc) in
    owed_found c.undo.result (seen c.args.self.now) c.args.at c.args.session c.in-Some.object.now (object_of c.object.result.now)
    (ap (λ (l : List Scene). slice_get l c.args.at) (sym c.deref.ensures.value)
    ∙ at_place c.deref.result.now c.args.at c.in-Some.object.now c.in-Some.ensures.lookup.3.0 c.in-Some.ensures.lookup.1)
    (ap object_of same) c.undo.ensures.owed

use Rattle.std.proofs.Common.{subst}
use Rattle.std.specs.Prelude.{IfOk, MatchResult}
use Rattle.decl_core.specs.ObjectMap.{object_of}
use Rattle.live_core.specs.Front.{opening_of}
use Rattle.recover_core.specs.Text.{IsRecovered, Refuses}
use Rattle.recover_core.proofs.Whole.{recovered_by}
use Rattle.recover_core.proofs.text_recover.recover.Goals as goal

pub returns-in-Ok : goal.returns-in-Ok
returns-in-Ok c =
    let o = object_of c.args.object.now in
    subst (λ t. IfOk c.recover_front.result (λ found. MatchResult found (IsRecovered o c.args.house t) (Refuses o c.args.house t))) c.whole-text.ensures.text
    (recovered_by o c.args.house c.whole-text.result.now (opening_of c.in-Ok.front) c.recover_front.result c.recover_front.ensures)

use Rattle.std.proofs.Common.{subst, sym}
use Rattle.session_text.specs.declared.session.Action.{Action}
use Rattle.session_core.specs.Making.{MakesFor, MakesCall}
use Rattle.session_core.proofs.work.act.Goals as goal

pub returns-in-Call-clause-made : goal.returns-in-Call-clause-made
returns-in-Call-clause-made g c =
    let seat = c.args.worked.now.seat in
    let old = c.args.worked.now.receipts.items in
    let new = c.serve_call.new.worked.receipts.items in
    subst (λ (a : Action). MakesFor a seat old new) (sym c.in-Call.is)
    (subst (λ args. MakesCall seat c.in-Call.key c.in-Call.op args old new) c.deref.ensures.value c.serve_call.ensures.made)

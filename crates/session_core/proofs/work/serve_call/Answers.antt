use Rattle.std.proofs.Common.{◌∙◌, inl, subst, sym}
use Rattle.session_core.specs.Making.{MakesOnce}
use Rattle.session_core.proofs.Making.{call_made}
use Rattle.session_core.proofs.work.serve_call.Goals as goal
use Rattle.session_core.proofs.work.serve_call.Goals.{in-Some-office+then-is_new, in-Some-office+else-is_new, in_default-office}

pub returns-clause-made : goal.returns-clause-made
returns-clause-made g c =
    let old = c.args.worked.now.receipts.items in
    let name = c.in-Ok.op.now in
    let args = c.args.args.now in
    elim c.match-office.branch [
      | in-Some-office+then-is_new w ↦ call_made c.args.worked.now.seat c.in-Some.entered c.args.key c.args.op.now name args old c.match-office.worked.receipts.items (sym c.in-Some.ensures.value)
          (c.in-Ok.ensures.cases.0 ∙ c.as_bytes.ensures.bytes) (w.is_new.ensures w.if-is_new.true)
          (subst (λ receipts. MakesOnce c.in-Some.entered.seat.session name args old receipts) (sym (λ i. (w.worked-is i).receipts.items)) w.serve_at.ensures.made)
      | in-Some-office+else-is_new w ↦ inl (λ i. (w.worked-is i).receipts.items)
      | in_default-office w ↦ inl (λ i. (w.worked-is i).receipts.items)
    ]

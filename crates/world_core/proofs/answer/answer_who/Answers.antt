use Rattle.std.proofs.Common.{◌∙◌, ◌++◌, ap, append_assoc}
use Rattle.stuck_core.specs.Who.{who_line}
use Rattle.world_core.proofs.Waiting.{who_told}
use Rattle.world_core.proofs.answer.answer_who.Goals as goal

pub returns : goal.returns
returns c =
    let count = c.in_ok-lines.lines.count in (
      who_line count ++ c.deref.result.now,
      c.in_ok-extend_from_slice.ensures.items ∙ ap (λ xs. xs ++ c.deref.result.now) c.in_ok-push_who.ensures ∙ append_assoc c.args.out.now.items (who_line count) c.deref.result.now,
      who_told c.args.desk.now count c.in_ok-lines.lines.text.items (who_line count ++ c.deref.result.now) c.in_ok-lines.ensures (ap (λ xs. who_line count ++ xs) c.deref.ensures.value),
    )

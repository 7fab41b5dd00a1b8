use Rattle.std.proofs.Common.{ap, ◌∙◌, ◌-◌, length}
use Rattle.board_core.specs.Board.{Board}
use Rattle.world_core.proofs.ScriptTelling.{event_told}
use Rattle.world_core.proofs.script.answer.push_told.Goals as goal

pub returns : goal.returns
returns c = record {
  told = event_told c.args.world.now c.args.number c.args.told.now c.object.result.now c.desk-desk.result.now c.saturating_sub.result
      c.args.out.now.items c.push_answer.new.out.items c.push_starts.new.out.items
      (c.object.ensures.same ∙ c.accepted.ensures ∙ ap (λ (b : Board). b.object) c.desk-desk.ensures.desk) c.desk-desk.ensures.desk
      (c.saturating_sub.ensures ∙ ap (λ n. n - c.args.told.now.starts) (c.len.ensures ∙ ap (λ (b : Board). length b.trace) c.trace.ensures))
      c.in_ok-push_answer.ensures.told c.in_ok-push_starts.ensures;
  memory = c.in_ok-push_answer.ensures.memory;
}

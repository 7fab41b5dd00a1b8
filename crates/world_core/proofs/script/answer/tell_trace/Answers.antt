use Rattle.std.proofs.Common.{◌∙◌}
use Rattle.world_core.proofs.ScriptTelling.{trace_told}
use Rattle.world_core.proofs.script.answer.tell_trace.Goals as goal

pub returns : goal.returns
returns c = (
  c.deref.result.now,
  c.in_ok-extend_from_slice.ensures.items,
  trace_told c.args.world.now c.desk.result.now c.opening.result.now c.deref.result.now c.desk.ensures.desk c.opening.ensures (c.deref.ensures.value ∙ c.in_ok-text.ensures),
)

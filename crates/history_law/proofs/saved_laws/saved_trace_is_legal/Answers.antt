use Rattle.history_law.proofs.Saving.{saved_trace_is_legal}
use Rattle.history_law.proofs.saved_laws.saved_trace_is_legal.Goals as goal

pub returns : goal.returns
returns c = saved_trace_is_legal

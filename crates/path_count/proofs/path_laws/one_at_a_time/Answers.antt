use Rattle.path_count.proofs.OneAtATime.{alone_satisfies, alone_trace, alone_rests, alone_remembers}
use Rattle.path_count.proofs.path_laws.one_at_a_time.Goals as goal

pub returns : goal.returns
returns c = λ e t none trace h. (alone_trace t trace, alone_rests t, alone_satisfies e t none trace h, alone_remembers e t none trace)

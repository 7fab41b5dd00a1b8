use Rattle.path_count.proofs.Future.{leave_both}
use Rattle.path_count.proofs.path_laws.same_future.Goals as goal

pub returns : goal.returns
returns c = λ paths words t s more others once fits one other alike trace_t trace_s holds.
    (leave_both paths words t s more others once fits one other alike trace_t trace_s holds).other.satisfied

use Rattle.path_count.specs.Future.{later}
use Rattle.path_count.proofs.Future.{leave_both, later_alike, joined_trace}
use Rattle.path_count.proofs.path_laws.one_past_is_enough.Goals as goal

pub returns : goal.returns
returns c = λ paths words most base epoch past once fits trace numbers is_past holds other_base other other_past.
    let one_trace = joined_trace base most epoch past trace numbers is_past.leaves.trace is_past.numbers is_past.quiet in
    let other_trace = joined_trace other_base most epoch other trace numbers other_past.leaves.trace other_past.numbers other_past.quiet in (
      other_trace,
      (leave_both paths words past other (later base epoch) (later other_base epoch) once fits is_past.leaves other_past.leaves (later_alike base other_base epoch) one_trace other_trace holds).other.satisfied,
    )

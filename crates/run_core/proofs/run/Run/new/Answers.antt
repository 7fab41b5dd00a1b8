use Rattle.run_core.proofs.Serving.{starts_reads}
use Rattle.run_core.proofs.run.Run.new.Goals as goal

pub returns-clause-fresh : goal.returns-clause-fresh
returns-clause-fresh c = λ a. record { found = c.first_phase-phase.ensures.found a }

pub invariant_of-result : goal.invariant_of-result
invariant_of-result c = record {
  inside = λ p has none. none (c.first_phase-phase.ensures.news p has);
  reading = starts_reads _ _ c.first_phase-phase.ensures.starts;
  reads = c.first_phase-phase.ensures.reads;
}

use Rattle.std.proofs.Common.{inr}
use Rattle.value_core.specs.declared.machine.LinesFault.TheVariants.{Memory}
use Rattle.serve_core.proofs.Running.{run_none, run_of}
use Rattle.serve_core.proofs.serve.ServerFolder.serve.Goals as goal

pub returns-in-Err : goal.returns-in-Err
returns-in-Err g c = inr (run_none _ Memory)

pub returns : goal.returns
returns g c = run_of c.run_in.ensures.run

pub returns-in-Err-values_in : goal.returns-in-Err-values_in
returns-in-Err-values_in g c = inr (run_none _ Memory)

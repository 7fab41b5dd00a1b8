use Rattle.std.proofs.Common.{refl, subst, sym}
use Rattle.serve_core.specs.Runs.{IsLineOf}
use Rattle.serve_core.proofs.Running.{run_damaged, refused_as}
use Rattle.serve_core.proofs.host.tell_not_opened.Goals as goal

pub returns-in-Damaged : goal.returns-in-Damaged
returns-in-Damaged g c = run_damaged (IsLineOf c.args.why) _ c.tell_refused.result (subst (λ w. IsLineOf w c.in-Damaged.line.items) (sym c.in-Damaged.is) refl) (refused_as c.deref.ensures.value c.tell_refused.ensures.by)

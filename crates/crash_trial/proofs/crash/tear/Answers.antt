use Rattle.std.proofs.Common.{List, ℕ, subst, sym}
use Rattle.keep_loop.specs.Device.{IsTorn}
use Rattle.keep_loop.proofs.Lines.{torn_new}
use Rattle.crash_trial.proofs.Kept.{torn_back}
use Rattle.crash_trial.proofs.crash.tear.Goals.{then-place-file+then-not-is_there, else-place-file}
use Rattle.crash_trial.proofs.crash.tear.Goals as goal

pub loop-place-init : goal.loop-place-init
loop-place-init c = torn_new c.args.was.now c.args.file.now c.requires

pub loop-place-preserved : goal.loop-place-preserved
loop-place-preserved c =
    elim c.if-place-file.branch [
      | then-place-file+then-not-is_there w ↦
          subst (λ (l : List ℕ). IsTorn c.args.was.now c.args.file.now l) (sym w.file-is)
          (torn_back c.args.was.now c.args.file.now c.loop-place.file c.loop-place.place 0 c.loop-place.invariant)
      | else-place-file w ↦
          subst (λ (l : List ℕ). IsTorn c.args.was.now c.args.file.now l) (sym w.file-is) c.loop-place.invariant
    ]

use Rattle.std.proofs.Common.{◌≡◌, ℕ, List, [], ◌++◌, Err, sym, ap, subst}
use Rattle.std.specs.Prelude.{unwrap_or, Result}
use Rattle.std.specs.Io.KnownBytes.{Appends}
use Rattle.value_core.specs.declared.machine.LinesFault.{LinesFault}
use Rattle.value_core.specs.declared.machine.LinesFault.TheVariants.{ReadFault}
use Rattle.path_count.proofs.WholeRuns.{IfSome-known, IfSome-any, on_err, Appends-none}
use Rattle.world_core.specs.declared.script.ScriptEnd.{ScriptEnd}
use Rattle.world_core.specs.Run.{IsScript, IsFront}
use Rattle.world_core.proofs.Whole.{told_ends, told_begins, told_so_far, no_front}
use Rattle.world_core.proofs.script.run_script.Goals as goal

pub returns-in_err-script-clause-fault : goal.returns-in_err-script-clause-fault
returns-in_err-script-clause-fault g c =
    on_err c.from_residual.result (IfSome-any (g.R.Read.remaining c.args.reader.now)
    (λ text. (written : List ℕ) × Appends (g.W.Write.contents c.args.writer.now) (g.W.Write.contents c.args.writer.now) written × IsFront c.args.accepted text written)
    (λ text. ([], Appends-none (g.W.Write.contents c.args.writer.now), no_front c.args.accepted text)))

pub returns-in-Ok-clause-any : goal.returns-in-Ok-clause-any
returns-in-Ok-clause-any g c =
    let ran = c.in-Ok.ensures.ended in (
      ran.0,
      ran.1,
      ran.2,
      ran.3,
      subst (λ end. IsScript c.args.accepted (ran.0 ++ unwrap_or (g.R.Read.remaining c.run_lines-ended.new.reader) []) end ran.1) (sym c.end_of.ensures)
          (told_ends c.args.accepted c.in_ok-script.script ran.0 (g.R.Read.remaining c.run_lines-ended.new.reader) c.in-Ok.end ran.1 c.run_lines-ended.new.machine c.in_ok-script.ensures ran.4),
    )

pub returns-in-Ok-clause-known : goal.returns-in-Ok-clause-known
returns-in-Ok-clause-known g c =
    let ran = returns-in-Ok-clause-any g c in
    IfSome-known (g.R.Read.remaining c.args.reader.now) (g.R.Read.remaining c.run_lines-ended.new.reader) ran.0
    (λ text. (written : List ℕ) × Appends (g.W.Write.contents c.args.writer.now) (g.W.Write.contents c.run_lines-ended.new.writer) written × IsScript c.args.accepted text c.end_of.result written)
    ran.2 (ran.1, ran.3, ran.4)

pub returns-in-Err-clause-fault : goal.returns-in-Err-clause-fault
returns-in-Err-clause-fault g c =
    let ran = c.in-Err.ensures.faulted in
    IfSome-known (g.R.Read.remaining c.args.reader.now) (g.R.Read.remaining c.run_lines-ended.new.reader) ran.0
    (λ text. (written : List ℕ) × Appends (g.W.Write.contents c.args.writer.now) (g.W.Write.contents c.run_lines-ended.new.writer) written × IsFront c.args.accepted text written)
    ran.2 (ran.1, ran.3, told_begins c.args.accepted c.in_ok-script.script ran.0 (g.R.Read.remaining c.run_lines-ended.new.reader) ran.1 c.in_ok-script.ensures ran.4)

pub returns-in-Err-clause-unread : goal.returns-in-Err-clause-unread
returns-in-Err-clause-unread g c =
    λ is.
    let same : c.in-Err.fault ≡ ReadFault = fault_is c.in-Err.fault is in
    let ran = c.in-Err.ensures.unread (ap Err same) in
    (ran.0, ran.1, ran.2, ran.3, told_so_far c.args.accepted c.in_ok-script.script ran.0 ran.1 c.in_ok-script.ensures ran.4)
  where
    fault_is : (fault : LinesFault) → ◌≡◌ {A = Result ScriptEnd LinesFault} (Err fault) (Err ReadFault) → fault ≡ ReadFault
    fault_is fault e = cc

use Rattle.std.proofs.Common.{ℕ, List, [], Err, ap}
use Rattle.value_core.specs.declared.machine.LinesFault.TheVariants.{ReadFault}
use Rattle.std.specs.Io.KnownBytes.{Appends}
use Rattle.path_count.specs.Run.{IsRun, IsFront}
use Rattle.path_count.proofs.WholeRuns.{told_ends, told_begins, told_so_far, one_error, IfSome-known, IfSome-any, on_err, Appends-none, no_front}
use Rattle.path_count.proofs.paths.run_paths.Goals as goal

pub returns-clause-any : goal.returns-clause-any
returns-clause-any g c =
    let ran = c.in_ok-end.ensures.ended in (
      ran.0,
      ran.1,
      ran.2,
      ran.3,
      told_ends c.in_ok-machine.machine ran.0 (g.R.Read.remaining c.run_lines.new.reader) c.in_ok-end.end ran.1 c.run_lines.new.machine c.in_ok-machine.ensures ran.4,
    )

pub returns-clause-known : goal.returns-clause-known
returns-clause-known g c =
    let ran = returns-clause-any g c in
    IfSome-known (g.R.Read.remaining c.args.reader.now) (g.R.Read.remaining c.run_lines.new.reader) ran.0
    (λ text. (written : List ℕ) × Appends (g.W.Write.contents c.args.writer.now) (g.W.Write.contents c.run_lines.new.writer) written × IsRun text c.in_ok-end.end written)
    ran.2 (ran.1, ran.3, ran.4)

pub returns-in_err-machine-clause-fault : goal.returns-in_err-machine-clause-fault
returns-in_err-machine-clause-fault g c =
    on_err c.from_residual.result (IfSome-any (g.R.Read.remaining c.args.reader.now)
    (λ text. (written : List ℕ) × Appends (g.W.Write.contents c.args.writer.now) (g.W.Write.contents c.args.writer.now) written × IsFront text written)
    (λ text. ([], Appends-none (g.W.Write.contents c.args.writer.now), no_front text)))

pub returns-in_err-end-clause-fault : goal.returns-in_err-end-clause-fault
returns-in_err-end-clause-fault g c =
    let ran = c.in_err-end.ensures.faulted in
    on_err c.from_residual-in_err-end.result (IfSome-known (g.R.Read.remaining c.args.reader.now) (g.R.Read.remaining c.run_lines.new.reader) ran.0
    (λ text. (written : List ℕ) × Appends (g.W.Write.contents c.args.writer.now) (g.W.Write.contents c.run_lines.new.writer) written × IsFront text written)
    ran.2 (ran.1, ran.3, told_begins c.in_ok-machine.machine ran.0 (g.R.Read.remaining c.run_lines.new.reader) ran.1 c.in_ok-machine.ensures ran.4))

pub returns-in_err-end-clause-unread : goal.returns-in_err-end-clause-unread
returns-in_err-end-clause-unread g c =
    λ is.
    let ran = c.in_err-end.ensures.unread (ap Err (one_error c.from_residual-in_err-end.result c.in_err-end.field-0.0 ReadFault c.from_residual-in_err-end.ensures.1 is)) in
    (ran.0, ran.1, ran.2, ran.3, told_so_far c.in_ok-machine.machine ran.0 ran.1 c.in_ok-machine.ensures ran.4)

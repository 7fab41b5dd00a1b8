use Rattle.std.proofs.Common.{◌≡◌, ℕ, List, [], Err, ap}
use Rattle.std.specs.Prelude.{Result}
use Rattle.std.specs.Io.KnownBytes.{Appends}
use Rattle.value_core.specs.declared.machine.LinesFault.{LinesFault}
use Rattle.value_core.specs.declared.machine.LinesFault.TheVariants.{ReadFault}
use Rattle.path_count.proofs.WholeRuns.{IfSome-known, IfSome-any, on_err, Appends-none}
use Rattle.world_core.specs.Tries.{texts_in}
use Rattle.world_core.specs.PromptRun.{IsTried, IsTriedFront}
use Rattle.world_core.proofs.PromptWhole.{told_ends, told_begins, told_so_far, no_front}
use Rattle.world_core.proofs.prompt.run_prompt.Goals as goal

pub returns-in_err-prompt-clause-fault : goal.returns-in_err-prompt-clause-fault
returns-in_err-prompt-clause-fault g c =
    on_err c.from_residual.result (IfSome-any (g.R.Read.remaining c.args.reader.now)
    (λ text. (written : List ℕ) × Appends (g.W.Write.contents c.args.writer.now) (g.W.Write.contents c.args.writer.now) written × IsTriedFront c.args.accepted (texts_in c.args.texts) text written)
    (λ text. ([], Appends-none (g.W.Write.contents c.args.writer.now), no_front c.args.accepted (texts_in c.args.texts) text)))

pub returns-in-Ok-clause-any : goal.returns-in-Ok-clause-any
returns-in-Ok-clause-any g c =
    let ran = c.in-Ok.ensures.ended in (
      ran.0,
      ran.1,
      ran.2,
      ran.3,
      told_ends c.args.accepted c.args.texts c.in_ok-prompt.prompt ran.0 (g.R.Read.remaining c.run_lines-ended.new.reader) c.in-Ok.field-0 ran.1 c.run_lines-ended.new.machine c.in_ok-prompt.ensures.0 c.in_ok-prompt.ensures.1 ran.4,
    )

pub returns-in-Ok-clause-known : goal.returns-in-Ok-clause-known
returns-in-Ok-clause-known g c =
    let ran = returns-in-Ok-clause-any g c in
    IfSome-known (g.R.Read.remaining c.args.reader.now) (g.R.Read.remaining c.run_lines-ended.new.reader) ran.0
    (λ text. (written : List ℕ) × Appends (g.W.Write.contents c.args.writer.now) (g.W.Write.contents c.run_lines-ended.new.writer) written × IsTried c.args.accepted (texts_in c.args.texts) text written)
    ran.2 (ran.1, ran.3, ran.4)

pub returns-in-Err-clause-fault : goal.returns-in-Err-clause-fault
returns-in-Err-clause-fault g c =
    let ran = c.in-Err.ensures.faulted in
    IfSome-known (g.R.Read.remaining c.args.reader.now) (g.R.Read.remaining c.run_lines-ended.new.reader) ran.0
    (λ text. (written : List ℕ) × Appends (g.W.Write.contents c.args.writer.now) (g.W.Write.contents c.run_lines-ended.new.writer) written × IsTriedFront c.args.accepted (texts_in c.args.texts) text written)
    ran.2
    (ran.1, ran.3, told_begins c.args.accepted c.args.texts c.in_ok-prompt.prompt ran.0 (g.R.Read.remaining c.run_lines-ended.new.reader) ran.1 c.in_ok-prompt.ensures.0 c.in_ok-prompt.ensures.1 ran.4)

pub returns-in-Err-clause-unread : goal.returns-in-Err-clause-unread
returns-in-Err-clause-unread g c =
    λ is.
    let same : c.in-Err.fault ≡ ReadFault = fault_is c.in-Err.fault is in
    let ran = c.in-Err.ensures.unread (ap Err same) in
    (ran.0, ran.1, ran.2, ran.3, told_so_far c.args.accepted c.args.texts c.in_ok-prompt.prompt ran.0 ran.1 c.in_ok-prompt.ensures.0 c.in_ok-prompt.ensures.1 ran.4)
  where
    fault_is : (fault : LinesFault) → ◌≡◌ {A = Result (Unit {0}) LinesFault} (Err fault) (Err ReadFault) → fault ≡ ReadFault
    fault_is fault e = cc

use Rattle.std.proofs.Common.{refl}
use Rattle.word_core.specs.Words.{bare}
use Rattle.word_core.proofs.Reading.{behind_ok}
use Rattle.audit_core.specs.EpochSaid.{said_of, said_by}
use Rattle.audit_core.specs.EpochView.{said_view}
use Rattle.audit_core.proofs.EpochSaying.{said_line}
use Rattle.audit_core.proofs.epoch_said.read_line.Goals as goal

pub returns-in-Some : goal.returns-in-Some
returns-in-Some c =
    said_line c.args.line.now c.said_by.result
    (behind_ok said_of (said_by c.in-Some.verb.now) said_view c.args.line.now (bare c.in-Some.verb.now) c.in-Some.rest.now c.said_by.result (λ words. refl) c.in-Some.ensures c.said_by.ensures)

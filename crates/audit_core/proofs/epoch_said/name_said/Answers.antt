use Rattle.std.proofs.Common.{refl}
use Rattle.word_core.specs.Words.{bare}
use Rattle.word_core.proofs.Reading.{behind}
use Rattle.audit_core.specs.EpochSaid.{name_of, name_by}
use Rattle.audit_core.specs.EpochView.{said_view}
use Rattle.audit_core.proofs.epoch_said.name_said.Goals as goal

pub returns-in-Some : goal.returns-in-Some
returns-in-Some c = behind name_of (name_by c.in-Some.session.now) said_view c.args.line.now (bare c.in-Some.session.now) c.in-Some.rest.now c.name_by.result (λ words. refl) c.in-Some.ensures c.name_by.ensures

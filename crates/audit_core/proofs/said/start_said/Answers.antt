use Rattle.std.proofs.Common.{refl}
use Rattle.word_core.specs.Words.{bare}
use Rattle.audit_core.specs.Said.{start_said, start_behind}
use Rattle.audit_core.specs.View.{said_view}
use Rattle.word_core.proofs.Reading.{behind_ok}
use Rattle.audit_core.proofs.said.start_said.Goals as goal

pub returns-in-Some : goal.returns-in-Some
returns-in-Some c = behind_ok start_said (start_behind c.in-Some.number.now) said_view c.args.line.now (bare c.in-Some.number.now) c.in-Some.rest.now c.start_numbered.result (λ words. refl) c.in-Some.ensures c.start_numbered.ensures

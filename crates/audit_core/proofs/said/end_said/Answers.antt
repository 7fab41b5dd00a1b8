use Rattle.std.proofs.Common.{refl}
use Rattle.word_core.specs.Words.{bare}
use Rattle.audit_core.specs.Said.{end_said, end_behind}
use Rattle.audit_core.specs.View.{said_view}
use Rattle.word_core.proofs.Reading.{behind_ok}
use Rattle.audit_core.proofs.said.end_said.Goals as goal

pub returns-in-Some : goal.returns-in-Some
returns-in-Some c = behind_ok end_said (end_behind c.in-Some.number.now) said_view c.args.line.now (bare c.in-Some.number.now) c.in-Some.rest.now c.end_numbered.result (λ words. refl) c.in-Some.ensures c.end_numbered.ensures

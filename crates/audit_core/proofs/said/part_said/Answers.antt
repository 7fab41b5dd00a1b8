use Rattle.std.proofs.Common.{refl}
use Rattle.word_core.specs.Words.{bare}
use Rattle.audit_core.specs.Said.{part_said, part_behind}
use Rattle.audit_core.specs.View.{said_view}
use Rattle.word_core.proofs.Reading.{behind}
use Rattle.audit_core.proofs.said.part_said.Goals as goal

pub returns-in-Some : goal.returns-in-Some
returns-in-Some c = behind part_said (part_behind c.in-Some.name.now) said_view c.args.line.now (bare c.in-Some.name.now) c.in-Some.rest.now c.part_of.result (λ words. refl) c.in-Some.ensures c.part_of.ensures

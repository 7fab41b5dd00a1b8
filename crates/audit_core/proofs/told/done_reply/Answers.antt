use Rattle.std.proofs.Common.{◌∷◌, refl}
use Rattle.word_core.specs.Words.{bare}
use Rattle.audit_core.specs.Reads.{done_reply}
use Rattle.audit_core.specs.View.{told_view}
use Rattle.word_core.proofs.Reading.{behind}
use Rattle.audit_core.proofs.Reading.{nothing_told}
use Rattle.audit_core.proofs.told.done_reply.Goals as goal

pub returns-then-is_blank : goal.returns-then-is_blank
returns-then-is_blank c = nothing_told c.args.line.now (c.is_blank.ensures.0 c.if-is_blank.true)

pub returns-in-Some : goal.returns-in-Some
returns-in-Some c = behind done_reply (λ words. done_reply (bare c.in-Some.word.now ∷ words)) told_view c.args.line.now (bare c.in-Some.word.now) c.in-Some.rest.now c.integer_reply.result (λ words. refl) c.in-Some.ensures c.integer_reply.ensures

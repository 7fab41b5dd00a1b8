use Rattle.std.proofs.Common.{refl}
use Rattle.word_core.specs.Words.{bare}
use Rattle.audit_core.specs.Said.{reply_of, reply_behind}
use Rattle.audit_core.specs.View.{told_view}
use Rattle.word_core.proofs.Reading.{behind_ok}
use Rattle.audit_core.proofs.told.read_reply.Goals as goal

pub returns-in-Some : goal.returns-in-Some
returns-in-Some c = behind_ok reply_of (reply_behind c.in-Some.verb.now) told_view c.args.line.now (bare c.in-Some.verb.now) c.in-Some.rest.now c.reply_by.result (λ words. refl) c.in-Some.ensures c.reply_by.ensures

use Rattle.std.proofs.Common.{◌∷◌, refl}
use Rattle.word_core.specs.View.{word_of}
use Rattle.audit_core.specs.Reads.{text_reply}
use Rattle.audit_core.specs.View.{told_view}
use Rattle.word_core.proofs.Reading.{behind_ok}
use Rattle.audit_core.proofs.told.text_reply.Goals as goal

pub returns-in-Found : goal.returns-in-Found
returns-in-Found c = behind_ok text_reply (λ words. text_reply (word_of c.in-Found.word ∷ words)) told_view c.args.line.now (word_of c.in-Found.word) c.in-Found.rest.now c.last_text.result (λ words. refl) c.in-Found.ensures c.last_text.ensures

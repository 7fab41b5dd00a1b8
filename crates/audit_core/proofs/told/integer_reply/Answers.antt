use Rattle.std.proofs.Common.{sym, ◌∙◌}
use Rattle.audit_core.proofs.Reading.{integer_told}
use Rattle.audit_core.proofs.told.integer_reply.Goals as goal

pub returns-in-Some : goal.returns-in-Some
returns-in-Some c = integer_told c.args.word.now c.args.line.now c.in-Some.number (c.is_blank.ensures.0 c.if-not-is_blank.false) (sym c.integer_of.ensures ∙ c.in-Some.is)

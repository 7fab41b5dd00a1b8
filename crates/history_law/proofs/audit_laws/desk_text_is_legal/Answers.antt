use Rattle.history_law.proofs.Telling.{desk_text_is_legal}
use Rattle.history_law.proofs.audit_laws.desk_text_is_legal.Goals as goal

pub returns : goal.returns
returns c = desk_text_is_legal

use Rattle.decl_read.proofs.Sources.{told_memory}
use Rattle.std.proofs.Common.{◌∙◌}
use Rattle.decl_read.proofs.held_read.read_held.Goals as goal

pub returns-in-Err-clause-only : goal.returns-in-Err-clause-only
returns-in-Err-clause-only c objects rules p = c.told.ensures ∙ told_memory c.in-Err.fault (c.in-Err.ensures.complete p.tokens p.lexed p.short)

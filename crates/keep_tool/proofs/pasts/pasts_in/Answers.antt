use Rattle.std.proofs.Common.{sym, subst}
use Rattle.keep_tool.specs.Untold.{IsUntold}
use Rattle.keep_tool.proofs.pasts.pasts_in.Goals as goal

pub returns-in-Err : goal.returns-in-Err
returns-in-Err c = λ q asked. subst IsUntold (sym (c.untold.ensures.memory (c.in-Err.ensures.refused q asked))) tt

use Rattle.std.proofs.Common.{sym, subst, Some, Option}
use Rattle.session_text.specs.Hearing.{Hearing}
use Rattle.session_text.specs.Ears.{HearsIn}
use Rattle.session_text.proofs.reading.ReadingSide.hear.Goals as goal

pub returns-in-Some-clause-heard : goal.returns-in-Some-clause-heard
returns-in-Some-clause-heard g c = subst (λ (ear : Option Hearing). HearsIn ear (Some c.hear.result) (Some c.hear.new.self)) (sym c.in-Some.is) c.hear.ensures

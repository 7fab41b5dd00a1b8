use Rattle.std.proofs.Common.{sym, subst}
use Rattle.session_text.specs.declared.line.AnyLine.{AnyLine}
use Rattle.session_text.specs.Answers.{said_of}
use Rattle.session_core.specs.Dialogue.{Leads}
use Rattle.session_core.proofs.stage.behind.Goals as goal

pub returns-in-Opened : goal.returns-in-Opened
returns-in-Opened c = subst (λ (l : AnyLine). Leads c.args.stage (said_of l) c.behind_free.result) (sym c.in-Opened.is) (c.behind_free.ensures.opened c.in-Opened.field-0.now c.in-Opened.field-1)

pub returns-in-Ended : goal.returns-in-Ended
returns-in-Ended c = subst (λ (l : AnyLine). Leads c.args.stage (said_of l) c.behind_last.result) (sym c.in-Ended.is) (c.behind_last.ensures.ended c.in-Ended.field-1.now)

pub returns-in-Repeated : goal.returns-in-Repeated
returns-in-Repeated c = subst (λ (l : AnyLine). Leads c.args.stage (said_of l) c.behind_free-in-Repeated.result) (sym c.in-Repeated.is) (c.behind_free-in-Repeated.ensures.repeated c.in-Repeated.field-0 c.in-Repeated.field-1.now)

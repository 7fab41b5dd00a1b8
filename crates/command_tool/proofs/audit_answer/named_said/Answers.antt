use Rattle.command_tool.proofs.Audits.{lacking_run, audited_run}
use Rattle.command_tool.proofs.audit_answer.named_said.Goals as goal

pub returns-in-Told : goal.returns-in-Told
returns-in-Told c name named =
    lacking_run c.args.source.now c.args.text.now name c.in-Told.line.items c.lacking_said.result.line.items c.lacking_said.result.status
    named (rw c.in-Told.is at c.in_ok-line.ensures) c.lacking_said.ensures.status c.lacking_said.ensures.line

pub returns-in_ok-said-in-Ready : goal.returns-in_ok-said-in-Ready
returns-in_ok-said-in-Ready c name named =
    let said = c.in_ok-said-in-Ready in
    audited_run c.args.source.now c.args.text.now said.said.line.items c.in-Ready.accepted c.audit-verdict.result said.said.status
    (rw c.in-Ready.is at c.in_ok-line.ensures) c.audit-verdict.ensures.verdict c.audit-verdict.ensures.exact said.ensures.known said.ensures.status said.ensures.line

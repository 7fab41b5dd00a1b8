use Rattle.check_core.proofs.Heads.{none_named}
use Rattle.command_tool.proofs.Audits.{unnamed_run}
use Rattle.command_tool.proofs.audit_answer.audit_said.Goals as goal

pub returns-in_ok-said-in-None : goal.returns-in_ok-said-in-None
returns-in_ok-said-in-None c =
    let said = c.in_ok-said-in-None in
    unnamed_run c.args.source.now c.args.text.now said.said.line.items said.said.status
    (none_named c.args.text.now c.in_ok-named_object.field-0 c.in-None.is c.in_ok-named_object.ensures) said.ensures.status said.ensures.line

pub returns-in_ok-said-in-Some : goal.returns-in_ok-said-in-Some
returns-in_ok-said-in-Some c = c.in_ok-said-in-Some.ensures c.in-Some._name (rw c.in-Some.is at c.in_ok-named_object.ensures)

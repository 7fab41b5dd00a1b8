use Rattle.std.specs.Prelude.{codes, decimal}
use Rattle.value_core.specs.Reply.{reply}
use Rattle.command_tool.specs.AuditRun.{line_number}
use Rattle.command_tool.proofs.Audits.{joined}
use Rattle.command_tool.proofs.audit_answer.push_breach.Goals as goal

pub returns : goal.returns
returns c =
    joined c.args.out.now.items (line_number c.args.line) (reply (codes " breaks path ") (decimal c.args.path)) c.push_number.new.out.items c.push_count.new.out.items
    c.in_ok-push_number.ensures c.in_ok-push_count.ensures

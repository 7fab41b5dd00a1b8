use Rattle.command_tool.proofs.folder_audit.hear.Goals as goal

pub returns-in-Ok : goal.returns-in-Ok
returns-in-Ok c = (rw c.in-Ok.is at c.in_ok-hear_text.ensures, rw c.in-Some.is at c.in_ok-text.ensures)

use Rattle.std.proofs.Common.{length}
use Rattle.command_tool.proofs.folder_audit.+audit_objects.Given as goal

abbrev pub decreases-audit_objects : goal.decreases-audit_objects
decreases-audit_objects g l = length l.objects.now

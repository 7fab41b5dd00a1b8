use Rattle.std.proofs.Common.{◌-◌, length}
use Rattle.keep_core.proofs.close.Closing.+save_from.Given as goal

abbrev pub decreases-save_from : goal.decreases-save_from
decreases-save_from g l = length l.object.now.parts.items - l.first

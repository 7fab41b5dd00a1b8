use Rattle.std.proofs.Common.{length}
use Rattle.live_core.proofs.data.+reply_data.Given as goal

abbrev pub decreases-reply_data : goal.decreases-reply_data
decreases-reply_data l = length l.all.now

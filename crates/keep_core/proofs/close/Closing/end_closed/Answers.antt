use Rattle.std.proofs.Common.{ap, length}
use Rattle.keep_core.proofs.KeepEnding.{ends_closed}
use Rattle.keep_core.proofs.close.Closing.end_closed.Goals as goal

pub returns-clause-ends : goal.returns-clause-ends
returns-clause-ends g c =
    ends_closed c.args.name.now c.args.opening.now c.args.desk.now c.heed.new.self c.tell_entries-told.result (ap length c.history-entries.ensures.history) c.keep-became.ensures.kept c.tell_entries-told.ensures c.heed.ensures.fault c.heed.ensures.refused

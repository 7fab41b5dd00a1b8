use Rattle.keep_core.proofs.KeepEnding.{ends_refused}
use Rattle.keep_core.proofs.close.Closing.end_refused.Goals as goal

pub returns-clause-ends : goal.returns-clause-ends
returns-clause-ends g c =
    ends_refused c.args.name.now c.args.opening.now c.args.desk.now c.args.self.now.trouble c.refuse.new.self c.tell_refused-told.result c.refuse.ensures.fault c.refuse.ensures.refused c.heed.ensures.fault c.heed.ensures.refused c.tell_refused-told.ensures c.keep.ensures.kept

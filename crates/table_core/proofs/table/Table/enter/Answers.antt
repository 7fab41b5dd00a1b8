use Rattle.table_core.specs.Seen.{seen}
use Rattle.table_core.proofs.Entering.{opens_refused}
use Rattle.table_core.proofs.table.Table.enter.Goals as goal

pub returns-in_default : goal.returns-in_default
returns-in_default c = opens_refused c.args.post.now c.deny_object.new.post (seen c.args.self.now) (seen c.deny_object.new.self) c.args.place c.args.name.now c.args.client c.in_ok-deny_object.ensures

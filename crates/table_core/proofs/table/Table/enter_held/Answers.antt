use Rattle.std.specs.Prelude.{Some}
use Rattle.session_text.specs.declared.line.ReplyLine.TheVariants as lines
use Rattle.table_core.specs.Seen.{seen}
use Rattle.table_core.proofs.Bringing.{refuses}
use Rattle.table_core.proofs.Entering.{opens_refused}
use Rattle.table_core.proofs.table.Table.enter_held.Goals as goal

pub returns-in_ok-refuse-in-Some : goal.returns-in_ok-refuse-in-Some
returns-in_ok-refuse-in-Some c = opens_refused c.args.post.now c.refuse.new.post (seen c.args.self.now) (seen c.refuse.new.self) c.args.place c.args.name.now
    (Some c.args.client)
    (refuses c.args.post.now c.refuse.new.post (seen c.args.self.now) (seen c.refuse.new.self) c.args.place (lines.Refused c.in-Some.refusal) tt
    c.in_ok-refuse-in-Some.ensures)

use Rattle.std.proofs.Common.{refl}
use Rattle.session_text.specs.Lines.{withdrawn_text}
use Rattle.table_core.proofs.Submitting.{ends_nowhere_as}
use Rattle.client_core.specs.Views.{custodies_of}
use Rattle.table_core.proofs.table.Table.withdrawn.Goals as goal

pub returns-in-None : goal.returns-in-None
returns-in-None c = ends_nowhere_as (custodies_of c.args.self.now.custody) c.args.post.now c.args.self.now.objects.items c.args.self.now.clients c.args.at c.args.session c.from-session.result
    c.args.number c.args.number (withdrawn_text c.args.number) c.from-session.ensures refl c.in-None.ensures.none

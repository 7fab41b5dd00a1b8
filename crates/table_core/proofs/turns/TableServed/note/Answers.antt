use Rattle.table_core.proofs.Turning.{noted}
use Rattle.table_core.proofs.turns.TableServed.note.Goals as goal

pub returns : goal.returns
returns c = noted c.args.self.now c.heed_note.new.self c.args.post.now c.heed_note.new.post c.args.note c.in_ok-heed_note.ensures

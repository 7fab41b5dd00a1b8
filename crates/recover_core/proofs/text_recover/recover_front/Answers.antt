use Rattle.decl_core.specs.ObjectMap.{object_of}
use Rattle.live_core.specs.Front.{opening_of}
use Rattle.recover_core.proofs.Whole.{found_in}
use Rattle.recover_core.proofs.text_recover.recover_front.Goals as goal

pub returns : goal.returns
returns c =
    found_in (object_of c.args.object.now) c.args.house (opening_of c.args.front) c.args.text.now c.split_at.result.0.now c.split_at.result.1.now c.args.bytes c.line_ends.result c.requires.rows c.requires.within c.requires.told c.split_at.ensures.front c.split_at.ensures.back c.line_ends.ensures.ends c.requires.ended c.recover_behind.result c.recover_behind.ensures

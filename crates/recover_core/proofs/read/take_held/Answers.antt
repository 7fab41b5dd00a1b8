use Rattle.std.proofs.Common.{refl}
use Rattle.decl_core.specs.ObjectMap.{object_of}
use Rattle.decl_core.specs.HoldMap.{holds_of}
use Rattle.recover_core.proofs.Reading.{have_none, no_words}
use Rattle.recover_core.proofs.read.take_held.Goals as goal

pub returns-in-None : goal.returns-in-None
returns-in-None c = (no_words (object_of c.args.object.now) (holds_of c.args.holds.now) c.args.line.now c.object_has_names.ensures (have_none c.args.line.now c.in_ok-words_of.field-0 c.in_ok-words_of.ensures c.in-None.is), refl)

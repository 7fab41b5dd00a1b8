use Rattle.guest_core.proofs.Newest.{undo_gives_newest}
use Rattle.guest_core.proofs.hold_laws.undo_gives_newest.Goals as goal

pub returns : goal.returns
returns c = undo_gives_newest

use Rattle.std.proofs.Common.{subst}
use Rattle.board_core.specs.Sound.{IsNumbered, event_number}
use Rattle.world_core.proofs.noted.note.Goals as goal

pub note_end-requires : goal.note_end-requires
note_end-requires c = subst (λ e. IsNumbered c.args.desk.now.calls (event_number e)) c.in-End.is c.requires

use Rattle.std.proofs.Common.{sym}
use Rattle.session_text.proofs.Reserved.{not_reserved}
use Rattle.session_text.proofs.request.is_reserved.Goals as goal

pub returns-in-None : goal.returns-in-None
returns-in-None c = sym (not_reserved c.args.bytes.now c.in-None.ensures)

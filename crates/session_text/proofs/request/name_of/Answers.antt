use Rattle.session_text.proofs.Names.{name_read}
use Rattle.session_text.proofs.request.name_of.Goals as goal

pub returns : goal.returns
returns c = name_read c.args.bytes.now c.in_ok-name.name c.in_ok-name.ensures

use Rattle.word_core.proofs.Identifiers.{same_test}
use Rattle.word_core.proofs.operation.is_name.Goals as goal

pub returns : goal.returns
returns c = same_test c.args.bytes.now c.is_identifier.result c.is_identifier.ensures

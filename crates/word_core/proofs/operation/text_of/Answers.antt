use Rattle.word_core.proofs.Identifiers.{identifier_text}
use Rattle.word_core.proofs.operation.text_of.Goals as goal

pub unreachable-requires : goal.unreachable-requires
unreachable-requires c = c.in-Err.ensures.cases.0 (identifier_text c.args.bytes.now c.requires)

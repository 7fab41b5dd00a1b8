use Rattle.std.proofs.Common.{sym, subst}
use Rattle.std.specs.Str.{IsUtf8}
use Rattle.word_core.proofs.Identifiers.{identifier_decides, identifier_text}
use Rattle.world_core.proofs.back.text_of.Goals as goal

pub unreachable-requires : goal.unreachable-requires
unreachable-requires c =
    c.in-Err.ensures.cases.0 (subst IsUtf8 (sym c.as_bytes.ensures.bytes) (identifier_text c.args.name.now ((identifier_decides c.args.name.now).1 c.as_bytes.ensures.name.0)))

use Rattle.value_core.specs.declared.format.Format.TheVariants.{First, Second}
use Rattle.value_bytes.proofs.decode.decode_kept.Goals as goal

pub returns-then-is_first-clause-header : goal.returns-then-is_first-clause-header
returns-then-is_first-clause-header c = λ none. c.decode_v1.ensures.header (none First)

pub returns-else-is_first-clause-header : goal.returns-else-is_first-clause-header
returns-else-is_first-clause-header c = λ none. c.decode.ensures.header (none Second)

use Rattle.std.proofs.Common.{subst}
use Rattle.std.specs.Prelude.{IsTrue, IsFalse}
use Rattle.std.specs.FinMap.{FinMap, entries}
use Rattle.value_core.specs.TextOrder.{text_cmp}
use Rattle.value_core.specs.declared.datum.Datum.{Datum}
use Rattle.value_core.specs.declared.format.Format.TheVariants.{Second}
use Rattle.value_bytes.specs.Spelling.{SpellRows}
use Rattle.apply_core.specs.Cuts.{StandsIn, GapIn}
use Rattle.apply_core.proofs.find.find_text.Goals as goal

pub returns-clause-stands : goal.returns-clause-stands
returns-clause-stands c =
    subst (λ k. IsTrue c.find.result.0 → (m : FinMap text_cmp Datum) → SpellRows Second c.args.bytes.now c.args.sort c.args.count m → StandsIn (entries m) k c.args.bytes.now c.find.result.1.now c.find.result.2.now) c.bytes.ensures.bytes c.find.ensures.stands

pub returns-clause-gap : goal.returns-clause-gap
returns-clause-gap c =
    subst (λ k. IsFalse c.find.result.0 → (m : FinMap text_cmp Datum) → SpellRows Second c.args.bytes.now c.args.sort c.args.count m → GapIn (entries m) k c.args.bytes.now c.find.result.1.now) c.bytes.ensures.bytes c.find.ensures.gap

use Rattle.std.proofs.Common.{sym, ◌∙◌}
use Rattle.value_core.specs.declared.format.Format.TheVariants.{Second}
use Rattle.value_bytes.proofs.Apart.{row_behind}
use Rattle.apply_core.proofs.strip.past_row.Goals as goal

pub returns-in_default-past_datum-clause-none : goal.returns-in_default-past_datum-clause-none
returns-in_default-past_datum-clause-none c = λ row rest is spelled.
    c.in_default-past_datum.ensures.none row.1 rest is.element
    (row_behind Second c.in-Some.key.now c.in-Some.behind.now row rest c.in-Some.ensures.some.0 is.key (sym c.in-Some.ensures.some.1 ∙ spelled))

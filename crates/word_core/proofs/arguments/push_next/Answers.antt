use Rattle.std.proofs.Common.{sym, ap, ◌∙◌}
use Rattle.std.specs.Prelude.{option_map}
use Rattle.value_core.specs.declared.datum.Datum.TheVariants.{Integer}
use Rattle.word_core.specs.Words.{bare}
use Rattle.word_core.proofs.Reading.{no_datum}
use Rattle.word_core.proofs.arguments.push_next.Goals as goal

pub returns-in-None-integer_of : goal.returns-in-None-integer_of
returns-in-None-integer_of c =
    no_datum c.args.line.now (bare c.in-Some.word.now) c.in-Some.rest.now c.in-Some.ensures (ap (λ o. option_map Integer o) (sym c.integer_of.ensures ∙ c.in-None-integer_of.is))

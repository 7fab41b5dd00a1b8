use Rattle.std.proofs.Common.{sym, ◌∙◌, arith}
use Rattle.std.proofs.lemmas.Bool.Decides.{nat_tests}
use Rattle.word_core.proofs.Numerals.{same_test}
use Rattle.word_core.proofs.Longs.{no_bytes, no_digits, read_as}
use Rattle.word_core.proofs.number.long_of.Goals as goal

pub returns-then-is_empty : goal.returns-then-is_empty
returns-then-is_empty c = sym (no_bytes c.args.bytes.now (grind (arith, nat_tests)))

pub returns-then-not-are_digits : goal.returns-then-not-are_digits
returns-then-not-are_digits c = sym (no_digits c.args.bytes.now (sym (same_test c.args.bytes.now) ∙ sym c.are_digits.ensures ∙ c.if-not-are_digits.true))

pub long_value_of-requires : goal.long_value_of-requires
long_value_of-requires c = sym (same_test c.args.bytes.now) ∙ sym c.are_digits.ensures ∙ c.if-not-are_digits.false

pub returns : goal.returns
returns c = read_as c.args.bytes.now c.long_value_of.result (grind (arith, nat_tests)) (sym (same_test c.args.bytes.now) ∙ sym c.are_digits.ensures ∙ c.if-not-are_digits.false) c.long_value_of.ensures.small c.long_value_of.ensures.value

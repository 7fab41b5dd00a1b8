use Rattle.std.proofs.Common.{◌+◌, ◌<◌, length, arith}
use Rattle.std.proofs.lemmas.Int.Digits.{digits_value_more}
use Rattle.word_core.proofs.Numerals.{value_of_front, digit_is, digit_within}
use Rattle.word_core.proofs.number.long_value_of.Goals as goal

pub overflow_sub-digit : goal.overflow_sub-digit
overflow_sub-digit c =
    let inside : c.loop-digit.digit-index < length c.args.digits.now = omega arith in
    omega (arith, digit_within c.args.digits.now c.loop-digit.digit-index c.requires inside)

pub returns-in_err-checked_mul : goal.returns-in_err-checked_mul
returns-in_err-checked_mul c =
    let digits = c.args.digits.now in
    let i = c.loop-digit.digit-index in
    let inside : i < length digits = omega arith in
    rw c.from_residual.ensures (omega (arith, digits_value_more 10 digits i inside, value_of_front digits (i + 1), c.in_err-checked_mul.ensures))

pub returns-in_err-value : goal.returns-in_err-value
returns-in_err-value c =
    let digits = c.args.digits.now in
    let i = c.loop-digit.digit-index in
    let inside : i < length digits = omega arith in
    rw c.from_residual-in_err-value.ensures (omega (arith, digits_value_more 10 digits i inside, value_of_front digits (i + 1), digit_is digits i c.requires inside, c.in_ok-checked_mul.ensures, c.in_err-value.ensures, c.from.ensures))

pub loop-digit-preserved : goal.loop-digit-preserved
loop-digit-preserved c =
    let digits = c.args.digits.now in
    let i = c.loop-digit.digit-index in
    let inside : i < length digits = omega arith in
    record {
      value = omega (arith, digits_value_more 10 digits i inside, digit_is digits i c.requires inside, c.in_ok-checked_mul.ensures, c.in_ok-value.ensures, c.from.ensures);
      small = omega (arith, c.in_ok-checked_mul.ensures, c.in_ok-value.ensures);
    }

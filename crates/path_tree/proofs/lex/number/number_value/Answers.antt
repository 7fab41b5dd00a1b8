use Rattle.std.proofs.Common.{◌+◌, ◌<◌, slice_index, length, arith}
use Rattle.std.proofs.lemmas.Int.Digits.{digits_value_more}
use Rattle.path_tree.proofs.Words.{value_of_front, digit_is}
use Rattle.path_tree.proofs.lex.number.number_value.Goals as goal

pub returns-in_err-checked_mul : goal.returns-in_err-checked_mul
returns-in_err-checked_mul c =
    let digits = c.args.digits.now in
    let i = c.loop-digit.digit-index in
    let inside : i < length digits = omega arith in
    rw c.from_residual.ensures (omega (arith, digits_value_more 10 digits i inside, value_of_front digits (i + 1), c.in_err-checked_mul.ensures))

pub returns-in_err-value : goal.returns-in_err-value
returns-in_err-value c =
    let digits = c.args.digits.now in
    let i = c.loop-digit.digit-index in
    let inside : i < length digits = omega arith in
    rw c.from_residual-in_err-value.ensures (omega (arith, digits_value_more 10 digits i inside, value_of_front digits (i + 1), digit_is (slice_index digits i) (c.requires i 0 inside), c.in_ok-checked_mul.ensures, c.in_err-value.ensures, c.from.ensures))

pub loop-digit-preserved : goal.loop-digit-preserved
loop-digit-preserved c =
    let digits = c.args.digits.now in
    let i = c.loop-digit.digit-index in
    let inside : i < length digits = omega arith in
    omega (arith, digits_value_more 10 digits i inside, digit_is (slice_index digits i) (c.requires i 0 inside), c.in_ok-checked_mul.ensures, c.in_ok-value.ensures, c.from.ensures)

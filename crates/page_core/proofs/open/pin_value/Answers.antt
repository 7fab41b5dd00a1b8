use Rattle.std.proofs.Common.{◌≤◌, arith, length, sym, subst}
use Rattle.value_core.specs.Contents.{kind_of}
use Rattle.page_core.proofs.Lengths.{spellings_fit}
use Rattle.page_core.proofs.open.pin_value.Goals as goal

pub put_cut-requires-clause-few : goal.put_cut-requires-clause-few
put_cut-requires-clause-few g c =
    let bytes = c.in_ok-bytes.bytes.items in
    let fit = spellings_fit bytes (kind_of c.args.value.now) c.args.value.now c.in_ok-bytes.ensures in
    let few : length bytes ≤ 2097152 = omega (arith, fit.1) in
    subst (λ l. length l ≤ 2097152) (sym c.deref.ensures.value) few

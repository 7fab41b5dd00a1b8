use Rattle.std.proofs.Common.{◌++◌, IsErrOf, subst, rules}
use Rattle.value_bytes.specs.declared.decode.DecodeFault.TheVariants.{Damaged}
use Rattle.value_bytes.specs.Spelling.{SpellsIn, header_in}
use Rattle.value_bytes.proofs.Unique.{rows_behind}
use Rattle.value_bytes.proofs.decode.decode_elements.Goals as goal

pub returns-in_err-rows-in-Table-clause-damaged : goal.returns-in_err-rows-in-Table-clause-damaged
returns-in_err-rows-in-Table-clause-damaged c = λ fault value is.
    let told : IsErrOf c.decode_rows.result Damaged = search rules in
    let rows = rows_behind c.args.format c.in-Table.sort c.args.count c.args.bytes.now value c.requires (subst (λ k. SpellsIn c.args.format (header_in c.args.format k c.args.count ++ c.args.bytes.now) k value) c.in-Table.is is) in
    c.decode_rows.ensures.damaged told rows.0 rows.1

use Rattle.std.proofs.Common.{◌++◌, sym, subst, arith}
use Rattle.value_core.specs.Contents.{Contents}
use Rattle.value_bytes.specs.Spelling.{header, Spells}
use Rattle.apply_core.proofs.Shapes.{array_there, queue_there, table_there, rows_of_table}
use Rattle.apply_core.proofs.header.spell_entries.Goals as goal

pub returns-else-count-length-clause-yes : goal.returns-else-count-length-clause-yes
returns-else-count-length-clause-yes c = λ yes.
    let all = c.are_elements.ensures.yes yes in
    subst (λ k. (v : Contents) × Spells (header k c.args.count ++ c.args.bytes.now) k v) (sym c.in-Array.is)
    (array_there c.args.count c.args.bytes.now c.requires c.in-Array.length c.in-Array.sort all.0 (omega arith) all.1)

pub returns-in-Queue-clause-yes : goal.returns-in-Queue-clause-yes
returns-in-Queue-clause-yes c = λ yes.
    let all = c.are_elements-in-Queue.ensures.yes yes in
    subst (λ k. (v : Contents) × Spells (header k c.args.count ++ c.args.bytes.now) k v) (sym c.in-Queue.is)
    (queue_there c.args.count c.args.bytes.now c.requires c.in-Queue.sort all.0 all.1)

pub returns-in-Table-clause-yes : goal.returns-in-Table-clause-yes
returns-in-Table-clause-yes c = λ yes.
    let all = c.are_rows.ensures.yes yes in
    subst (λ k. (v : Contents) × Spells (header k c.args.count ++ c.args.bytes.now) k v) (sym c.in-Table.is)
    (table_there c.args.count c.args.bytes.now c.requires c.in-Table.sort all.0 all.1)

pub returns-in-Table-clause-no : goal.returns-in-Table-clause-no
returns-in-Table-clause-no c = λ no v is.
    let rows = rows_of_table c.args.count c.args.bytes.now c.requires c.in-Table.sort v (subst (λ k. Spells (header k c.args.count ++ c.args.bytes.now) k v) c.in-Table.is is) in
    c.are_rows.ensures.no no rows.0 rows.1

use Rattle.std.proofs.lemmas.List.{map-set}
use Rattle.value_core.specs.declared.datum.Datum.TheVariants as datum
use Rattle.value_core.proofs.cells.Cells.set.Goals as goal

pub returns-in-Integer-clause-data : goal.returns-in-Integer-clause-data
returns-in-Integer-clause-data c =
    rw (c.in-Integers.is, c.in-Integer.is) (map-set datum.Integer c.in-Integers.all.items c.args.place c.in-Integer.number)

pub returns-in-Text-datum-clause-data : goal.returns-in-Text-datum-clause-data
returns-in-Text-datum-clause-data c =
    rw (c.in-Texts.is, c.in-Text-datum.is) (map-set datum.Text c.in-Texts.all.items c.args.place c.in-Text-datum.text)

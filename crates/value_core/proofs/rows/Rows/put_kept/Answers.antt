use Rattle.value_core.specs.declared.datum.Datum.TheVariants as datum
use Rattle.value_core.proofs.Backs.{exchanged}
use Rattle.value_core.proofs.rows.Rows.put_kept.Goals as goal

pub returns-in-Integers-clause-data : goal.returns-in-Integers-clause-data
returns-in-Integers-clause-data c =
    rw (c.in-Integers.is, c.in-Integer.is) (exchanged datum.Integer c.in-Integers.all c.exchange.new.self c.args.key.now c.in-Integer.number c.exchange.ensures.rise c.exchange.ensures.rows)

pub returns-in-Texts-self-clause-data : goal.returns-in-Texts-self-clause-data
returns-in-Texts-self-clause-data c =
    rw (c.in-Texts-self.is, c.in-Text.is) (exchanged datum.Text c.in-Texts-self.all c.exchange-in-Texts-self.new.self c.args.key.now c.in-Text.row c.exchange-in-Texts-self.ensures.rise c.exchange-in-Texts-self.ensures.rows)

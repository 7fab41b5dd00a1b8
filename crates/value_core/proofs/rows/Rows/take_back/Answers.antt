use Rattle.value_core.specs.declared.datum.Datum.TheVariants as datum
use Rattle.value_core.proofs.Backs.{put_in_room}
use Rattle.value_core.proofs.rows.Rows.take_back.Goals as goal

pub returns-in-Integers-clause-data : goal.returns-in-Integers-clause-data
returns-in-Integers-clause-data c =
    rw (c.in-Integers.is, c.in-RowOfInteger.is) (put_in_room datum.Integer c.in-Integers.all c.put_back.new.self c.in-RowOfInteger.key c.in-RowOfInteger.number _ c.put_back.ensures.rise c.put_back.ensures.rows)

pub returns-in-Texts-self-clause-data : goal.returns-in-Texts-self-clause-data
returns-in-Texts-self-clause-data c =
    rw (c.in-Texts-self.is, c.in-RowOfText.is) (put_in_room datum.Text c.in-Texts-self.all c.put_back-in-Texts-self.new.self c.in-RowOfText.key c.in-RowOfText.row _ c.put_back-in-Texts-self.ensures.rise c.put_back-in-Texts-self.ensures.rows)

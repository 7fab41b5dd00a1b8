use Rattle.office_core.proofs.office.Office.next_key.Goals as goal

pub returns : goal.returns
returns g c = (c.deref-2.result.now.board, c.next_key.ensures)

use Rattle.history_law.proofs.Telling.{desk_text_is_legal}
use Rattle.history_law.proofs.Opening.{are_opening}
use Rattle.history_law.proofs.text.text_is_legal.Goals as goal

pub returns : goal.returns
returns c = λ kinds legal.
    let front = are_opening c.args.desk.now.object c.args.opening.now c.values_are_contents.ensures kinds in
    desk_text_is_legal c.args.desk.now c.args.opening.now c.history.ensures.sound c.desk_can_be_told.ensures front legal

use Rattle.std.proofs.Common.{take, ◌∙◌}
use Rattle.taken_core.proofs.Answered.{slice_whole, checked_taken, checked_wrong}
use Rattle.taken_core.proofs.taken.take_checked.Goals as goal

pub take_lines-requires : goal.take_lines-requires
take_lines-requires c = record { follows = c.in_ok-checked.ensures; whole = slice_whole c.args.file.now c.args.size c.requires.whole }

pub take_right-requires : goal.take_right-requires
take_right-requires c =
    let t = checked_taken c.args.file.now (take c.args.size c.args.file.now) c.in_ok-count.field-0 c.in-Ok.count c.take_lines.new.self c.requires.whole c.requires.form c.in_ok-count.ensures c.in-Ok.is in
    record { size = c.requires.size; whole = c.requires.whole; checked = t.0; lines = c.deref.ensures.value ∙ t.1; count = t.2 }

pub returns : goal.returns
returns c =
    checked_wrong c.args.file.now (take c.args.size c.args.file.now) c.args.accepts_cut c.in_ok-count.field-0 c.in-Err.line c.take_lines.new.self c.requires.whole c.requires.form c.in_ok-count.ensures c.in-Err.is

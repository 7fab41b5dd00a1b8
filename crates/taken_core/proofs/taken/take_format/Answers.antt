use Rattle.keep_loop.specs.Journal.{recovered}
use Rattle.taken_core.proofs.Answered.{tells_bare, tells_form, tells_other, answered_bare}
use Rattle.taken_core.proofs.taken.take_format.Goals as goal

pub returns-then-format-eq1 : goal.returns-then-format-eq1
returns-then-format-eq1 c =
    answered_bare c.args.file.now c.args.accepts_cut c.in_ok-told.told c.args.size c.requires.size c.requires.whole (tells_bare (recovered c.args.file.now) c.args.format c.requires.tells c.if-format-eq1.true) c.in_ok-told.ensures

pub take_checked-requires : goal.take_checked-requires
take_checked-requires c = record { size = c.requires.size; whole = c.requires.whole; form = tells_form (recovered c.args.file.now) c.args.format c.requires.tells c.if-format-eq-FORMAT.true }

pub returns : goal.returns
returns c = tells_other (recovered c.args.file.now) c.args.format c.requires.tells c.if-format-eq1.false c.if-format-eq-FORMAT.false

use Rattle.std.proofs.Common.{refl, sym, ◌∙◌}
use Rattle.keep_loop.specs.Taken.{IsRight}
use Rattle.taken_core.proofs.Formats.{sure, unsure}
use Rattle.taken_core.proofs.Taking.{takes_check, takes_other}
use Rattle.taken_core.proofs.checked.Checked.take_line.Goals as goal

pub returns-then-not-is_right : goal.returns-then-not-is_right
returns-then-not-is_right c done f same = unsure (IsRight done c.args.line.now) c.in_ok-is_right.is_right c.if-not-is_right.true (c.in_ok-is_right.ensures done f same)

pub returns-then-is_check : goal.returns-then-is_check
returns-then-is_check c done f same =
    let right = sure (IsRight done c.args.line.now) c.in_ok-is_right.is_right c.if-not-is_right.false (c.in_ok-is_right.ensures done f same) in
    takes_check done c.args.line.now c.args.self.now _ (sym c.is_check.ensures ∙ c.if-is_check.true) right f refl refl refl

pub returns : goal.returns
returns c done f same =
    takes_other done c.args.line.now c.args.self.now _ (sym c.is_check.ensures ∙ c.if-is_check.false) f c.more-self.ensures refl c.in_ok-extend_from_slice.ensures.items

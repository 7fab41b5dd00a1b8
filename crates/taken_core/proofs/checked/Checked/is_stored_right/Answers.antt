use Rattle.std.proofs.Common.{refl}
use Rattle.std.specs.Prelude.{Some}
use Rattle.taken_core.proofs.Taking.{round_not_fronted, round_short, round_tests}
use Rattle.taken_core.proofs.checked.Checked.is_stored_right.Goals as goal

pub returns-then-not-self : goal.returns-then-not-self
returns-then-not-self c done f same r = round_not_fronted done c.args.line.now c.args.self.now f c.if-not-self.true r

pub returns-then-stored-size : goal.returns-then-stored-size
returns-then-stored-size c done f same r = round_short done c.args.line.now c.args.size c.args.stored c.requires same c.ranges.size.fits c.if-stored-size.true r

pub returns : goal.returns
returns c = round_tests c.is_written.result c.args.line.now c.args.size c.args.stored c.args.self.now (Some c.args.stored) refl c.requires c.if-not-self.false c.if-stored-size.false c.ranges.size.fits c.is_written.ensures

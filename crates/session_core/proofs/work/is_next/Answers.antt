use Rattle.std.proofs.Common.{refl}
use Rattle.std.specs.Prelude.{Some}
use Rattle.session_core.specs.Making.{asked_by}
use Rattle.session_core.proofs.Making.{new_by}
use Rattle.session_core.proofs.Repeating.{found_state}
use Rattle.session_core.proofs.work.is_next.Goals as goal

pub say_kept-requires : goal.say_kept-requires
say_kept-requires g c =
    let told = c.in-Ok-Some.ensures in
    (told.0, told.1, found_state told.0 _ c.args.key c.in-Ok-Some.kept (rw c.in-Ok-Some.field-0-is at told.2))

pub returns-in-Ok-None : goal.returns-in-Ok-None
returns-in-Ok-None g c = λ t.
    let told = c.in-Ok-None.ensures in
    new_by (asked_by c.args.seat.now.session c.args.op.now c.args.args.now) (Some c.args.key) c.args.key told.0 refl told.1 (rw c.in-Ok-None.field-0-is at told.2)

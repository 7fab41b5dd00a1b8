use Rattle.std.proofs.Common.{arith}
use Rattle.device_core.proofs.Slots.{stands_at, not_kept}
use Rattle.device_core.proofs.file.kept_place.Goals as goal

pub returns-else-len-clause-some : goal.returns-else-len-clause-some
returns-else-len-clause-some c = (
  c.in-Some.ensures.some.0,
  c.in-Some.ensures.some.1,
  c.index-file.result.now,
  stands_at c.args.files.now.items c.in-Some.place c.index-file.result.now c.in-Some.ensures.some.1 c.index-file.ensures,
  c.in-Sealed.is,
  omega arith,
)

pub returns-in_default-state-clause-none : goal.returns-in_default-state-clause-none
returns-in_default-state-clause-none c = λ b kept.
    absurd (not_kept c.args.files.now.items c.in-Some.place c.args.number c.index-file.result.now
    (stands_at c.args.files.now.items c.in-Some.place c.index-file.result.now c.in-Some.ensures.some.1 c.index-file.ensures)
    c.in-Some.ensures.some.0 c.in_default-state.not-Sealed b kept)

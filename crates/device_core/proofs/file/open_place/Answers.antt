use Rattle.device_core.proofs.Slots.{stands_at, not_open}
use Rattle.device_core.proofs.file.open_place.Goals as goal

pub returns-in-Open-clause-some : goal.returns-in-Open-clause-some
returns-in-Open-clause-some c = (
  c.in-Some.ensures.some.0,
  c.in-Some.ensures.some.1,
  c.index-file.result.now,
  stands_at c.args.files.now.items c.in-Some.place c.index-file.result.now c.in-Some.ensures.some.1 c.index-file.ensures,
  c.in-Open.is,
)

pub returns-in_default-state-clause-none : goal.returns-in_default-state-clause-none
returns-in_default-state-clause-none c =
    not_open c.args.files.now.items c.in-Some.place c.args.number c.index-file.result.now
    (stands_at c.args.files.now.items c.in-Some.place c.index-file.result.now c.in-Some.ensures.some.1 c.index-file.ensures)
    c.in-Some.ensures.some.0 c.in_default-state.not-Open

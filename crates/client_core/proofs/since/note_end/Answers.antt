use Rattle.std.proofs.Common.{refl}
use Rattle.client_core.specs.Since.{since_second}
use Rattle.client_core.proofs.Timing.{are_since, each_since}
use Rattle.client_core.proofs.since.note_end.Goals as goal

pub returns-clause-are : goal.returns-clause-are
returns-clause-are c = λ was changed next are.
    are_since c.args.number c.args.rows.now.items c.leave_other.new.rows.items c.add_missing.new.rows.items was c.args.held.now (since_second c.args.number c.args.second) refl next are
    c.leave_other.ensures.leaves c.add_missing.ensures.more c.add_missing.ensures.same

pub returns-clause-each : goal.returns-clause-each
returns-clause-each c =
    each_since c.args.number c.args.second c.args.rows.now.items c.leave_other.new.rows.items c.add_missing.new.rows.items c.args.held.now
    c.leave_other.ensures.leaves c.add_missing.ensures.more c.add_missing.ensures.same

use Rattle.std.proofs.Common.{sym, subst}
use Rattle.client_core.specs.State.{State}
use Rattle.table_core.specs.Parts.{IsOwedAt}
use Rattle.client_core.specs.Views.{custodies_of}
use Rattle.table_core.proofs.table.Table.call_for.Goals as goal

pub make_owed-requires-clause-apart : goal.make_owed-requires-clause-apart
make_owed-requires-clause-apart c =
    c.has_session.ensures c.if-has_session.false (custodies_of c.has_room_for.new.self.custody) c.has_room_for.new.self.objects.items

pub make_owed-requires-clause-owed : goal.make_owed-requires-clause-owed
make_owed-requires-clause-owed c =
    subst (λ (s : State). IsOwedAt s c.args.at c.args.session c.args.operation c.args.arguments.items) (sym c.has_room_for.ensures.same) c.requires

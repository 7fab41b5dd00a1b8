use Rattle.std.proofs.Common.{List, [], subst}
use Rattle.device_core.specs.declared.hand.Stamp.{Stamp}
use Rattle.board_core.specs.Free.{IsIn, Picks}
use Rattle.board_core.proofs.pick.pick.Goals as goal

pub returns : goal.returns
returns c =
    subst (λ (lists : List (List Stamp)). Picks (λ number. IsIn number lists) [] c.args.free.now.items c.pick_from.new.free.items) c.as_slice.ensures.lists c.pick_from.ensures

use Rattle.std.proofs.Common.{◌↔◌, ◌⊎◌, ℕ, IsTrue, take, ap, subst}
use Rattle.device_core.specs.declared.hand.Stamp.{Stamp}
use Rattle.board_core.specs.Free.{HasFile, IsIn}
use Rattle.board_core.proofs.Picking.{first_there}
use Rattle.board_core.proofs.pick.goes.Goals as goal

pub returns : goal.returns
returns c stamp rest here =
    subst (λ (n : ℕ). IsTrue c.is_there.result ↔ (IsIn n c.args.lists.now ⊎ HasFile n (take c.args.at c.args.free.now)))
    (ap (λ (s : Stamp). s.number) (first_there c.args.free.now c.args.at (record { number = 0; len = 0 }) stamp rest here)) c.is_there.ensures

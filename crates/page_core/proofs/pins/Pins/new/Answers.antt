use Rattle.std.proofs.Common.{◌≡◌, List, ◌++◌, length, drop, replicate, subst}
use Rattle.device_core.specs.declared.hand.Stamp.{Stamp}
use Rattle.page_core.specs.Pins.{most_pins}
use Rattle.page_core.proofs.PinRows.{kept}
use Rattle.page_core.proofs.pins.Pins.new.Goals as goal

pub invariant_of-result : goal.invariant_of-result
invariant_of-result c = kept c.args.lists.now c.write_front.new.row (subst (λ (n : List Stamp). c.write_front.new.row ≡ c.args.lists.now ++ drop (length c.args.lists.now) (replicate most_pins n)) c.nothing-nothing.ensures c.write_front.ensures) c.requires

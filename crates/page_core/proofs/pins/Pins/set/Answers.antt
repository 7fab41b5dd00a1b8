use Rattle.std.proofs.Common.{◌≡◌, ◌<◌, List, length, ap, sym, ◌∙◌, arith, length-take}
use Rattle.std.proofs.Math.Seq.{take-set-lt}
use Rattle.std.specs.List.{slice_set}
use Rattle.device_core.specs.declared.hand.Stamp.{Stamp}
use Rattle.page_core.specs.Pins.{pins_of}
use Rattle.page_core.proofs.pins.Pins.set.Goals as goal

pub returns : goal.returns
returns c =
    let is : c.args.self.now ≡ pins_of c.self.inside = sym c.self.view_is in
    let within : c.args.part < c.self.inside.len = omega (arith, c.requires, ap length is, length-take c.self.inside.len c.self.inside.row) in
    take-set-lt c.self.inside.len c.self.inside.row c.args.part c.args.list within ∙ ap (λ (s : List (List Stamp)). slice_set s c.args.part c.args.list) (sym is)

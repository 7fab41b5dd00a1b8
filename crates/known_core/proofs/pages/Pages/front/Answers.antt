use Rattle.std.proofs.Common.{◌≡◌, length, arith}
use Rattle.std.specs.Prelude.{slice_set}
use Rattle.std.proofs.lemmas.List.{length-set}
use Rattle.known_core.proofs.Fitting.{set_mask}
use Rattle.known_core.proofs.Missing.{unread_few}
use Rattle.known_core.proofs.pages.Pages.front.Goals as goal

pub returns-clause-first : goal.returns-clause-first
returns-clause-first c = (set_mask c.args.self c.self.inside.masks c.args.part 1 c.self.view_is (omega (arith, c.requires, c.self.invariant))).0

pub returns-clause-others : goal.returns-clause-others
returns-clause-others c = (set_mask c.args.self c.self.inside.masks c.args.part 1 c.self.view_is (omega (arith, c.requires, c.self.invariant))).1

pub returns-clause-few : goal.returns-clause-few
returns-clause-few c =
    let long : length (slice_set c.self.inside.masks c.args.part 1) ≡ length c.self.inside.masks = length-set c.self.inside.masks c.args.part 1 in
    omega (arith, unread_few (slice_set c.self.inside.masks c.args.part 1), long, c.self.invariant)

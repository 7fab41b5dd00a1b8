use Rattle.std.proofs.Common.{[], ◌∷◌}
use Rattle.apply_core.proofs.Plains.{both_plain}
use Rattle.apply_core.proofs.plain.are_plain_eight.Goals as goal

pub returns : goal.returns
returns c =
    both_plain c.both.result c.are_plain_four.result c.are_plain_four-2.result (c.args.a ∷ c.args.b ∷ c.args.c ∷ c.args.d ∷ []) (c.args.e ∷ c.args.f ∷ c.args.g ∷ c.args.h ∷ []) c.both.ensures c.are_plain_four.ensures c.are_plain_four-2.ensures

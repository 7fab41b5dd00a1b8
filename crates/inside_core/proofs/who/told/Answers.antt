use Rattle.std.proofs.Common.{sym, arith}
use Rattle.std.proofs.lemmas.List.{take_all, length-take}
use Rattle.inside_core.proofs.who.told.Goals as goal

pub returns-then-all-le-MOST_TOLD : goal.returns-then-all-le-MOST_TOLD
returns-then-all-le-MOST_TOLD c = let h = c.if-all-le-MOST_TOLD.true in sym (take_all 256 c.args.all.now (omega (arith, h)))

pub slice_bounds-result-end : goal.slice_bounds-result-end
slice_bounds-result-end c = let h = c.if-all-le-MOST_TOLD.false in let l = length-take 256 c.args.all.now in omega (arith, h, l)

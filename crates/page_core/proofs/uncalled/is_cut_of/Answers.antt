use Rattle.std.proofs.Common.{◌≢◌, arith}
use Rattle.page_core.specs.Cut.{lengths}
use Rattle.page_core.proofs.Cuts.{is_cut_by, no_cut_by}
use Rattle.page_core.proofs.uncalled.is_cut_of.Goals as goal

pub returns-in-None : goal.returns-in-None
returns-in-None c = (λ h. absurd cc, λ cut. absurd (no_cut_by c.args.count (lengths c.args.stamps.now) c.requires c.in-None.ensures.none cut))

pub returns-in-Some : goal.returns-in-Some
returns-in-Some c =
    let some : c.args.count ≢ 0 = λ e. absurd (omega (arith, e, c.if-count-eq0.false)) in
    let is = is_cut_by c.args.count c.in-Some.size (lengths c.args.stamps.now) some c.requires c.in-Some.ensures.some in
    (λ t. is.0 (c.are_full.ensures.0 t), λ cut. c.are_full.ensures.1 (is.1 cut))

use Rattle.std.proofs.Common.{◌∷◌, refl, inl}
use Rattle.path_tree.specs.Trace.{Start}
use Rattle.audit_core.proofs.counts.pass_each.Goals as goal

pub returns : goal.returns
returns c = λ n paths t call are same known may few fresh.
    let begun = c.start_each.ensures n paths t call are known may few same fresh in
    c.finish_each.ensures n paths (Start call ∷ t) call begun known same (inl (refl, refl))

use Rattle.std.proofs.Common.{◌<◌, ◌∷◌, subst, refl, inl}
use Rattle.path_tree.specs.Trace.{Start, starts, ends}
use Rattle.path_count.proofs.Running.{call_counts}
use Rattle.audit_core.proofs.counts.pass.Goals as goal

pub returns : goal.returns
returns c = λ n paths t call stands same known may few fresh.
    let begun = c.start.ensures.taken ((c.start.ensures.answer n paths t stands).1 (known, may, few)) n paths t call stands same fresh in
    let ends_less : ends c.args.op (Start call ∷ t) < starts c.args.op (Start call ∷ t) =
    subst (λ op. ends op (Start call ∷ t) < starts op (Start call ∷ t)) same (call_counts call (Start call ∷ t) begun.trace (inl (refl, refl))) in
    c.finish.ensures.ended ((c.finish.ensures.answer n paths (Start call ∷ t) begun).1 (known, ends_less)) n paths (Start call ∷ t) call begun same (inl (refl, refl))

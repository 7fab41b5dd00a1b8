use Rattle.std.proofs.Common.{◌≢◌, ℕ, sym, subst}
use Rattle.std.specs.Prelude.{All}
use Rattle.client_core.proofs.Starting.{all_kept, steps_both}
use Rattle.client_core.proofs.start.seat_all.Goals as goal

pub returns-clause-kept : goal.returns-clause-kept
returns-clause-kept c =
    all_kept c.args.hosted.now.guests c.seat_up_to.new.hosted.guests c.leave_all.new.hosted.guests c.greatest-most.result c.args.held.now c.in_ok-others.others.items c.greatest-most.ensures
    c.in_ok-others.ensures.taken c.in_ok-others.ensures.below c.in_ok-others.ensures.others
    (λ s apart. c.leave_all.ensures.kept s (subst (λ xs. All (λ (o : ℕ). s ≢ o) xs) (sym c.deref.ensures.value) apart))

pub returns-clause-seats : goal.returns-clause-seats
returns-clause-seats c = steps_both c.args.hosted.now c.seat_up_to.new.hosted c.leave_all.new.hosted c.in_ok-others.ensures.steps c.leave_all.ensures.steps

use Rattle.std.proofs.Common.{◌≡◌, ◌∙◌, ◌++◌, ◌∷◌, [], length, sym, ap, arith, append_assoc}
use Rattle.live_core.specs.Answers.{carried_from}
use Rattle.live_core.proofs.Listing.{head_of}
use Rattle.live_core.proofs.Fixed.{fixed_on}
use Rattle.live_core.proofs.live.carry.Goals as goal

pub loop-carried-smaller : goal.loop-carried-smaller
loop-carried-smaller c =
    let h = head_of c.loop-carried.carried.items (omega (arith, c.loop-carried-test.true, c.len.ensures)) in
    let t = c.take_first-call.ensures h.0 h.1 h.2 in
    omega (arith, ap length t.1, ap length h.2)

pub loop-carried-preserved : goal.loop-carried-preserved
loop-carried-preserved c =
    let old = c.loop-carried.hall in
    let new = c.carry_one.new.hall in
    let call = c.take_first-call.result in
    let more = c.take_first-call.new.carried.items in
    let h = head_of c.loop-carried.carried.items (omega (arith, c.loop-carried-test.true, c.len.ensures)) in
    let t = c.take_first-call.ensures h.0 h.1 h.2 in
    let items : c.loop-carried.carried.items ≡ call ∷ more = h.2 ∙ ap (λ z. z ∷ h.1) (sym t.0) ∙ ap (λ zs. call ∷ zs) (sym t.1) in
    let w = c.in_ok-carry_one.ensures.waits c.if-not-branch.false in (
      λ at kept. c.carry_one.ensures.kept at (c.loop-carried.invariant.0 at kept),
      fixed_on c.args.hall.now old new c.loop-carried.invariant.1 c.carry_one.ensures.fixed,
      omega (arith, w.1, ap length items, c.loop-carried.invariant.2),
      ap (λ ws. ws ++ carried_from new.given more) w.0 ∙ append_assoc old.waiting (carried_from old.given (call ∷ [])) (carried_from new.given more)
          ∙ ap (λ n. old.waiting ++ (carried_from old.given (call ∷ []) ++ carried_from n more)) w.1
          ∙ sym (ap (λ cs. old.waiting ++ carried_from old.given cs) items) ∙ c.loop-carried.invariant.3,
    )

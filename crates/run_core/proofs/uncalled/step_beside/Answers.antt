use Rattle.std.proofs.Common.{inl, inr}
use Rattle.run_core.proofs.Pens.{kept, pending_of}
use Rattle.run_core.proofs.uncalled.step_beside.Goals as goal

pub returns-clause-held : goal.returns-clause-held
returns-clause-held g c = λ a agrees holds apart. kept _ _ c.args.resting.now (λ n b at is. c.step.ensures.others n b (apart n at) is) holds

pub returns-clause-apart : goal.returns-clause-apart
returns-clause-apart g c = λ a agrees holds apart n at is. elim (c.step.ensures.unused n is) [
  | inl was ↦ apart n at was
  | inr free ↦ let p = pending_of (g.H.Hand.pending c.args.hand.now) c.args.resting.now n at holds in free a agrees p.0 p.1
]

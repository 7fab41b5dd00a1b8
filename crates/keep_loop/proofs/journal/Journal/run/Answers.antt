use Rattle.std.proofs.Common.{◌≡◌, ℕ, ◌+◌, List, [], ◌++◌, drop, sym, ◌∙◌, ap, subst}
use Rattle.std.proofs.lemmas.List.{append-nil, drop_all}
use Rattle.keep_loop.specs.Taken.{TellsBetween}
use Rattle.keep_loop.specs.Run.{AreSteps, HoldsAtLeast, added, added_by}
use Rattle.keep_loop.proofs.Moments.{started}
use Rattle.keep_loop.proofs.KeptTold.{between_told, now_tells}
use Rattle.keep_loop.proofs.Runs.{SoFar, next_is, so_far_first, so_far_next, step_leaves}
use Rattle.keep_loop.proofs.journal.Journal.run.Goals as goal

pub loop-step-init : goal.loop-step-init
loop-step-init g c =
    let j = c.args.self.now in
    let D = g.D.Device in
    record {
      in_order = c.requires.in_order;
      steps = c.requires.lines;
      so_far = λ stored text h.
          let s = c.requires.in_order.stands h.file h.known in
          let k = c.requires.in_order.checks h.file h.known in
          so_far_first D.seen D.moment D.left_since j stored text (added c.args.steps.now) h
          (started D.moment D.left_since j.device (λ f. TellsBetween stored (text ++ added c.args.steps.now) f)
          (λ f left. between_told _ _ _ _ (now_tells h.file _ j.stored j.size (j.room + j.checks) j.crc s k stored text h.lines_are h.stored_are f (g.met.D.Device.only_now j.device f left))));
    }

pub returns-in_err-make-clause-any_moment : goal.returns-in_err-make-clause-any_moment
returns-in_err-make-clause-any_moment g c stored text h =
    let D = g.D.Device in
    let steps = c.args.steps.now in
    let next = next_is steps c.loop-step.step-index c.step-item.result c.loop-step-test.true c.step-item.is in
    let so = subst (λ l. SoFar D.seen D.moment D.left_since c.args.self.now c.loop-step.self stored (text ++ added steps) (added l)) next (c.loop-step.invariant.so_far stored text h) in
    step_leaves D.seen D.moment D.left_since c.args.self.now c.loop-step.self c.make.new.self stored (text ++ added steps) (added_by c.step-item.result) (added (drop (c.loop-step.step-index + 1) steps)) so c.make.ensures.any_moment

pub loop-step-preserved : goal.loop-step-preserved
loop-step-preserved g c =
    let D = g.D.Device in
    let steps = c.args.steps.now in
    let next = next_is steps c.loop-step.step-index c.step-item.result c.loop-step-test.true c.step-item.is in
    record {
      in_order = c.in_ok-make.ensures.in_order;
      steps = (subst AreSteps next c.loop-step.invariant.steps).1;
      so_far = λ stored text h.
          let so = subst (λ l. SoFar D.seen D.moment D.left_since c.args.self.now c.loop-step.self stored (text ++ added steps) (added l)) next (c.loop-step.invariant.so_far stored text h) in
          so_far_next D.seen D.moment D.left_since c.args.self.now c.loop-step.self c.make.new.self stored (text ++ added steps) (added_by c.step-item.result) (added (drop (c.loop-step.step-index + 1) steps)) so c.make.ensures.any_moment
          (c.in_ok-make.ensures.holds);
    }

pub returns-clause-holds : goal.returns-clause-holds
returns-clause-holds g c stored text h =
    let steps = c.args.steps.now in
    let so = c.loop-step.invariant.so_far stored text h in
    let none : added (drop c.loop-step.step-index steps) ≡ [] = ap added (drop_all c.loop-step.step-index steps c.loop-step-test.false) in
    subst (λ l. HoldsAtLeast g.D.Device.seen c.loop-step.self stored l) (sym (append-nil so.text) ∙ ap (λ (l : List ℕ). so.text ++ l) (sym none) ∙ so.lines_are) so.holds

pub returns-clause-any_moment : goal.returns-clause-any_moment
returns-clause-any_moment g c stored text h = (c.loop-step.invariant.so_far stored text h).leaves

use Rattle.std.proofs.Common.{sym, ◌∙◌, subst}
use Rattle.device_core.specs.declared.memory.MemHand.{MemHand}
use Rattle.device_core.specs.declared.hand.Stamp.{Stamp}
use Rattle.device_core.specs.Files.{HasFiles, IsOpen, Serves, files_of}
use Rattle.run_core.specs.Runs.{run_sealed, PenHolds}
use Rattle.run_core.specs.Steps.{AreServed}
use Rattle.world_core.proofs.stage.step_run.Goals as goal

pub returns-clause-serves : goal.returns-clause-serves
returns-clause-serves c = λ s is. subst (λ (h : MemHand). Serves (files_of h) s) (sym c.into_inner.ensures)
    (c.step-answer.ensures.serves s (subst (λ (h : MemHand). Serves (files_of h) s) (sym (c.new-broken.ensures.inner ∙ c.replace.ensures.value)) is))

pub returns-clause-written : goal.returns-clause-written
returns-clause-written c = λ is. subst (λ (h : MemHand). AreServed (λ (s : Stamp). Serves (files_of h) s) (run_sealed c.step-answer.new.self)) (sym c.into_inner.ensures)
    (c.step-answer.ensures.written (subst (λ (h : MemHand). AreServed (λ (s : Stamp). Serves (files_of h) s) (run_sealed c.args.run.now)) (sym (c.new-broken.ensures.inner ∙ c.replace.ensures.value)) is))

pub returns-clause-found : goal.returns-clause-found
returns-clause-found c = λ pen a agrees so. c.step-answer.ensures.found
    (subst (λ (h : MemHand). PenHolds (λ n b. IsOpen (files_of h) n b) c.args.run.now) (sym (c.new-broken.ensures.inner ∙ c.replace.ensures.value)) pen) a
    (subst (λ (h : MemHand). HasFiles (files_of h) a) c.into_inner.ensures agrees) so

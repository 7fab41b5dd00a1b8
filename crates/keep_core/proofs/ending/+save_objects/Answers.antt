use Rattle.std.proofs.Common.{◌≡◌, List, ◌∷◌, sym, subst}
use Rattle.std.specs.Prelude.{OnOk}
use Rattle.device_core.specs.Papers.{Papers}
use Rattle.live_core.specs.Scene.{Scene}
use Rattle.keep_core.specs.Ending.{ObjectsAreSaved, ObjectsMayBeSaved}
use Rattle.keep_core.proofs.Saving.{on_ok, no_objects, no_objects_maybe, more_objects, more_objects_maybe}
use Rattle.keep_core.proofs.ending.+save_objects.Goals as goal

pub returns-in_default-clause-saved : goal.returns-in_default-clause-saved
returns-in_default-clause-saved g t c = no_objects (g.S.Shelf.holds c.args.shelf.now) c.args.objects.now c.in_default.ensures.cases

pub returns-in_default-clause-left : goal.returns-in_default-clause-left
returns-in_default-clause-left g t c = no_objects_maybe (g.S.Shelf.holds c.args.shelf.now) c.args.objects.now c.in_default.ensures.cases

pub returns-in-Ok-clause-saved : goal.returns-in-Ok-clause-saved
returns-in-Ok-clause-saved g t c =
    let objects : c.args.objects.now ≡ c.in-Some.hosted.now ∷ c.in-Some.rest.now = c.in-Some.ensures.cases.0 in
    let one = c.in-Some.hosted.now in
    subst (λ (xs : List Scene). OnOk c.save_objects.result ((papers : Papers) → g.S.Shelf.holds c.save_objects.new.shelf papers → (before : Papers) × g.S.Shelf.holds c.args.shelf.now before × ObjectsAreSaved xs before papers)) (sym objects)
    (on_ok c.save_objects.result
    ((papers : Papers) → g.S.Shelf.holds c.save_objects.new.shelf papers → (between : Papers) × g.S.Shelf.holds c.save_object.new.shelf between × ObjectsAreSaved c.in-Some.rest.now between papers)
    ((papers : Papers) → g.S.Shelf.holds c.save_objects.new.shelf papers → (before : Papers) × g.S.Shelf.holds c.args.shelf.now before × ObjectsAreSaved (one ∷ c.in-Some.rest.now) before papers)
    (more_objects (g.S.Shelf.holds c.args.shelf.now) (g.S.Shelf.holds c.save_object.new.shelf) (g.S.Shelf.holds c.save_objects.new.shelf) one c.in-Some.rest.now c.in-Ok.ensures.saved)
    c.save_objects.ensures.saved)

pub returns-in-Ok-clause-left : goal.returns-in-Ok-clause-left
returns-in-Ok-clause-left g t c =
    let objects : c.args.objects.now ≡ c.in-Some.hosted.now ∷ c.in-Some.rest.now = c.in-Some.ensures.cases.0 in
    subst (λ (xs : List Scene). (papers : Papers) → g.S.Shelf.holds c.save_objects.new.shelf papers → (before : Papers) × g.S.Shelf.holds c.args.shelf.now before × ObjectsMayBeSaved xs before papers) (sym objects)
    (more_objects_maybe (g.S.Shelf.holds c.args.shelf.now) (g.S.Shelf.holds c.save_object.new.shelf) (g.S.Shelf.holds c.save_objects.new.shelf) c.in-Some.hosted.now c.in-Some.rest.now c.save_object.ensures.left c.save_objects.ensures.left)

pub returns-in-Ok-save_objects-clause-left : goal.returns-in-Ok-save_objects-clause-left
returns-in-Ok-save_objects-clause-left g t c =
    let objects : c.args.objects.now ≡ c.in-Some.hosted.now ∷ c.in-Some.rest.now = c.in-Some.ensures.cases.0 in
    subst (λ (xs : List Scene). (papers : Papers) → g.S.Shelf.holds c.save_objects-in-Err.new.shelf papers → (before : Papers) × g.S.Shelf.holds c.args.shelf.now before × ObjectsMayBeSaved xs before papers) (sym objects)
    (more_objects_maybe (g.S.Shelf.holds c.args.shelf.now) (g.S.Shelf.holds c.save_object.new.shelf) (g.S.Shelf.holds c.save_objects-in-Err.new.shelf) c.in-Some.hosted.now c.in-Some.rest.now c.save_object.ensures.left c.save_objects-in-Err.ensures.left)

pub returns-in-Err-save_objects-clause-left : goal.returns-in-Err-save_objects-clause-left
returns-in-Err-save_objects-clause-left g t c =
    let objects : c.args.objects.now ≡ c.in-Some.hosted.now ∷ c.in-Some.rest.now = c.in-Some.ensures.cases.0 in
    subst (λ (xs : List Scene). (papers : Papers) → g.S.Shelf.holds c.save_objects-in-Err.new.shelf papers → (before : Papers) × g.S.Shelf.holds c.args.shelf.now before × ObjectsMayBeSaved xs before papers) (sym objects)
    (more_objects_maybe (g.S.Shelf.holds c.args.shelf.now) (g.S.Shelf.holds c.save_object.new.shelf) (g.S.Shelf.holds c.save_objects-in-Err.new.shelf) c.in-Some.hosted.now c.in-Some.rest.now c.save_object.ensures.left c.save_objects-in-Err.ensures.left)

use Rattle.std.proofs.Common.{◌≡◌, ◌∙◌, List, ap, subst}
use Rattle.std.specs.Prelude.{OnOk}
use Rattle.device_core.specs.Papers.{Papers}
use Rattle.value_core.specs.Contents.{Contents}
use Rattle.decl_core.specs.declared.object.Object.{Object}
use Rattle.decl_core.specs.declared.object.Part.{Part}
use Rattle.live_core.specs.Hall.{Hall}
use Rattle.keep_core.specs.Ending.{AreSaved, MayAllBeSaved}
use Rattle.keep_core.proofs.ending.save_object.Goals as goal

pub returns-clause-saved : goal.returns-clause-saved
returns-clause-saved g c =
    let object : c.object-object.result.now ≡ c.args.hosted.now.hall.object = c.object-object.ensures ∙ ap (λ (h : Hall). h.object) c.live-live.ensures in
    let parts : c.deref.result.now ≡ c.args.hosted.now.hall.object.parts.items = c.deref.ensures.value ∙ ap (λ (o : Object). o.parts.items) object in
    let values : c.contents.result.now ≡ c.args.hosted.now.hall.contents = c.contents.ensures ∙ ap (λ (h : Hall). h.contents) c.live-live.ensures in
    subst (λ (vs : List Contents). OnOk c.save_parts.result ((papers : Papers) → g.S.Shelf.holds c.save_parts.new.shelf papers → (before : Papers) × g.S.Shelf.holds c.args.shelf.now before × AreSaved c.args.hosted.now.hall.object.name (c.args.hosted.now.hall.object.parts.items) vs before papers)) values
    (subst (λ (ps : List Part). OnOk c.save_parts.result ((papers : Papers) → g.S.Shelf.holds c.save_parts.new.shelf papers → (before : Papers) × g.S.Shelf.holds c.args.shelf.now before × AreSaved c.args.hosted.now.hall.object.name (ps) c.contents.result.now before papers)) parts
    (subst (λ (o : Object). OnOk c.save_parts.result ((papers : Papers) → g.S.Shelf.holds c.save_parts.new.shelf papers → (before : Papers) × g.S.Shelf.holds c.args.shelf.now before × AreSaved o.name (c.deref.result.now) c.contents.result.now before papers)) object c.save_parts.ensures.saved))

pub returns-clause-left : goal.returns-clause-left
returns-clause-left g c =
    let object : c.object-object.result.now ≡ c.args.hosted.now.hall.object = c.object-object.ensures ∙ ap (λ (h : Hall). h.object) c.live-live.ensures in
    let parts : c.deref.result.now ≡ c.args.hosted.now.hall.object.parts.items = c.deref.ensures.value ∙ ap (λ (o : Object). o.parts.items) object in
    let values : c.contents.result.now ≡ c.args.hosted.now.hall.contents = c.contents.ensures ∙ ap (λ (h : Hall). h.contents) c.live-live.ensures in
    subst (λ (vs : List Contents). (papers : Papers) → g.S.Shelf.holds c.save_parts.new.shelf papers → (before : Papers) × g.S.Shelf.holds c.args.shelf.now before × MayAllBeSaved c.args.hosted.now.hall.object.name (c.args.hosted.now.hall.object.parts.items) vs before papers) values
    (subst (λ (ps : List Part). (papers : Papers) → g.S.Shelf.holds c.save_parts.new.shelf papers → (before : Papers) × g.S.Shelf.holds c.args.shelf.now before × MayAllBeSaved c.args.hosted.now.hall.object.name (ps) c.contents.result.now before papers) parts
    (subst (λ (o : Object). (papers : Papers) → g.S.Shelf.holds c.save_parts.new.shelf papers → (before : Papers) × g.S.Shelf.holds c.args.shelf.now before × MayAllBeSaved o.name (c.deref.result.now) c.contents.result.now before papers) object c.save_parts.ensures.left))

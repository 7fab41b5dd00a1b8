use Rattle.std.proofs.Common.{◌≡◌, List, ◌∷◌, sym, subst}
use Rattle.std.specs.Prelude.{OnOk}
use Rattle.device_core.specs.Papers.{Papers, part_key}
use Rattle.value_core.specs.Contents.{Contents}
use Rattle.decl_core.specs.declared.object.Part.{Part}
use Rattle.keep_core.specs.Ending.{AreSaved, MayAllBeSaved}
use Rattle.keep_core.proofs.Saving.{on_ok, no_parts, no_parts_maybe, no_values, more_saved, more_maybe, is_maybe}
use Rattle.keep_core.proofs.ending.+save_parts.Goals as goal

pub returns-in_default-clause-saved : goal.returns-in_default-clause-saved
returns-in_default-clause-saved g t c = no_parts (g.S.Shelf.holds c.args.shelf.now) c.args.object.now c.args.parts.now c.args.values.now c.in_default.ensures.cases

pub returns-in_default-clause-left : goal.returns-in_default-clause-left
returns-in_default-clause-left g t c = no_parts_maybe (g.S.Shelf.holds c.args.shelf.now) c.args.object.now c.args.parts.now c.args.values.now c.in_default.ensures.cases

pub returns-in_default-split_first-clause-left : goal.returns-in_default-split_first-clause-left
returns-in_default-split_first-clause-left g t c = no_values (g.S.Shelf.holds c.args.shelf.now) c.args.object.now c.args.parts.now c.args.values.now c.in_default-split_first.ensures.cases

pub returns-in-Ok-clause-saved : goal.returns-in-Ok-clause-saved
returns-in-Ok-clause-saved g t c =
    let parts : c.args.parts.now ≡ c.in-Some.part.now ∷ c.in-Some.parts.now = c.in-Some.ensures.cases.0 in
    let values : c.args.values.now ≡ c.in-Some-split_first.value.now ∷ c.in-Some-split_first.values.now = c.in-Some-split_first.ensures.cases.0 in
    subst (λ (vs : List Contents). OnOk c.save_parts.result ((papers : Papers) → g.S.Shelf.holds c.save_parts.new.shelf papers → (before : Papers) × g.S.Shelf.holds c.args.shelf.now before × AreSaved c.args.object.now c.args.parts.now vs before papers)) (sym values)
    (subst (λ (ps : List Part). OnOk c.save_parts.result ((papers : Papers) → g.S.Shelf.holds c.save_parts.new.shelf papers → (before : Papers) × g.S.Shelf.holds c.args.shelf.now before × AreSaved c.args.object.now ps (c.in-Some-split_first.value.now ∷ c.in-Some-split_first.values.now) before papers)) (sym parts)
    (on_ok c.save_parts.result
    ((papers : Papers) → g.S.Shelf.holds c.save_parts.new.shelf papers → (between : Papers) × g.S.Shelf.holds c.save_value.new.shelf between × AreSaved c.args.object.now c.in-Some.parts.now c.in-Some-split_first.values.now between papers)
    ((papers : Papers) → g.S.Shelf.holds c.save_parts.new.shelf papers → (before : Papers) × g.S.Shelf.holds c.args.shelf.now before × AreSaved c.args.object.now (c.in-Some.part.now ∷ c.in-Some.parts.now) (c.in-Some-split_first.value.now ∷ c.in-Some-split_first.values.now) before papers)
    (more_saved (g.S.Shelf.holds c.args.shelf.now) (g.S.Shelf.holds c.save_value.new.shelf) (g.S.Shelf.holds c.save_parts.new.shelf) c.args.object.now c.in-Some.part.now c.in-Some.parts.now c.in-Some-split_first.value.now c.in-Some-split_first.values.now c.in-Ok.ensures.saved)
    c.save_parts.ensures.saved))

pub returns-in-Ok-clause-left : goal.returns-in-Ok-clause-left
returns-in-Ok-clause-left g t c =
    let parts : c.args.parts.now ≡ c.in-Some.part.now ∷ c.in-Some.parts.now = c.in-Some.ensures.cases.0 in
    let values : c.args.values.now ≡ c.in-Some-split_first.value.now ∷ c.in-Some-split_first.values.now = c.in-Some-split_first.ensures.cases.0 in
    subst (λ (vs : List Contents). (papers : Papers) → g.S.Shelf.holds c.save_parts.new.shelf papers → (before : Papers) × g.S.Shelf.holds c.args.shelf.now before × MayAllBeSaved c.args.object.now c.args.parts.now vs before papers) (sym values)
    (subst (λ (ps : List Part). (papers : Papers) → g.S.Shelf.holds c.save_parts.new.shelf papers → (before : Papers) × g.S.Shelf.holds c.args.shelf.now before × MayAllBeSaved c.args.object.now ps (c.in-Some-split_first.value.now ∷ c.in-Some-split_first.values.now) before papers) (sym parts)
    (more_maybe (g.S.Shelf.holds c.args.shelf.now) (g.S.Shelf.holds c.save_value.new.shelf) (g.S.Shelf.holds c.save_parts.new.shelf) c.args.object.now c.in-Some.part.now c.in-Some.parts.now c.in-Some-split_first.value.now c.in-Some-split_first.values.now (is_maybe (g.S.Shelf.holds c.args.shelf.now) (g.S.Shelf.holds c.save_value.new.shelf) (part_key c.args.object.now c.in-Some.part.now.name) c.in-Some-split_first.value.now c.in-Ok.ensures.saved) c.save_parts.ensures.left))

pub returns-in-Ok-save_parts-clause-left : goal.returns-in-Ok-save_parts-clause-left
returns-in-Ok-save_parts-clause-left g t c =
    let parts : c.args.parts.now ≡ c.in-Some.part.now ∷ c.in-Some.parts.now = c.in-Some.ensures.cases.0 in
    let values : c.args.values.now ≡ c.in-Some-split_first.value.now ∷ c.in-Some-split_first.values.now = c.in-Some-split_first.ensures.cases.0 in
    subst (λ (vs : List Contents). (papers : Papers) → g.S.Shelf.holds c.save_parts-in-Err.new.shelf papers → (before : Papers) × g.S.Shelf.holds c.args.shelf.now before × MayAllBeSaved c.args.object.now c.args.parts.now vs before papers) (sym values)
    (subst (λ (ps : List Part). (papers : Papers) → g.S.Shelf.holds c.save_parts-in-Err.new.shelf papers → (before : Papers) × g.S.Shelf.holds c.args.shelf.now before × MayAllBeSaved c.args.object.now ps (c.in-Some-split_first.value.now ∷ c.in-Some-split_first.values.now) before papers) (sym parts)
    (more_maybe (g.S.Shelf.holds c.args.shelf.now) (g.S.Shelf.holds c.save_value.new.shelf) (g.S.Shelf.holds c.save_parts-in-Err.new.shelf) c.args.object.now c.in-Some.part.now c.in-Some.parts.now c.in-Some-split_first.value.now c.in-Some-split_first.values.now c.in-Err.ensures.left c.save_parts-in-Err.ensures.left))

pub returns-in-Err-save_parts-clause-left : goal.returns-in-Err-save_parts-clause-left
returns-in-Err-save_parts-clause-left g t c =
    let parts : c.args.parts.now ≡ c.in-Some.part.now ∷ c.in-Some.parts.now = c.in-Some.ensures.cases.0 in
    let values : c.args.values.now ≡ c.in-Some-split_first.value.now ∷ c.in-Some-split_first.values.now = c.in-Some-split_first.ensures.cases.0 in
    subst (λ (vs : List Contents). (papers : Papers) → g.S.Shelf.holds c.save_parts-in-Err.new.shelf papers → (before : Papers) × g.S.Shelf.holds c.args.shelf.now before × MayAllBeSaved c.args.object.now c.args.parts.now vs before papers) (sym values)
    (subst (λ (ps : List Part). (papers : Papers) → g.S.Shelf.holds c.save_parts-in-Err.new.shelf papers → (before : Papers) × g.S.Shelf.holds c.args.shelf.now before × MayAllBeSaved c.args.object.now ps (c.in-Some-split_first.value.now ∷ c.in-Some-split_first.values.now) before papers) (sym parts)
    (more_maybe (g.S.Shelf.holds c.args.shelf.now) (g.S.Shelf.holds c.save_value.new.shelf) (g.S.Shelf.holds c.save_parts-in-Err.new.shelf) c.args.object.now c.in-Some.part.now c.in-Some.parts.now c.in-Some-split_first.value.now c.in-Some-split_first.values.now c.in-Err.ensures.left c.save_parts-in-Err.ensures.left))

use Rattle.std.proofs.Common.{◌≡◌, List, ℕ, ap, ◌∙◌, refl, inl, subst}
use Rattle.std.specs.FinMap.{insert}
use Rattle.device_core.specs.Papers.{part_key}
use Rattle.page_core.specs.Saved.{StoreLeaves}
use Rattle.page_core.proofs.save.store_part.Goals as goal

pub returns-in-Ok-store-clause-ok : goal.returns-in-Ok-store-clause-ok
returns-in-Ok-store-clause-ok g c = λ papers is.
    let one = c.in-Ok-store.ensures.agrees papers is in
    let key : c.deref.result.now ≡ part_key c.args.at.object.now c.args.at.part.now.name = c.deref.ensures.value ∙ c.in-Ok.ensures in
    (one.0, one.1, one.2 ∙ ap (λ (k : List ℕ). insert one.0 k c.args.bytes.now) key)

pub returns-in-Err-clause-left : goal.returns-in-Err-clause-left
returns-in-Err-clause-left g c = λ papers is. (papers, is, inl refl)

pub returns-in-Err-store-clause-left : goal.returns-in-Err-store-clause-left
returns-in-Err-store-clause-left g c =
    let key : c.deref.result.now ≡ part_key c.args.at.object.now c.args.at.part.now.name = c.deref.ensures.value ∙ c.in-Ok.ensures in
    subst (λ k. StoreLeaves (g.S.Shelf.holds c.args.shelf.now) (g.S.Shelf.holds c.store.new.self) k c.args.bytes.now) key c.in-Err-store.ensures.agrees

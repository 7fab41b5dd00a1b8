use Rattle.std.proofs.Common.{◌≡◌, ◌∙◌, ap, subst, refl, inl, List, ℕ}
use Rattle.std.specs.FinMap.{insert}
use Rattle.decl_core.specs.declared.object.Object.{Object}
use Rattle.decl_core.specs.ObjectMap.{object_of}
use Rattle.word_core.specs.Text.{trace_text as text_of}
use Rattle.page_core.specs.Saved.{StoreLeaves}
use Rattle.desk_core.specs.Told.{lines_told}
use Rattle.keep_core.proofs.close.store_trace.Goals as goal

pub returns-in-Ok-store-clause-stored : goal.returns-in-Ok-store-clause-stored
returns-in-Ok-store-clause-stored g c = λ papers is.
    let one = c.in-Ok-store.ensures.agrees papers is in
    let key : c.as_bytes.result.now ≡ c.args.desk.now.object.name = c.as_bytes.ensures.bytes ∙ ap (λ (o : Object). o.name) (c.object.ensures.same ∙ c.accepted.ensures) in
    let text : c.deref.result.now ≡ text_of (object_of c.args.desk.now.object) c.args.opening.now (lines_told c.args.desk.now) = c.deref.ensures.value ∙ c.in-Ok.ensures in
    (one.0, one.1, one.2 ∙ (ap (λ (k : List ℕ). insert one.0 k c.deref.result.now) key ∙ ap (λ (t : List ℕ). insert one.0 c.args.desk.now.object.name t) text))

pub returns-in_default-clause-left : goal.returns-in_default-clause-left
returns-in_default-clause-left g c = λ papers is. (papers, is, inl refl)

pub returns-clause-left : goal.returns-clause-left
returns-clause-left g c =
    let key : c.as_bytes.result.now ≡ c.args.desk.now.object.name = c.as_bytes.ensures.bytes ∙ ap (λ (o : Object). o.name) (c.object.ensures.same ∙ c.accepted.ensures) in
    let text : c.deref.result.now ≡ text_of (object_of c.args.desk.now.object) c.args.opening.now (lines_told c.args.desk.now) = c.deref.ensures.value ∙ c.in-Ok.ensures in
    let were = g.T.Shelf.holds c.args.traces.now in
    let are = g.T.Shelf.holds c.store.new.self in
    subst (λ (t : List ℕ). StoreLeaves were are c.args.desk.now.object.name t) text (subst (λ (k : List ℕ). StoreLeaves were are k c.deref.result.now) key c.in-Err.ensures.agrees)

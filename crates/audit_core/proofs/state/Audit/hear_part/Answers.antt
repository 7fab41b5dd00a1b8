use Rattle.std.proofs.Common.{◌≡◌, ◌++◌, ◌∷◌, [], length, sym, ◌∙◌, refl, subst, arith}
use Rattle.std.proofs.lemmas.Bool.{false≢true}
use Rattle.decl_core.specs.ObjectMap.{object_of}
use Rattle.decl_core.specs.ObjectMap.{parts_of}
use Rattle.audit_core.specs.Tells.{part_told}
use Rattle.audit_core.specs.Parts.{IsPartAt}
use Rattle.audit_core.proofs.Hearing.{part_bad}
use Rattle.audit_core.proofs.Standing.{part_stands, as_many}
use Rattle.audit_core.proofs.state.Audit.hear_part.Goals as goal

pub returns-then-not-self-clause-heard : goal.returns-then-not-self-clause-heard
returns-then-not-self-clause-heard c = λ line heard s says. part_bad (object_of c.args.object.now) heard line c.args.name.now c.args.hex.now says
    (λ value is. false≢true (sym c.if-not-self.true ∙ s.named ∙ is.named))

pub returns-in_ok-push-in-Some-clause-heard : goal.returns-in_ok-push-in-Some-clause-heard
returns-in_ok-push-in-Some-clause-heard c = λ line heard s says.
    let o = object_of c.args.object.now in
    let size : c.len.result ≡ length heard.opening = omega (arith, c.len.ensures, c.args.self.now.parts.ok.0, as_many o c.args.self.now heard s) in
    let given : IsPartAt (parts_of c.deref.result.now) c.len.result c.args.name.now c.args.hex.now c.in-Some.value = rw c.in-Some.is at c.in_ok-value.ensures in
    let here : IsPartAt o.parts c.len.result c.args.name.now c.args.hex.now c.in-Some.value = subst (λ ps. IsPartAt (parts_of ps) c.len.result c.args.name.now c.args.hex.now c.in-Some.value) c.deref.ensures.value given in
    let is : IsPartAt o.parts (length heard.opening) c.args.name.now c.args.hex.now c.in-Some.value = subst (λ n. IsPartAt o.parts n c.args.name.now c.args.hex.now c.in-Some.value) size here in (
      record heard { opening = heard.opening ++ c.in-Some.value ∷ [] },
      part_told says (record { named = sym s.named ∙ c.if-not-self.false; kind = is.kind; next = is.there; bytes = is.bytes; is = is.is; spells = is.spells }),
      part_stands o c.args.self.now _ heard c.args.name.now is.kind c.in-Some.value is.bytes s c.if-not-self.false is.there is.spells c.in_ok-push-in-Some.ensures.items refl refl refl refl,
    )

pub returns-in-None-clause-heard : goal.returns-in-None-clause-heard
returns-in-None-clause-heard c = λ line heard s says.
    let o = object_of c.args.object.now in
    let size : c.len.result ≡ length heard.opening = omega (arith, c.len.ensures, c.args.self.now.parts.ok.0, as_many o c.args.self.now heard s) in
    let none = rw c.in-None.is at c.in_ok-value.ensures in
    part_bad o heard line c.args.name.now c.args.hex.now says (λ value is.
    let here : IsPartAt o.parts (length heard.opening) c.args.name.now c.args.hex.now value = record { kind = is.kind; there = is.next; bytes = is.bytes; is = is.is; spells = is.spells } in
    let there : IsPartAt o.parts c.len.result c.args.name.now c.args.hex.now value = subst (λ n. IsPartAt o.parts n c.args.name.now c.args.hex.now value) (sym size) here in
    none value (subst (λ ps. IsPartAt (parts_of ps) c.len.result c.args.name.now c.args.hex.now value) (sym c.deref.ensures.value) there))

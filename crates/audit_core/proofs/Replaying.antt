-- Replies of the sequential object.
use Rattle.std.proofs.Common.{◌≡◌, ℕ, zero, suc, ◌<◌, List, [], ◌∷◌, length, get_or, refl, sym, ap, ◌∙◌, subst, arith, Bool, true, false, IsTrue, map}
use Rattle.std.specs.Prelude.{◌↔◌, Some, Result, Ok, Err, IfOk, slice_get, unwrap_or}
use Rattle.std.specs.declared.sync.Arc.{Arc}
use Rattle.std.specs.Global.{Global}
use Rattle.std.specs.Arc.{arc_value}
use Rattle.std.proofs.lemmas.Bool.{false≢true}
use Rattle.value_core.specs.declared.datum.Datum.{Datum}
use Rattle.value_core.specs.declared.kind.Kind.{Kind}
use Rattle.value_core.specs.Contents.{Contents, kind_of}
use Rattle.decl_core.specs.declared.object.Object.{Object}
use Rattle.decl_core.specs.declared.object.Operation.{Operation}
use Rattle.decl_core.specs.declared.object.Part.{Part}
use Rattle.decl_core.specs.Form.{Body}
use Rattle.decl_core.specs.Bodies.{body_of}
use Rattle.decl_core.specs.Meaning.{done, refused, apply_body}
use Rattle.decl_core.specs.ObjectMap.{object_of, parts_of}
use Rattle.decl_core.specs.PartKinds.{AreKindsOf, EachKindsOf}
use Rattle.apply_core.specs.Fits.{ArgumentsFit, HoldsReads}
use Rattle.apply_core.specs.Replies.{ReplyTells}
use Rattle.apply_core.specs.History.{IsReplyOn, left_by}
use Rattle.apply_core.specs.declared.reply.Reply.{Reply}
use Rattle.apply_core.specs.declared.reply.Reply.TheVariants.{Done, Refused, Failed}
use Rattle.word_core.specs.Events.{body_at}
use Rattle.audit_core.specs.declared.calls.ActiveCall.{ActiveCall}
use Rattle.audit_core.specs.Replies.{IsAnswer, Did, IsDoneSo, CanDo, Tries}
use Rattle.audit_core.proofs.Forms.{body_is, fit_elsewhere}

-- a reply that was given is the sequential object's
given_is : (reply : Reply) (body : Body) (args : List Datum) (parts : List Contents) → IsAnswer reply → ReplyTells reply (apply_body body args parts).0
    → IsReplyOn reply body args parts × (left_by reply body args parts ≡ (apply_body body args parts).1)
given_is (Done r) body args parts answer tells = (tells, refl)
given_is (Refused w) body args parts answer tells = (tells, refl)
given_is (Failed f) body args parts answer tells = absurd answer

-- and no other one is
other_is_not : (reply given : Reply) (body : Body) (args : List Datum) (parts : List Contents) → IsAnswer reply → ReplyTells given (apply_body body args parts).0 → (reply ≡ given → ⊥)
    → IsReplyOn reply body args parts → ⊥
other_is_not (Done r) (Done g) body args parts answer tells other is = let e : done r ≡ done g = sym is ∙ tells in let f : r ≡ g = cc in other (ap Done f)
other_is_not (Done r) (Refused g) body args parts answer tells other is = let e : done r ≡ refused g = sym is ∙ tells in cc
other_is_not (Refused r) (Done g) body args parts answer tells other is = let e : refused r ≡ done g = sym is ∙ tells in cc
other_is_not (Refused r) (Refused g) body args parts answer tells other is = let e : refused r ≡ refused g = sym is ∙ tells in let f : r ≡ g = cc in other (ap Refused f)
other_is_not (Done r) (Failed g) body args parts answer tells other is = tells
other_is_not (Refused r) (Failed g) body args parts answer tells other is = tells
other_is_not (Failed r) given body args parts answer tells other is = answer

-- what an operation knows of the parts holds of those of its object
known_at : {Z : Type 0} (kinds : List Kind) (xs : List (Arc Operation Z)) (place : ℕ) (a : Arc Operation Z) → EachKindsOf kinds (map (λ (o : Operation). o.kinds.items) (map (λ x. arc_value x) xs))
    → place < length xs → a ≡ get_or xs place a → AreKindsOf kinds (arc_value a).kinds.items
known_at kinds [] place a all within is = absurd (omega arith)
known_at {Z} kinds (x ∷ xs) zero a all within is = subst (λ (y : Arc Operation Z). AreKindsOf kinds (arc_value y).kinds.items) (sym is) all.0
known_at kinds (x ∷ xs) (suc place) a all within is = known_at kinds xs place a all.1 (omega arith) is

kinds_same : (parts : List Part) → map (λ p. p.1) (parts_of parts) ≡ map (λ p. p.kind) parts
kinds_same [] = refl
kinds_same (p ∷ parts) = ap (λ kinds. p.kind ∷ kinds) (kinds_same parts)

-- a value of a kind stands where its kind does
value_there : (parts : List Contents) (p : ℕ) (kind : Kind) → slice_get (map kind_of parts) p ≡ Some kind → (value : Contents) × (slice_get parts p ≡ Some value) × (kind_of value ≡ kind)
value_there [] p kind is = absurd cc
value_there (v ∷ parts) zero kind is = (v, refl, ap (λ o. unwrap_or o (kind_of v)) is)
value_there (v ∷ parts) (suc p) kind is = value_there parts p kind is

module _ (object : Object) (place : ℕ) (a : Arc Operation Global) (within : place < length object.operations.items) (is : a ≡ get_or object.operations.items place a) where
  reads_fit : (r : ActiveCall) (parts : List Contents) → CanDo (object_of object) r parts → HoldsReads (arc_value a) parts
  reads_fit r parts can p kind named =
      let known = known_at (map (λ p. p.kind) object.parts.items) object.operations.items place a object.of_parts within is in
      let there : slice_get (map kind_of parts) p ≡ Some kind = ap (λ ks. slice_get ks p) (can.kinds ∙ kinds_same object.parts.items) ∙ known p kind named.held in
      value_there parts p kind there

  tried_true : (r : ActiveCall) (reply : Reply) (before after : List Contents) → place ≡ r.operation → IsAnswer reply → Did (arc_value a) r.arguments.items before after reply → Tries (object_of object) r reply before after true
  tried_true r reply before after here answer did can =
      let op = arc_value a in
      let body : body_at (object_of object) r.operation ≡ body_of op = ap (body_at (object_of object)) (sym here) ∙ body_is object.operations.items place a within is in
      let told = given_is reply (body_of op) r.arguments.items before answer did.tells in (
        subst (λ b. IsReplyOn reply b r.arguments.items before) (sym body) told.0,
        did.leaves ∙ sym told.1 ∙ ap (λ b. left_by reply b r.arguments.items before) (sym body),
        did.kinds,
      )

  tried_false : (r : ActiveCall) (reply given : Reply) (before after : List Contents) → place ≡ r.operation → IsAnswer reply → (reply ≡ given → ⊥) → Did (arc_value a) r.arguments.items before after given
      → Tries (object_of object) r reply before after false
  tried_false r reply given before after here answer other did can right =
      let op = arc_value a in
      let body : body_at (object_of object) r.operation ≡ body_of op = ap (body_at (object_of object)) (sym here) ∙ body_is object.operations.items place a within is in
      other_is_not reply given (body_of op) r.arguments.items before answer did.tells other (subst (λ b. IsReplyOn reply b r.arguments.items before) body right)

  tried : (op : Operation) (args : List Datum) (r : ActiveCall) (reply : Reply) (before after : List Contents) (b : Bool) → op ≡ arc_value a → args ≡ r.arguments.items → place ≡ r.operation → IsAnswer reply → IsDoneSo op args reply before after b
      → Tries (object_of object) r reply before after b
  tried op args r reply before after true one two here answer did =
      tried_true r reply before after here answer (subst (λ xs. Did (arc_value a) xs before after reply) two (subst (λ o. Did o args before after reply) one did))
  tried op args r reply before after false one two here answer done_so = λ can right.
      let fit = fit_elsewhere object.operations.items place r.operation a r.arguments.items within is here can.fit in
      let other = done_so (subst (λ o. ArgumentsFit o args) (sym one) (subst (λ xs. ArgumentsFit (arc_value a) xs) (sym two) fit)) (subst (λ o. HoldsReads o before) (sym one) (reads_fit r before can)) in
      tried_false r reply other.0 before after here answer other.2 (subst (λ xs. Did (arc_value a) xs before after other.0) two (subst (λ o. Did o args before after other.0) one other.1)) can right

  -- what was found of a reply by doing the operation again is what is found of it
  pub tried_ok : {E : Type 0} (op : Operation) (args : List Datum) (r : ActiveCall) (reply : Reply) (before after : List Contents) (found : Result Bool E) → op ≡ arc_value a → args ≡ r.arguments.items → place ≡ r.operation → IsAnswer reply
      → IfOk found (IsDoneSo op args reply before after) → IfOk found (Tries (object_of object) r reply before after)
  tried_ok op args r reply before after (Ok b) one two here answer done_so = tried op args r reply before after b one two here answer done_so
  tried_ok op args r reply before after (Err e) one two here answer done_so = tt

-- whether the reply that was given is the one that is told
pub judged : (op : Operation) (args : List Datum) (reply given : Reply) (before after : List Contents) (b : Bool) → Did op args before after given → (IsTrue b ↔ (reply ≡ given)) → IsDoneSo op args reply before after b
judged op args reply given before after true did tells = subst (Did op args before after) (sym (tells.0 refl)) did
judged op args reply given before after false did tells = λ fit held. (given, did, λ same. false≢true (tells.1 same))

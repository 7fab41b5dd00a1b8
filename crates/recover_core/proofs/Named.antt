-- Operations by their names, and as they lie in an object.
use Rattle.std.proofs.Common.{◌≡◌, ℕ, ◌<◌, ◌++◌, List, [], ◌∷◌, length, refl, sym, ap, ◌∙◌, subst, arith, zero, suc, get_or, inl, inr}
use Rattle.std.specs.Prelude.{map, Option, Some, None, true, false, Bool, cond, bytes_eq, slice_index_or, slice_get, ◌==◌}
use Rattle.std.proofs.lemmas.List.{length-map}
use Rattle.std.proofs.lemmas.Bool.{false≢true}
use Rattle.std.proofs.lemmas.Bool.Decides.{eqb_tells}
use Rattle.std.proofs.lemmas.Slice.Eq.{bytes_eq-Decides}
use Rattle.path_tree.specs.Known.{place_of, next}
use Rattle.std.specs.declared.sync.Arc.{Arc}
use Rattle.std.specs.Arc.{arc_value}
use Rattle.decl_core.specs.declared.object.Operation.{Operation}
use Rattle.decl_core.specs.declared.object.Param.{Param}
use Rattle.decl_core.specs.Form.{Body}
use Rattle.decl_core.specs.Bodies.{body_of}
use Rattle.decl_core.specs.ObjectMap.{params_of, operations_of}
use Rattle.decl_core.specs.ObjectForm.{OperationForm, ObjectForm}
use Rattle.word_core.specs.Events.{form_body, no_body}
use Rattle.word_core.specs.Text.{operation_name}
use Rattle.live_core.specs.Front.{IsOperation}
use Rattle.front_read.specs.Calls.{operation_in}
use Rattle.decl_core.specs.HoldForm.{HoldForm, reply_sorts}
use Rattle.guest_core.specs.Held.{hold_of_op}

abbrev pub body_among : List OperationForm → ℕ → Body
body_among operations place = slice_index_or (map form_body operations) place no_body

sorts_kept : (ps : List Param) → map (λ p. p.1) (params_of ps) ≡ map (λ p. p.kind) ps
sorts_kept [] = refl
sorts_kept (p ∷ ps) = ap (λ ks. p.kind ∷ ks) (sorts_kept ps)

pub body_is : {Z : Type 0} (ops : List (Arc Operation Z)) (place : ℕ) (a : Arc Operation Z) → place < length ops → a ≡ get_or ops place a → body_among (operations_of ops) place ≡ body_of (arc_value a)
body_is [] place a within is = absurd (omega arith)
body_is (x ∷ ops) zero a within is =
    let e : body_among (operations_of (x ∷ ops)) zero ≡ body_of (arc_value x) = λ i. record { params = sorts_kept (arc_value x).params.items i; result = (arc_value x).result; statements = (body_of (arc_value x)).statements } in
    e ∙ ap (λ y. body_of (arc_value y)) (sym is)
body_is (x ∷ ops) (suc place) a within is = body_is ops place a (omega arith) is

pub place_once : (found : Option ℕ) (a b : ℕ) → found ≡ Some a → found ≡ Some b → a ≡ b
place_once found a b p q = let e : Some a ≡ Some b = sym p ∙ q in cc

some_place : (found : Option ℕ) (k : ℕ) → next found ≡ Some k → (j : ℕ) × (found ≡ Some j) × (k ≡ suc j)
some_place (Some j) k is = (j, refl, cc)
some_place None k is = absurd cc

abbrev NamedAt : List (List ℕ) → List ℕ → ℕ → Type 0
NamedAt names bytes k = (k < length names) × (slice_index_or names k [] ≡ bytes)

named_step : (b : Bool) (x bytes : List ℕ) (xs : List (List ℕ)) (k : ℕ) → (b ≡ true → x ≡ bytes) → ((j : ℕ) → place_of xs bytes ≡ Some j → NamedAt xs bytes j) → cond b (Some 0) (next (place_of xs bytes)) ≡ Some k → NamedAt (x ∷ xs) bytes k
named_step true x bytes xs k same later h = let zero_is : k ≡ 0 = cc in subst (NamedAt (x ∷ xs) bytes) (sym zero_is) (omega arith, same refl)
named_step false x bytes xs k same later h =
    let found = some_place (place_of xs bytes) k h in
    let at = later found.0 found.1 in
    subst (NamedAt (x ∷ xs) bytes) (sym found.2) (omega (arith, at.0), at.1)

pub named_at : (names : List (List ℕ)) (bytes : List ℕ) (k : ℕ) → place_of names bytes ≡ Some k → NamedAt names bytes k
named_at [] bytes k is = absurd cc
named_at (x ∷ xs) bytes k is = named_step (bytes_eq x bytes) x bytes xs k (bytes_eq-Decides x bytes).0 (λ j h. named_at xs bytes j h) is

pub first_of : (o : ObjectForm) (name : List ℕ) (k : ℕ) → operation_in o name ≡ Some k → IsOperation o k × (operation_name o k ≡ name)
first_of o name k is =
    let at = named_at (map (λ f. f.name) o.operations) name k is in
    let many = length-map o.operations (λ f. f.name) in
    (record { there = omega (arith, at.0, many); first = ap (λ n. operation_in o n) at.1 ∙ is }, at.1)

-- what the operation at a place is held with
pub held_with_is : {Z : Type 0} (ops : List (Arc Operation Z)) (place : ℕ) (a : Arc Operation Z) → place < length ops → a ≡ get_or ops place a
    → map (λ (p : Param). p.kind) (arc_value a).params.items ++ reply_sorts (arc_value a).result ≡ (body_among (operations_of ops) place).params ++ reply_sorts (body_among (operations_of ops) place).result
held_with_is ops place a within is = ap (λ (b : Body). b.params ++ reply_sorts b.result) (sym (body_is ops place a within is))

-- at the place of the hold of an operation stands a hold of it
rule_step : (b : Bool) (h : HoldForm) (holds : List HoldForm) (op r : ℕ) → (b ≡ true → h.op ≡ op) → ((j : ℕ) → hold_of_op holds op ≡ Some j → (rule : HoldForm) × (slice_get holds j ≡ Some rule) × (rule.op ≡ op)) → cond b (Some 0) (next (hold_of_op holds op)) ≡ Some r
    → (rule : HoldForm) × (slice_get (h ∷ holds) r ≡ Some rule) × (rule.op ≡ op)
rule_step true h holds op r same later is = let zero_is : r ≡ 0 = cc in (h, ap (slice_get (h ∷ holds)) zero_is, same refl)
rule_step false h holds op r same later is =
    let found = some_place (hold_of_op holds op) r is in
    let rest = later found.0 found.1 in
    (rest.0, ap (slice_get (h ∷ holds)) found.2 ∙ rest.1, rest.2)

pub rule_at : (holds : List HoldForm) (op r : ℕ) → hold_of_op holds op ≡ Some r → (rule : HoldForm) × (slice_get holds r ≡ Some rule) × (rule.op ≡ op)
rule_at [] op r is = absurd cc
rule_at (h ∷ holds) op r is = rule_step (h.op == op) h holds op r (λ e. elim (eqb_tells h.op op) [ inl same ↦ same.1 | inr other ↦ absurd (false≢true (sym other.0 ∙ e)) ]) (λ j e. rule_at holds op j e) is

-- Calls that their session may not make.
use Rattle.std.proofs.Common.{◌≡◌, ◌⊎◌, inl, inr, ℕ, zero, suc, ◌<◌, Bool, true, false, List, [], ◌∷◌, length, Option, Some, refl, sym, ap, subst, ◌∙◌, arith, take, get_or, Global}
use Rattle.std.specs.Prelude.{slice_get, option_map, IsTrue, not}
use Rattle.std.specs.declared.sync.Arc.{Arc}
use Rattle.std.specs.Arc.{arc_value}
use Rattle.std.proofs.lemmas.List.{length-map}
use Rattle.std.proofs.lemmas.Option.{slice_get-get_or, slice_get-map, slice_get_within}
use Rattle.std.proofs.lemmas.Bool.{cases_lt, cases_eq}
use Rattle.value_core.specs.declared.datum.Datum.{Datum}
use Rattle.decl_core.specs.declared.object.Object.{Object}
use Rattle.decl_core.specs.declared.object.Operation.{Operation}
use Rattle.apply_core.specs.Fits.{ArgumentsFit}
use Rattle.decl_core.specs.HoldForm.{HoldForm, is_one_of}
use Rattle.page_core.specs.Lists.{Every}
use Rattle.board_core.specs.Board.{Board, bodies}
use Rattle.page_core.proofs.Lists.{Every-at}
use Rattle.board_core.specs.Answers.{Asked, HasName, IsNamedAt, IsGone, IsUnknown}
use Rattle.guest_core.specs.Held.{HeldCall, MayUndo}
use Rattle.word_core.specs.Said.{Said}
use Rattle.world_core.specs.HoldDoes.{IsNotHeld, IsNew, Asks, Refuses, by_call, by_do, by_key, is_gone, not_held}

take_at : {X : Type 0} (xs : List X) (k j : ℕ) (x : X) → j < k → slice_get xs j ≡ Some x → slice_get (take k xs) j ≡ Some x
take_at xs zero j x less is = absurd (omega (arith, less))
take_at [] (suc k) j x less is = absurd cc
take_at (y ∷ xs) (suc k) zero x less is = is
take_at (y ∷ xs) (suc k) (suc j) x less is = take_at xs k j x (omega (arith, less)) is

not_before : (o : Object) (j k : ℕ) (x y : Operation) (name : List ℕ) → IsNamedAt o j x name → IsNamedAt o k y name → j < k → ⊥
not_before o j k x y name one other less = Every-at (λ z. HasName name z → ⊥) (take k (bodies o)) j x other.first (take_at (bodies o) k j x less one.there) one.has

-- the first operation of a name stands at one place
one_place : (o : Object) (j k : ℕ) (x y : Operation) (name : List ℕ) → IsNamedAt o j x name → IsNamedAt o k y name → j ≡ k
one_place o j k x y name one other = elim (cases_eq j k) [
  | inl same ↦ same
  | inr differ ↦ (elim (cases_lt j k) [
    | inl less ↦ absurd (not_before o j k x y name one other less)
    | inr more ↦ absurd (not_before o k j y x name other one (omega (arith, differ, more)))
  ])
]

some_same : {X : Type 0} (x y : X) → Some x ≡ Some y → x ≡ y
some_same x y is = cc

one_operation : (o : Object) (j k : ℕ) (x y : Operation) (name : List ℕ) → IsNamedAt o j x name → IsNamedAt o k y name → x ≡ y
one_operation o j k x y name one other =
    some_same x y (sym one.there ∙ ap (slice_get (bodies o)) (one_place o j k x y name one other) ∙ other.there)

pub lacks_is : (holds : List HoldForm) (held : List HeldCall) (b : Board) (a : Asked) (k : ℕ) (operation : Operation) → (IsGone b a.session → ⊥) → IsNamedAt b.object k operation a.name → ArgumentsFit operation a.arguments
    → (MayUndo holds a.session k a.arguments held → ⊥) → IsNotHeld holds held b a
lacks_is holds held b a k operation here named fits none = record {
  here = here;
  call = record { session = a.session; op = k; operation = operation; arguments = a.arguments };
  is = record { session = refl; named = named; arguments = refl; fits = fits };
  not_held = none;
}

pub may_is : (holds : List HoldForm) (held : List HeldCall) (b : Board) (a : Asked) (k : ℕ) (operation : Operation) → IsNamedAt b.object k operation a.name → MayUndo holds a.session k a.arguments held → IsNotHeld holds held b a → ⊥
may_is holds held b a k operation named may not =
    not.not_held (subst (λ n. MayUndo holds a.session n a.arguments held) (one_place b.object k not.call.op operation not.call.operation a.name named not.is.named) may)

pub unfit_is : (holds : List HoldForm) (held : List HeldCall) (b : Board) (a : Asked) (k : ℕ) (operation : Operation) → IsNamedAt b.object k operation a.name → (ArgumentsFit operation a.arguments → ⊥) → IsNotHeld holds held b a → ⊥
unfit_is holds held b a k operation named unfit not =
    unfit (subst (λ x. ArgumentsFit x a.arguments) (one_operation b.object not.call.op k not.call.operation operation a.name not.is.named named) (subst (ArgumentsFit not.call.operation) not.is.arguments not.is.fits))

pub unknown_is : (holds : List HoldForm) (held : List HeldCall) (b : Board) (a : Asked) → IsUnknown b a.name → IsNotHeld holds held b a → ⊥
unknown_is holds held b a unknown not = Every-at (λ x. HasName a.name x → ⊥) (bodies b.object) not.call.op not.call.operation unknown not.is.named.there not.is.named.has

-- a `not` that holds, and one that is shown
pub not_is : (b : Bool) → IsTrue (not b) → b ≡ false
not_is true h = cc
not_is false h = refl

pub is_not : (b : Bool) → (b ≡ true → ⊥) → IsTrue (not b)
is_not true h = absurd (h refl)
is_not false h = refl

-- a line asks for one thing
one_asked : (said : Said) (a other : Asked) (key another : Option ℕ) → Asks said a key → Asks said other another → (a ≡ other) × (key ≡ another)
one_asked said a other key another by_call by_call = (refl, refl)
one_asked said a other key another by_do by_do = (refl, refl)
one_asked said a other key another by_key by_key = (refl, refl)

no_word_by : (holds : List HoldForm) (b : Board) (held : List HeldCall) (gone : List ℕ) (said : Said) (a : Asked) (key : Option ℕ) (word : List ℕ) → Asks said a key → is_one_of gone a.session ≡ false → (IsNew b a.session key → IsNotHeld holds held b a → ⊥)
    → Refuses holds b held gone said word → ⊥
no_word_by holds b held gone said a key word asks there none (is_gone {a = other} {key = another} also among) =
    let same = one_asked said a other key another asks also in
    absurd (let both = sym there ∙ ap (λ (x : Asked). is_one_of gone x.session) same.0 ∙ among in cc)
no_word_by holds b held gone said a key word asks there none (not_held {a = other} {key = another} also away new lacking) =
    let same = one_asked said a other key another asks also in
    none (subst (λ k. IsNew b a.session k) (sym same.1) (subst (λ (x : Asked). IsNew b x.session another) (sym same.0) new)) (subst (IsNotHeld holds held b) (sym same.0) lacking)

-- a call that is not gone's, nor one that its session may not make, is refused by no word
pub never_word : (holds : List HoldForm) (b : Board) (held : List HeldCall) (gone : List ℕ) (said : Said) (a : Asked) (key : Option ℕ) (word : List ℕ) → Asks said a key → is_one_of gone a.session ≡ false → (IsNew b a.session key → IsNotHeld holds held b a → ⊥)
    → Refuses holds b held gone said word → ⊥
never_word = no_word_by

-- the operation that a look finds there
pub found_at : (o : Object) (k : ℕ) (operation : Operation) (a : Arc Operation Global) (b : Operation) → slice_get (bodies o) k ≡ Some operation → a ≡ get_or o.operations.items k a → b ≡ arc_value a → b ≡ operation
found_at o k operation a b there is value =
    let within : k < length o.operations.items = omega (arith, slice_get_within (bodies o) k operation there, length-map o.operations.items (λ x. arc_value x)) in
    some_same b operation
    (ap Some value ∙ ap (option_map (λ x. arc_value x)) (sym (slice_get-get_or o.operations.items k a within ∙ ap Some (sym is))) ∙ sym (slice_get-map (λ x. arc_value x) o.operations.items k) ∙ there)

-- Whether an operation may end a hold of another one, and whether it is a procedure that takes nothing, as tests.
use Rattle.std.proofs.Common.{◌≡◌, ℕ, ◌<◌, Bool, true, false, ◌||◌, ◌&&◌, List, [], ◌∷◌, ◌++◌, length, Option, Some, None, refl, sym, ap, subst, ◌∙◌}
use Rattle.std.specs.Prelude.{◌≢◌, slice_get, option_map}
use Rattle.std.proofs.lemmas.Option.{slice_get-get_or, slice_get_within, slice_get-map, none-some, same_Some}
use Rattle.value_core.specs.declared.kind.Elem.{Elem}
use Rattle.value_core.specs.declared.kind.Elem.TheVariants as elem
use Rattle.decl_core.specs.ObjectForm.{OperationForm}
use Rattle.decl_core.specs.HoldForm.{signatures_of, signature_of}
use Rattle.decl_core.specs.HoldForm.{Signature, signature, reply_sorts, Fits, MayEnd}
use Rattle.decl_read.specs.HoldReading.{same_elem, is_one_sort, takes_held, takes_none, replies_none, may_end_by, is_bare_by}
use Rattle.decl_parts.proofs.Fronts.{both_are}

elem_same : (a b : Elem) → same_elem a b ≡ true → a ≡ b
elem_same elem.Integer elem.Integer h = refl
elem_same elem.Integer elem.Text h = absurd cc
elem_same elem.Text elem.Integer h = absurd cc
elem_same elem.Text elem.Text h = refl

elem_self : (a : Elem) → same_elem a a ≡ true
elem_self elem.Integer = refl
elem_self elem.Text = refl

one_sort : (xs : List Elem) (e : Elem) → is_one_sort xs e ≡ true → xs ≡ e ∷ []
one_sort [] e h = absurd cc
one_sort (x ∷ []) e h = ap (λ y. y ∷ []) (elem_same x e h)
one_sort (x ∷ y ∷ xs) e h = absurd cc

held_same : (xs ys : List Elem) (r : Option Elem) → takes_held xs ys r ≡ true → xs ≡ ys ++ reply_sorts r
held_same [] [] None h = refl
held_same (x ∷ xs) [] None h = absurd cc
held_same [] [] (Some e) h = one_sort [] e h
held_same (x ∷ xs) [] (Some e) h = one_sort (x ∷ xs) e h
held_same [] (y ∷ ys) r h = absurd cc
held_same (x ∷ xs) (y ∷ ys) r h =
    let b = both_are (same_elem x y) (takes_held xs ys r) h in
    λ i. elem_same x y b.0 i ∷ held_same xs ys r b.1 i

held_self : (ys : List Elem) (r : Option Elem) → takes_held (ys ++ reply_sorts r) ys r ≡ true
held_self [] None = refl
held_self [] (Some e) = elem_self e
held_self (y ∷ ys) r = rw (elem_self y) (held_self ys r)

fits_when : (ts hs : List Elem) (r : Option Elem) → (takes_none ts || takes_held ts hs r) ≡ true → ts ≢ [] → ts ≡ hs ++ reply_sorts r
fits_when [] hs r h = λ some. absurd (some refl)
fits_when (t ∷ ts) hs r h = λ some. held_same (t ∷ ts) hs r h

not_none : (t : Elem) (ts : List Elem) → (t ∷ ts) ≢ []
not_none t ts e = absurd cc

when_fits : (ts hs : List Elem) (r : Option Elem) → (ts ≢ [] → ts ≡ hs ++ reply_sorts r) → (takes_none ts || takes_held ts hs r) ≡ true
when_fits [] hs r f = refl
when_fits (t ∷ ts) hs r f = subst (λ xs. takes_held xs hs r ≡ true) (sym (f (not_none t ts))) (held_self hs r)

-- the signature of an operation at a place
sort_at : (operations : List OperationForm) (k : ℕ) (o : Option OperationForm) → slice_get operations k ≡ o → slice_get (signatures_of operations) k ≡ option_map signature_of o
sort_at operations k o e = slice_get-map signature_of operations k ∙ ap (option_map signature_of) e

pub end_found : (operations : List OperationForm) (op undo : ℕ) (a b : Option OperationForm) → slice_get operations op ≡ a → slice_get operations undo ≡ b → may_end_by a b ≡ true → MayEnd (signatures_of operations) op undo
end_found operations op undo None b e f h = absurd cc
end_found operations op undo (Some x) None e f h = absurd cc
end_found operations op undo (Some x) (Some y) e f h =
    let s : Signature = signature_of x in
    let t : Signature = signature_of y in
    let fits : Fits s t = fits_when t.takes s.takes s.replies h in
    let at = sort_at operations op (Some x) e in
    let behind = sort_at operations undo (Some y) f in
    record {
      known = slice_get_within (signatures_of operations) undo t behind;
      fits = λ p q ep eq. subst (λ z. Fits z q) (same_Some s p (sym at ∙ ep)) (subst (λ z. Fits s z) (same_Some t q (sym behind ∙ eq)) fits);
    }

there : (sorts : List Signature) (k : ℕ) → k < length sorts → slice_get sorts k ≡ None → ⊥
there sorts k within none = none-some _ (sym none ∙ slice_get-get_or sorts k (signature [] None) within)

pub end_read : (operations : List OperationForm) (op undo : ℕ) (a b : Option OperationForm) → op < length (signatures_of operations) → slice_get operations op ≡ a → slice_get operations undo ≡ b → MayEnd (signatures_of operations) op undo → may_end_by a b ≡ true
end_read operations op undo None b within e f is = absurd (there (signatures_of operations) op within (sort_at operations op None e))
end_read operations op undo (Some x) None within e f is = absurd (there (signatures_of operations) undo is.known (sort_at operations undo None f))
end_read operations op undo (Some x) (Some y) within e f is =
    let s : Signature = signature_of x in
    let t : Signature = signature_of y in
    when_fits t.takes s.takes s.replies (is.fits s t (sort_at operations op (Some x) e) (sort_at operations undo (Some y) f))

none_taken : (ts : List Elem) → takes_none ts ≡ true → ts ≡ []
none_taken [] h = refl
none_taken (t ∷ ts) h = absurd cc

none_replied : (r : Option Elem) → replies_none r ≡ true → r ≡ None
none_replied None h = refl
none_replied (Some e) h = absurd cc

pub bare_found : (operations : List OperationForm) (op : ℕ) (o : Option OperationForm) → slice_get operations op ≡ o → is_bare_by o ≡ true → slice_get (signatures_of operations) op ≡ Some (signature [] None)
bare_found operations op None e h = absurd cc
bare_found operations op (Some x) e h =
    let s : Signature = signature_of x in
    let b = both_are (takes_none s.takes) (replies_none s.replies) h in
    sort_at operations op (Some x) e ∙ ap (λ takes. Some (signature takes s.replies)) (none_taken s.takes b.0) ∙ ap (λ r. Some (signature [] r)) (none_replied s.replies b.1)

bare_sort : (s : Signature) → s ≡ signature [] None → (takes_none s.takes && replies_none s.replies) ≡ true
bare_sort s e = ap (λ (x : Signature). takes_none x.takes && replies_none x.replies) e

pub bare_read : (operations : List OperationForm) (op : ℕ) (o : Option OperationForm) → slice_get operations op ≡ o → slice_get (signatures_of operations) op ≡ Some (signature [] None) → is_bare_by o ≡ true
bare_read operations op None e is = absurd (none-some (signature [] None) (sym (sort_at operations op None e) ∙ is))
bare_read operations op (Some x) e is = bare_sort (signature_of x) (same_Some (signature_of x) (signature [] None) (sym (sort_at operations op (Some x) e) ∙ is))

-- A body leaves each part of the kind that it was of, whatever its typing.
use Rattle.std.proofs.Common.{◌≡◌, ℕ, Bool, true, false, List, [], refl, ◌∙◌, ap, map}
use Rattle.std.specs.Prelude.{Result, Ok, Err, if◌then◌else◌}
use Rattle.std.proofs.Math.ListN.{length-set}
use Rattle.std.proofs.Math.Seq.{map-set_same}
use Rattle.value_core.specs.declared.datum.Datum.{Datum}
use Rattle.value_core.specs.declared.refusal.Refusal.{Refusal}
use Rattle.value_core.specs.declared.kind.Elem.TheVariants as elem
use Rattle.value_core.specs.declared.kind.Kind.TheVariants as kind
use Rattle.value_core.specs.Contents.{Contents, array, queue, table, kind_of}
use Rattle.value_core.specs.Meaning.{with_element, without_oldest, with_newest, with_row, without_key}
use Rattle.decl_core.specs.Form.{Statement, block, set_element, set_result, append, take, store, erase, choose, refuse, Statements, nothing, first_and}
use Rattle.decl_core.specs.Meaning.{Answer, ◌>>=◌, Changed, seen_with, with_part, chosen, after, after_all, ending, reply_before, part_at, integer_value, datum_value, text_value, holds}
use Rattle.decl_core.specs.KindLaws.{KindsStay}

-- an answer of a kind that was there
abbrev OfKind : Contents → Result Contents Refusal → Type 0
OfKind c (Ok x) = kind_of x ≡ kind_of c
OfKind c (Err w) = Unit {0}

by_test : (b : Bool) (c x : Contents) (w : Refusal) → kind_of x ≡ kind_of c → OfKind c (if b then Ok x else Err w)
by_test true c x w h = h
by_test false c x w h = tt

element_kind : (c : Contents) (i : ℕ) (d : Datum) → OfKind c (with_element c i d)
element_kind (array e xs) i d = by_test _ (array e xs) _ _ (ap (λ n. kind.Array n e) (length-set xs i d))
element_kind (queue e xs) i d = tt
element_kind (table e m) i d = tt

oldest_kind : (c : Contents) → OfKind c (without_oldest c)
oldest_kind (array e xs) = tt
oldest_kind (queue e xs) = by_test _ (queue e xs) (queue e _) _ refl
oldest_kind (table e m) = tt

newest_kind : (c : Contents) (d : Datum) → OfKind c (with_newest c d)
newest_kind (array e xs) d = tt
newest_kind (queue e xs) d = by_test _ (queue e xs) (queue e _) _ refl
newest_kind (table e m) d = tt

row_kind : (c : Contents) (k : List ℕ) (d : Datum) → OfKind c (with_row c k d)
row_kind (array e xs) k d = tt
row_kind (queue e xs) k d = tt
row_kind (table e m) k d = by_test _ (table e m) (table e _) _ refl

key_kind : (c : Contents) (k : List ℕ) → OfKind c (without_key c k)
key_kind (array e xs) k = tt
key_kind (queue e xs) k = tt
key_kind (table e m) k = by_test _ (table e m) (table e _) _ refl

abbrev Same : List Contents → List Contents → Type 0
Same xs ys = map kind_of ys ≡ map kind_of xs

abbrev SameBy : Changed → Answer Changed → Type 0
SameBy c (Ok d) = Same c.parts d.parts
SameBy c (Err w) = Unit {0}

put_same : (c : Changed) (p : ℕ) (new : Result Contents Refusal) → OfKind (part_at c.parts p) new → SameBy c (with_part c p new)
put_same c p (Ok x) h = map-set_same kind_of c.parts p x (array elem.Integer []) h
put_same c p (Err w) h = tt

value_same : {A : Type 0} (c : Changed) (a : Answer A) (f : A → Answer Changed) → ((x : A) → SameBy c (f x)) → SameBy c (a >>= f)
value_same c (Ok x) f h = h x
value_same c (Err w) f h = tt

later : (c d : Changed) (b : Answer Changed) → Same c.parts d.parts → SameBy d b → SameBy c b
later c d (Ok e) h k = k ∙ h
later c d (Err w) h k = tt

then_same : (c : Changed) (a : Answer Changed) (f : Changed → Answer Changed) → SameBy c a → ((d : Changed) → SameBy d (f d)) → SameBy c (a >>= f)
then_same c (Ok d) f h k = later c d (f d) h (k d)
then_same c (Err w) f h k = tt

chosen_same : (b : Bool) (c : Changed) (s t : Answer Changed) → SameBy c s → SameBy c t → SameBy c (chosen b s t)
chosen_same true c s t h k = h
chosen_same false c s t h k = k

module _ (args : List Datum) where
  mutual
    statement_same : (s : Statement) (c : Changed) → SameBy c (after args s c)
    statement_same (block all) c = all_same all c
    statement_same (set_element p i x) c = value_same c (integer_value (seen_with args c) i) _ (λ n. value_same c (datum_value (seen_with args c) x) _ (λ d. put_same c p _ (element_kind (part_at c.parts p) n d)))
    statement_same (set_result x) c = value_same c (datum_value (seen_with args c) x) _ (λ d. refl)
    statement_same (append p x) c = value_same c (datum_value (seen_with args c) x) _ (λ d. put_same c p _ (newest_kind (part_at c.parts p) d))
    statement_same (take p) c = put_same c p _ (oldest_kind (part_at c.parts p))
    statement_same (store p k x) c = value_same c (text_value (seen_with args c) k) _ (λ n. value_same c (datum_value (seen_with args c) x) _ (λ d. put_same c p _ (row_kind (part_at c.parts p) n d)))
    statement_same (erase p k) c = value_same c (text_value (seen_with args c) k) _ (λ n. put_same c p _ (key_kind (part_at c.parts p) n))
    statement_same (choose x s t) c =
        value_same c (holds (seen_with args c) x) _
        (λ b. chosen_same b c (after args s c) (after args t c) (statement_same s c) (statement_same t c))
    statement_same (refuse word) c = tt

    all_same : (all : Statements) (c : Changed) → SameBy c (after_all args all c)
    all_same nothing c = refl
    all_same (first_and s rest) c = then_same c (after args s c) _ (statement_same s c) (λ d. all_same rest d)

ending_same : (c : Changed) (a : Answer Changed) → SameBy c a → Same c.parts (ending c.parts a).1
ending_same c (Ok d) h = h
ending_same c (Err w) h = refl

-- a body leaves each part of the kind that it was of
pub kinds_stay : KindsStay
kinds_stay body args parts =
    let before : Changed = record { parts = parts; reply = reply_before body.result } in
    ending_same before (after_all args body.statements before) (all_same args body.statements before)

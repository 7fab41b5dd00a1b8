-- What an evaluation over what is known says of the meaning of the body.
use Rattle.std.proofs.Common.{◌≡◌, ℕ, ◌<◌, Bool, true, false, List, length, refl, sym, ap, subst}
use Rattle.std.specs.Prelude.{Option, Some, None, Result, Ok, Err, ok_or, slice_get, slice_set, nat_lt, if◌then◌else◌}
use Rattle.std.proofs.lemmas.Option.{slice_get_within}
use Rattle.std.proofs.lemmas.Bool.{ltb-true}
use Rattle.value_core.specs.declared.datum.Datum.{Datum}
use Rattle.value_core.specs.declared.refusal.Refusal.{Refusal}
use Rattle.value_core.specs.declared.refusal.Refusal.TheVariants.{Index}
use Rattle.value_core.specs.Contents.{Contents, array, queue, table, kind_of}
use Rattle.value_core.specs.Meaning.{element_at, with_element, oldest_of, without_oldest, with_newest, under_key, with_row, without_key, sum_of, difference_of}
use Rattle.decl_core.specs.Form.{From, argument, element, oldest, under, Integers, number, integer_from, count, add, subtract, Texts, literal, text_from, Form, an_integer, a_text, Condition, compare, same_texts, other_texts, has, is_not, Statement, block, set_element, set_result, append, take, store, erase, choose, refuse, Statements, nothing, first_and}
use Rattle.decl_core.specs.Meaning.{Answer, ◌>>=◌, by_word, Seen, Changed, part_at, seen_with, datum_from, integer_value, text_value, datum_value, holds, with_part, chosen, after, after_all}
use Rattle.known_core.specs.Known.{Known, HasPlace, IsUnknown, Keeps}
use Rattle.known_core.specs.Partly.{word, needs, Partly, ◌>>>◌, worded, if_known, datum_known, integer_known, text_known, value_known, holds_known, with_contents, chosen_known, after_known, all_known}
use Rattle.known_core.proofs.Keeping.{KeepsBy, statement_keeps}

-- an end over what is known is the end of the body; what is needed is there and not known
abbrev pub Tells : {A : Type 0} → Known → List Contents → Partly A → Answer A → Type 0
Tells known parts (Ok x) meaning = meaning ≡ Ok x
Tells known parts (Err (word w)) meaning = meaning ≡ Err w
Tells known parts (Err (needs p i)) meaning = IsUnknown known parts p i

tells_then : {A B : Type 0} (known : Known) (parts : List Contents) (r : Partly A) (m : Answer A) (f : A → Partly B) (g : A → Answer B) → Tells known parts r m → ((x : A) → Tells known parts (f x) (g x)) → Tells known parts (r >>> f) (m >>= g)
tells_then known parts (Ok x) m f g h k = subst (λ n. Tells known parts (f x) (n >>= g)) (sym h) (k x)
tells_then known parts (Err (word w)) m f g h k = ap (λ n. n >>= g) h
tells_then known parts (Err (needs p i)) m f g h k = h

tells_word : {A : Type 0} (known : Known) (parts : List Contents) (r : Result A Refusal) → Tells known parts (worded r) (by_word r)
tells_word known parts (Ok x) = refl
tells_word known parts (Err r) = refl

-- an element that is there
place_of : (v : Contents) (n : ℕ) (d : Datum) → element_at v n ≡ Ok d → HasPlace (kind_of v) n
place_of (array e xs) n d is = slice_get_within xs n d (got (slice_get xs n) is) where
  got : (o : Option Datum) → ok_or o Index ≡ Ok d → o ≡ Some d
  got (Some x) at = let same : x ≡ d = cc in ap (λ y. Some y) same
  got None at = absurd cc
place_of (queue e xs) n d is = absurd cc
place_of (table e m) n d is = absurd cc

element_tells : (known : Known) (parts : List Contents) (p n : ℕ) (r : Result Datum Refusal) → element_at (part_at parts p) n ≡ r → Tells known parts (worded r >>> λ d. if_known known p n d) (by_word r)
element_tells known parts p n (Err w) is = refl
element_tells known parts p n (Ok d) is = by_known (known p n) refl where
  by_known : (b : Bool) → known p n ≡ b → Tells {A = Datum} known parts (if b then Ok d else Err (needs p n)) (Ok d)
  by_known true knows = refl
  by_known false not_known = record { unknown = not_known; place = place_of (part_at parts p) n d is }

module _ (known : Known) (seen : Seen) where
  mutual
    datum_tells : (s : From) → Tells known seen.parts (datum_known known seen s) (datum_from seen s)
    datum_tells (argument k) = refl
    datum_tells (element p i) = tells_then known seen.parts _ _ _ _ (integer_tells i) (λ n. element_tells known seen.parts p n (element_at (part_at seen.parts p) n) refl)
    datum_tells (oldest p) = tells_word known seen.parts (oldest_of (part_at seen.parts p))
    datum_tells (under p k) = tells_then known seen.parts _ _ _ _ (text_tells k) (λ key. tells_word known seen.parts (under_key (part_at seen.parts p) key))

    integer_tells : (e : Integers) → Tells known seen.parts (integer_known known seen e) (integer_value seen e)
    integer_tells (number n) = refl
    integer_tells (integer_from s) = tells_then known seen.parts _ _ _ _ (datum_tells s) (λ d. refl)
    integer_tells (count p) = refl
    integer_tells (add a b) = tells_then known seen.parts _ _ _ _ (integer_tells a) (λ x. tells_then known seen.parts _ _ _ _ (integer_tells b) (λ y. tells_word known seen.parts (sum_of x y)))
    integer_tells (subtract a b) = tells_then known seen.parts _ _ _ _ (integer_tells a) (λ x. tells_then known seen.parts _ _ _ _ (integer_tells b) (λ y. tells_word known seen.parts (difference_of x y)))

    text_tells : (t : Texts) → Tells known seen.parts (text_known known seen t) (text_value seen t)
    text_tells (literal t) = refl
    text_tells (text_from s) = tells_then known seen.parts _ _ _ _ (datum_tells s) (λ d. refl)

  value_tells : (x : Form) → Tells known seen.parts (value_known known seen x) (datum_value seen x)
  value_tells (an_integer e) = tells_then known seen.parts _ _ _ _ (integer_tells e) (λ n. refl)
  value_tells (a_text e) = tells_then known seen.parts _ _ _ _ (text_tells e) (λ t. refl)

  test_tells : (c : Condition) → Tells known seen.parts (holds_known known seen c) (holds seen c)
  test_tells (compare r a b) = tells_then known seen.parts _ _ _ _ (integer_tells a) (λ x. tells_then known seen.parts _ _ _ _ (integer_tells b) (λ y. refl))
  test_tells (same_texts a b) = tells_then known seen.parts _ _ _ _ (text_tells a) (λ x. tells_then known seen.parts _ _ _ _ (text_tells b) (λ y. refl))
  test_tells (other_texts a b) = tells_then known seen.parts _ _ _ _ (text_tells a) (λ x. tells_then known seen.parts _ _ _ _ (text_tells b) (λ y. refl))
  test_tells (has p k) = tells_then known seen.parts _ _ _ _ (text_tells k) (λ key. refl)
  test_tells (is_not c) = tells_then known seen.parts _ _ _ _ (test_tells c) (λ b. refl)

with_tells : (known : Known) (c : Changed) (p : ℕ) (new : Result Contents Refusal) → Tells known c.parts (with_contents c p new) (with_part c p new)
with_tells known c p (Ok x) = refl
with_tells known c p (Err r) = refl

-- an element that can be set is there
set_place : (v : Contents) (n : ℕ) (d : Datum) (x : Contents) → with_element v n d ≡ Ok x → HasPlace (kind_of v) n
set_place (array e xs) n d x is = by_test (nat_lt n (length xs)) refl is where
  by_test : (b : Bool) → nat_lt n (length xs) ≡ b → (if b then Ok (array e (slice_set xs n d)) else Err Index) ≡ Ok x → n < length xs
  by_test true less at = ltb-true n (length xs) less
  by_test false less at = absurd cc
set_place (queue e xs) n d x is = absurd cc
set_place (table e m) n d x is = absurd cc

set_tells : (known : Known) (c : Changed) (p n : ℕ) (d : Datum) (r : Result Contents Refusal) → with_element (part_at c.parts p) n d ≡ r → Tells known c.parts (with_contents c p r >>> λ x. if_known known p n x) (with_part c p r)
set_tells known c p n d (Err w) is = refl
set_tells known c p n d (Ok v) is = by_known (known p n) refl where
  by_known : (b : Bool) → known p n ≡ b → Tells {A = Changed} known c.parts (if b then Ok (record { parts = slice_set c.parts p v; reply = c.reply }) else Err (needs p n)) (Ok (record { parts = slice_set c.parts p v; reply = c.reply }))
  by_known true knows = refl
  by_known false not_known = record { unknown = not_known; place = set_place (part_at c.parts p) n d v is }

chosen_tells : (known : Known) (parts : List Contents) (b : Bool) (r s : Partly Changed) (m n : Answer Changed) → Tells known parts r m → Tells known parts s n → Tells known parts (chosen_known b r s) (chosen b m n)
chosen_tells known parts true r s m n h k = h
chosen_tells known parts false r s m n h k = k

-- what is needed later was not known before
earlier : {A : Type 0} (known : Known) (before after : List Contents) (r : Partly A) (m : Answer A) → Keeps known before after → Tells known after r m → Tells known before r m
earlier known before after (Ok x) m keeps h = h
earlier known before after (Err (word w)) m keeps h = h
earlier known before after (Err (needs p i)) m keeps h = record { unknown = h.unknown; place = subst (λ k. HasPlace k i) (keeps.each p).kind h.place }

done_tells : (known : Known) (before : List Contents) (r : Partly Changed) (m : Answer Changed) (f : Changed → Partly Changed) (g : Changed → Answer Changed) → KeepsBy known before r → Tells known before r m → ((d : Changed) → Tells known d.parts (f d) (g d)) → Tells known before (r >>> f) (m >>= g)
done_tells known before (Ok d) m f g keeps h k = subst (λ n. Tells known before (f d) (n >>= g)) (sym h) (earlier known before d.parts (f d) (g d) keeps (k d))
done_tells known before (Err (word w)) m f g keeps h k = ap (λ n. n >>= g) h
done_tells known before (Err (needs p i)) m f g keeps h k = h

module _ (known : Known) (args : List Datum) where
  mutual
    statement_tells : (s : Statement) (c : Changed) → Tells known c.parts (after_known known args s c) (after args s c)
    statement_tells (block all) c = all_tells all c
    statement_tells (set_element p i x) c = tells_then known c.parts _ _ _ _ (integer_tells known (seen_with args c) i) (λ n. tells_then known c.parts _ _ _ _ (value_tells known (seen_with args c) x) (λ d. set_tells known c p n d (with_element (part_at c.parts p) n d) refl))
    statement_tells (set_result x) c = tells_then known c.parts _ _ _ _ (value_tells known (seen_with args c) x) (λ d. refl)
    statement_tells (append p x) c = tells_then known c.parts _ _ _ _ (value_tells known (seen_with args c) x) (λ d. with_tells known c p (with_newest (part_at c.parts p) d))
    statement_tells (take p) c = with_tells known c p (without_oldest (part_at c.parts p))
    statement_tells (store p k x) c = tells_then known c.parts _ _ _ _ (text_tells known (seen_with args c) k) (λ key. tells_then known c.parts _ _ _ _ (value_tells known (seen_with args c) x) (λ d. with_tells known c p (with_row (part_at c.parts p) key d)))
    statement_tells (erase p k) c = tells_then known c.parts _ _ _ _ (text_tells known (seen_with args c) k) (λ key. with_tells known c p (without_key (part_at c.parts p) key))
    statement_tells (choose q s t) c = tells_then known c.parts _ _ _ _ (test_tells known (seen_with args c) q) (λ b. chosen_tells known c.parts b (after_known known args s c) (after_known known args t c) (after args s c) (after args t c) (statement_tells s c) (statement_tells t c))
    statement_tells (refuse w) c = refl

    pub all_tells : (all : Statements) (c : Changed) → Tells known c.parts (all_known known args all c) (after_all args all c)
    all_tells nothing c = refl
    all_tells (first_and s rest) c = done_tells known c.parts (after_known known args s c) (after args s c) _ _ (statement_keeps known args s c) (statement_tells s c) (λ d. all_tells rest d)

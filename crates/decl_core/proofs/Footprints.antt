-- What a body does depends on what it reads alone, and changes what it writes alone.
use Rattle.std.proofs.Common.{◌≡◌, ℕ, zero, suc, Bool, true, false, inl, inr, List, [], ◌∷◌, length, refl, sym, ap, subst, ◌∙◌}
use Rattle.std.specs.Prelude.{slice_get, slice_set, slice_index_or, Result, Ok, Err}
use Rattle.std.proofs.Math.ListN.{length-set}
use Rattle.std.proofs.Math.Logic.{⊎_map}
use Rattle.value_core.specs.declared.datum.Datum.{Datum}
use Rattle.value_core.specs.declared.refusal.Refusal.{Refusal}
use Rattle.value_core.specs.declared.kind.Elem.TheVariants as elem
use Rattle.value_core.specs.Contents.{Contents, array}
use Rattle.value_core.specs.Meaning.{element_at, with_element, oldest_of, without_oldest, with_newest, has_key, under_key, with_row, without_key, count_of}
use Rattle.decl_core.specs.Form.{From, argument, element, oldest, under, Integers, number, integer_from, count, add, subtract, Texts, literal, text_from, Form, an_integer, a_text, Condition, compare, same_texts, other_texts, has, is_not, Statement, block, set_element, set_result, append, take, store, erase, choose, refuse, Statements, nothing, first_and}
use Rattle.decl_core.specs.Touched.{FromNames, IntegersName, TextsName, FormNames, ConditionNames, StatementNames, Reads, StatementChanges, Writes}
use Rattle.decl_core.specs.Meaning.{Answer, ◌>>=◌, by_word, Seen, part_at, datum_from, integer_value, text_value, datum_value, holds, Changed, seen_with, with_part, chosen, after, after_all, ending, done, refused, reply_before}
use Rattle.decl_core.specs.FootprintLaws.{Agree, ApplyIsLocal, OthersStay, WritesAreReads}

-- the same answer, and what is done with it is the same
bound_by : {A B : Type 0} (a : Answer A) (f g : A → Answer B) → ((x : A) → f x ≡ g x) → (a >>= f) ≡ (a >>= g)
bound_by (Ok x) f g h = h x
bound_by (Err w) f g h = refl

bound : {A B : Type 0} (a b : Answer A) (f g : A → Answer B) → a ≡ b → ((x : A) → f x ≡ g x) → (a >>= f) ≡ (b >>= g)
bound a b f g e h = subst (λ z. (a >>= f) ≡ (z >>= g)) e (bound_by a f g h)

-- what there is at a place is what is taken from there
place_is : (xs ys : List Contents) (p : ℕ) (d : Contents) → slice_get xs p ≡ slice_get ys p → slice_index_or xs p d ≡ slice_index_or ys p d
place_is [] [] p d h = refl
place_is [] (y ∷ ys) zero d h = absurd cc
place_is [] (y ∷ ys) (suc p) d h = place_is [] ys p d h
place_is (x ∷ xs) [] zero d h = absurd cc
place_is (x ∷ xs) [] (suc p) d h = place_is xs [] p d h
place_is (x ∷ xs) (y ∷ ys) zero d h = cc
place_is (x ∷ xs) (y ∷ ys) (suc p) d h = place_is xs ys p d h

set_same : (xs ys : List Contents) (p q : ℕ) (v : Contents) → slice_get xs q ≡ slice_get ys q → slice_get (slice_set xs p v) q ≡ slice_get (slice_set ys p v) q
set_same [] [] p q v h = refl
set_same [] (y ∷ ys) p zero v h = absurd cc
set_same [] (y ∷ ys) zero (suc q) v h = h
set_same [] (y ∷ ys) (suc p) (suc q) v h = set_same [] ys p q v h
set_same (x ∷ xs) [] p zero v h = absurd cc
set_same (x ∷ xs) [] zero (suc q) v h = h
set_same (x ∷ xs) [] (suc p) (suc q) v h = set_same xs [] p q v h
set_same (x ∷ xs) (y ∷ ys) zero zero v h = refl
set_same (x ∷ xs) (y ∷ ys) zero (suc q) v h = h
set_same (x ∷ xs) (y ∷ ys) (suc p) zero v h = h
set_same (x ∷ xs) (y ∷ ys) (suc p) (suc q) v h = set_same xs ys p q v h

set_other : (xs : List Contents) (p q : ℕ) (v : Contents) → (q ≡ p → ⊥) → slice_get (slice_set xs p v) q ≡ slice_get xs q
set_other [] p q v apart = refl
set_other (x ∷ xs) zero zero v apart = absurd (apart refl)
set_other (x ∷ xs) zero (suc q) v apart = refl
set_other (x ∷ xs) (suc p) zero v apart = refl
set_other (x ∷ xs) (suc p) (suc q) v apart = set_other xs p q v (λ e. apart (ap suc e))

module _ (Read : ℕ → Type 0) (args : List Datum) where
  -- each such part is read
  abbrev Within : (ℕ → Type 0) → Type 0
  Within Parts = (p : ℕ) → Parts p → Read p

  abbrev Same : Changed → Changed → Type 0
  Same c d = Agree Read c.parts d.parts × (c.reply ≡ d.reply)

  -- the same refusal, or the same changes where the reads are
  abbrev Alike : Answer Changed → Answer Changed → Type 0
  Alike (Ok c) (Ok d) = Same c d
  Alike (Ok c) (Err w) = ⊥
  Alike (Err v) (Ok d) = ⊥
  Alike (Err v) (Err w) = v ≡ w

  then_alike : (a b : Answer Changed) (f g : Changed → Answer Changed) → Alike a b → ((c d : Changed) → Same c d → Alike (f c) (g d)) → Alike (a >>= f) (b >>= g)
  then_alike (Ok c) (Ok d) f g h k = k c d h
  then_alike (Ok c) (Err w) f g h k = absurd h
  then_alike (Err v) (Ok d) f g h k = absurd h
  then_alike (Err v) (Err w) f g h k = h

  value_by : {A : Type 0} (a : Answer A) (f g : A → Answer Changed) → ((x : A) → Alike (f x) (g x)) → Alike (a >>= f) (a >>= g)
  value_by (Ok x) f g h = h x
  value_by (Err w) f g h = refl

  value_alike : {A : Type 0} (a b : Answer A) (f g : A → Answer Changed) → a ≡ b → ((x : A) → Alike (f x) (g x)) → Alike (a >>= f) (b >>= g)
  value_alike a b f g e h = subst (λ z. Alike (a >>= f) (z >>= g)) e (value_by a f g h)

  put_by : (c d : Changed) (p : ℕ) (new : Result Contents Refusal) → Same c d → Alike (with_part c p new) (with_part d p new)
  put_by c d p (Ok x) same = (λ q read. set_same c.parts d.parts p q x (same.0 q read), same.1)
  put_by c d p (Err r) same = refl

  put_alike : (c d : Changed) (p : ℕ) (new other : Result Contents Refusal) → Same c d → new ≡ other → Alike (with_part c p new) (with_part d p other)
  put_alike c d p new other same e = subst (λ z. Alike (with_part c p new) (with_part d p z)) e (put_by c d p new same)

  chosen_alike : (b : Bool) (s t u v : Answer Changed) → Alike s u → Alike t v → Alike (chosen b s t) (chosen b u v)
  chosen_alike true s t u v h k = h
  chosen_alike false s t u v h k = k

  module _ (xs ys : List Contents) (agree : Agree Read xs ys) where
    abbrev left : Seen
    left = record { arguments = args; parts = xs }

    abbrev right : Seen
    right = record { arguments = args; parts = ys }

    part : (p : ℕ) → Read p → part_at xs p ≡ part_at ys p
    part p read = place_is xs ys p (array elem.Integer []) (agree p read)

    mutual
      from_alike : (s : From) → Within (FromNames s) → datum_from left s ≡ datum_from right s
      from_alike (argument k) w = refl
      from_alike (element p i) w =
          bound (integer_value left i) (integer_value right i) (λ n. by_word (element_at (part_at xs p) n)) (λ n. by_word (element_at (part_at ys p) n)) (integers_alike i (λ q h. w q (inr h)))
          (λ n. ap (λ c. by_word (element_at c n)) (part p (w p (inl refl))))
      from_alike (oldest p) w = ap (λ c. by_word (oldest_of c)) (part p (w p refl))
      from_alike (under p k) w =
          bound (text_value left k) (text_value right k) (λ n. by_word (under_key (part_at xs p) n)) (λ n. by_word (under_key (part_at ys p) n)) (texts_alike k (λ q h. w q (inr h)))
          (λ n. ap (λ c. by_word (under_key c n)) (part p (w p (inl refl))))

      integers_alike : (e : Integers) → Within (IntegersName e) → integer_value left e ≡ integer_value right e
      integers_alike (number n) w = refl
      integers_alike (integer_from s) w = bound _ _ _ _ (from_alike s w) (λ d. refl)
      integers_alike (count p) w = ap (λ c. Ok (count_of c)) (part p (w p refl))
      integers_alike (add a b) w = bound _ _ _ _ (integers_alike a (λ q h. w q (inl h))) (λ x. bound _ _ _ _ (integers_alike b (λ q h. w q (inr h))) (λ y. refl))
      integers_alike (subtract a b) w = bound _ _ _ _ (integers_alike a (λ q h. w q (inl h))) (λ x. bound _ _ _ _ (integers_alike b (λ q h. w q (inr h))) (λ y. refl))

      texts_alike : (e : Texts) → Within (TextsName e) → text_value left e ≡ text_value right e
      texts_alike (literal t) w = refl
      texts_alike (text_from s) w = bound _ _ _ _ (from_alike s w) (λ d. refl)

    form_alike : (x : Form) → Within (FormNames x) → datum_value left x ≡ datum_value right x
    form_alike (an_integer e) w = bound _ _ _ _ (integers_alike e w) (λ d. refl)
    form_alike (a_text e) w = bound _ _ _ _ (texts_alike e w) (λ d. refl)

    condition_alike : (c : Condition) → Within (ConditionNames c) → holds left c ≡ holds right c
    condition_alike (compare r a b) w = bound _ _ _ _ (integers_alike a (λ q h. w q (inl h))) (λ x. bound _ _ _ _ (integers_alike b (λ q h. w q (inr h))) (λ y. refl))
    condition_alike (same_texts a b) w = bound _ _ _ _ (texts_alike a (λ q h. w q (inl h))) (λ x. bound _ _ _ _ (texts_alike b (λ q h. w q (inr h))) (λ y. refl))
    condition_alike (other_texts a b) w = bound _ _ _ _ (texts_alike a (λ q h. w q (inl h))) (λ x. bound _ _ _ _ (texts_alike b (λ q h. w q (inr h))) (λ y. refl))
    condition_alike (has p k) w = bound _ _ _ _ (texts_alike k (λ q h. w q (inr h))) (λ key. ap (λ c. Ok (has_key c key)) (part p (w p (inl refl))))
    condition_alike (is_not c) w = bound _ _ _ _ (condition_alike c w) (λ b. refl)

  mutual
    statement_alike : (s : Statement) → Within (StatementNames s) → (c d : Changed) → Same c d → Alike (after args s c) (after args s d)
    statement_alike (block all) w c d same = all_alike all w c d same
    statement_alike (set_element p i x) w c d same =
        let here = part c.parts d.parts same.0 p (w p (inl refl)) in
        value_alike (integer_value (seen_with args c) i) (integer_value (seen_with args d) i) _ _ (integers_alike c.parts d.parts same.0 i (λ q h. w q (inr (inl h))))
        (λ n. value_alike (datum_value (seen_with args c) x) (datum_value (seen_with args d) x) _ _ (form_alike c.parts d.parts same.0 x (λ q h. w q (inr (inr h)))) (λ e. put_alike c d p _ _ same (ap (λ v. with_element v n e) here)))
    statement_alike (set_result x) w c d same =
        value_alike (datum_value (seen_with args c) x) (datum_value (seen_with args d) x) _ _ (form_alike c.parts d.parts same.0 x w) (λ e. (same.0, refl))
    statement_alike (append p x) w c d same =
        let here = part c.parts d.parts same.0 p (w p (inl refl)) in
        value_alike (datum_value (seen_with args c) x) (datum_value (seen_with args d) x) _ _ (form_alike c.parts d.parts same.0 x (λ q h. w q (inr h))) (λ e. put_alike c d p _ _ same (ap (λ v. with_newest v e) here))
    statement_alike (take p) w c d same = put_alike c d p _ _ same (ap without_oldest (part c.parts d.parts same.0 p (w p refl)))
    statement_alike (store p k x) w c d same =
        let here = part c.parts d.parts same.0 p (w p (inl refl)) in
        value_alike (text_value (seen_with args c) k) (text_value (seen_with args d) k) _ _ (texts_alike c.parts d.parts same.0 k (λ q h. w q (inr (inl h))))
        (λ n. value_alike (datum_value (seen_with args c) x) (datum_value (seen_with args d) x) _ _ (form_alike c.parts d.parts same.0 x (λ q h. w q (inr (inr h)))) (λ e. put_alike c d p _ _ same (ap (λ v. with_row v n e) here)))
    statement_alike (erase p k) w c d same =
        let here = part c.parts d.parts same.0 p (w p (inl refl)) in
        value_alike (text_value (seen_with args c) k) (text_value (seen_with args d) k) _ _ (texts_alike c.parts d.parts same.0 k (λ q h. w q (inr h))) (λ n. put_alike c d p _ _ same (ap (λ v. without_key v n) here))
    statement_alike (choose x s t) w c d same =
        let one_way = statement_alike s (λ q h. w q (inr (inl h))) c d same in
        let other_way = statement_alike t (λ q h. w q (inr (inr h))) c d same in
        value_alike (holds (seen_with args c) x) (holds (seen_with args d) x) _ _ (condition_alike c.parts d.parts same.0 x (λ q h. w q (inl h)))
        (λ b. chosen_alike b (after args s c) (after args t c) (after args s d) (after args t d) one_way other_way)
    statement_alike (refuse word) w c d same = refl

    all_alike : (all : Statements) → Within (Reads all) → (c d : Changed) → Same c d → Alike (after_all args all c) (after_all args all d)
    all_alike nothing w c d same = same
    all_alike (first_and s rest) w c d same =
        then_alike (after args s c) (after args s d) _ _ (statement_alike s (λ q h. w q (inl h)) c d same) (λ e f now. all_alike rest (λ q h. w q (inr h)) e f now)

  ending_alike : (xs ys : List Contents) (a b : Answer Changed) → Agree Read xs ys → Alike a b → ((ending xs a).0 ≡ (ending ys b).0) × Agree Read (ending xs a).1 (ending ys b).1
  ending_alike xs ys (Ok c) (Ok d) agree h = (ap done h.1, h.0)
  ending_alike xs ys (Ok c) (Err w) agree h = absurd h
  ending_alike xs ys (Err v) (Ok d) agree h = absurd h
  ending_alike xs ys (Err v) (Err w) agree h = (ap refused h, agree)

pub apply_is_local : ApplyIsLocal
apply_is_local body args xs ys agree =
    let read : ℕ → Type 0 = Reads body.statements in
    let before : List Contents → Changed = λ parts. record { parts = parts; reply = reply_before body.result } in
    ending_alike read args xs ys (after_all args body.statements (before xs)) (after_all args body.statements (before ys)) agree
    (all_alike read args body.statements (λ q h. h) (before xs) (before ys) (agree, refl))

-- a part that is not written is left as it was
module _ (Written : ℕ → Type 0) (args : List Datum) where
  -- each such part is written
  abbrev Covered : (ℕ → Type 0) → Type 0
  Covered Parts = (p : ℕ) → Parts p → Written p

  -- there are as many parts, and each that is not written is the same
  abbrev Kept : List Contents → List Contents → Type 0
  Kept xs ys = (length ys ≡ length xs) × ((p : ℕ) → (Written p → ⊥) → slice_get ys p ≡ slice_get xs p)

  abbrev KeptBy : Changed → Answer Changed → Type 0
  KeptBy c (Ok d) = Kept c.parts d.parts
  KeptBy c (Err w) = Unit {0}

  value_kept : {A : Type 0} (c : Changed) (a : Answer A) (f : A → Answer Changed) → ((x : A) → KeptBy c (f x)) → KeptBy c (a >>= f)
  value_kept c (Ok x) f h = h x
  value_kept c (Err w) f h = tt

  later : (c d : Changed) (b : Answer Changed) → Kept c.parts d.parts → KeptBy d b → KeptBy c b
  later c d (Ok e) h k = (k.0 ∙ h.0, λ p none. k.1 p none ∙ h.1 p none)
  later c d (Err w) h k = tt

  then_kept : (c : Changed) (a : Answer Changed) (f : Changed → Answer Changed) → KeptBy c a → ((d : Changed) → KeptBy d (f d)) → KeptBy c (a >>= f)
  then_kept c (Ok d) f h k = later c d (f d) h (k d)
  then_kept c (Err w) f h k = tt

  put_kept : (c : Changed) (p : ℕ) (new : Result Contents Refusal) → Written p → KeptBy c (with_part c p new)
  put_kept c p (Ok x) written = (length-set c.parts p x, λ q none. set_other c.parts p q x (λ e. none (subst Written (sym e) written)))
  put_kept c p (Err e) written = tt

  chosen_kept : (b : Bool) (c : Changed) (s t : Answer Changed) → KeptBy c s → KeptBy c t → KeptBy c (chosen b s t)
  chosen_kept true c s t h k = h
  chosen_kept false c s t h k = k

  mutual
    statement_kept : (s : Statement) → Covered (StatementChanges s) → (c : Changed) → KeptBy c (after args s c)
    statement_kept (block all) w c = all_kept all w c
    statement_kept (set_element p i x) w c = value_kept c (integer_value (seen_with args c) i) _ (λ n. value_kept c (datum_value (seen_with args c) x) _ (λ d. put_kept c p _ (w p refl)))
    statement_kept (set_result x) w c = value_kept c (datum_value (seen_with args c) x) _ (λ d. (refl, λ q none. refl))
    statement_kept (append p x) w c = value_kept c (datum_value (seen_with args c) x) _ (λ d. put_kept c p _ (w p refl))
    statement_kept (take p) w c = put_kept c p _ (w p refl)
    statement_kept (store p k x) w c = value_kept c (text_value (seen_with args c) k) _ (λ n. value_kept c (datum_value (seen_with args c) x) _ (λ d. put_kept c p _ (w p refl)))
    statement_kept (erase p k) w c = value_kept c (text_value (seen_with args c) k) _ (λ n. put_kept c p _ (w p refl))
    statement_kept (choose x s t) w c =
        value_kept c (holds (seen_with args c) x) _
        (λ b. chosen_kept b c (after args s c) (after args t c) (statement_kept s (λ q h. w q (inl h)) c) (statement_kept t (λ q h. w q (inr h)) c))
    statement_kept (refuse word) w c = tt

    all_kept : (all : Statements) → Covered (Writes all) → (c : Changed) → KeptBy c (after_all args all c)
    all_kept nothing w c = (refl, λ q none. refl)
    all_kept (first_and s rest) w c = then_kept c (after args s c) _ (statement_kept s (λ q h. w q (inl h)) c) (λ d. all_kept rest (λ q h. w q (inr h)) d)

  ending_kept : (c : Changed) (a : Answer Changed) → KeptBy c a → Kept c.parts (ending c.parts a).1
  ending_kept c (Ok d) h = h
  ending_kept c (Err w) h = (refl, λ q none. refl)

pub others_stay : OthersStay
others_stay body args parts =
    let written : ℕ → Type 0 = Writes body.statements in
    let before : Changed = record { parts = parts; reply = reply_before body.result } in
    ending_kept written args before (after_all args body.statements before) (all_kept written args body.statements (λ q h. h) before)

-- what a statement changes it names
mutual
  changes_named : (s : Statement) (p : ℕ) → StatementChanges s p → StatementNames s p
  changes_named (block all) p h = writes_read all p h
  changes_named (set_element q i x) p h = inl h
  changes_named (set_result x) p h = absurd h
  changes_named (append q x) p h = inl h
  changes_named (take q) p h = h
  changes_named (store q k x) p h = inl h
  changes_named (erase q k) p h = inl h
  changes_named (choose x s t) p h = inr (⊎_map (changes_named s p) (changes_named t p) h)
  changes_named (refuse word) p h = absurd h

  writes_read : (all : Statements) (p : ℕ) → Writes all p → Reads all p
  writes_read nothing p h = absurd h
  writes_read (first_and s rest) p h = ⊎_map (changes_named s p) (writes_read rest p) h

pub writes_are_reads : WritesAreReads
writes_are_reads body p h = writes_read body.statements p h

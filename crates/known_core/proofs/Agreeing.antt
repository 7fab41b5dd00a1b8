-- What an evaluation comes to does not hang on what is not known.
use Rattle.std.proofs.Common.{◌≡◌, ℕ, zero, suc, ◌<◌, ◌≤◌, Bool, true, false, List, [], ◌∷◌, length, ◌⊎◌, inl, inr, refl, sym, ap, ◌∙◌, subst, arith}
use Rattle.std.specs.Prelude.{Some, Result, Ok, Err, ok_or, slice_get, slice_set, nat_lt, if◌then◌else◌}
use Rattle.std.proofs.lemmas.Bool.{cases_lt, cases_eq}
use Rattle.std.proofs.lemmas.List.{length-set, get_or-set_same, get_or-set_other, set_past}
use Rattle.std.proofs.lemmas.Option.{slice_get_past, slice_get-get_or}
use Rattle.value_core.specs.declared.datum.Datum.{Datum}
use Rattle.value_core.specs.declared.datum.Datum.TheVariants as datum
use Rattle.value_core.specs.declared.refusal.Refusal.{Refusal}
use Rattle.value_core.specs.declared.refusal.Refusal.TheVariants.{Index, Full, Empty, Missing}
use Rattle.value_core.specs.declared.kind.Elem.{Elem}
use Rattle.value_core.specs.declared.kind.Elem.TheVariants as elem
use Rattle.value_core.specs.declared.kind.Kind.{Kind}
use Rattle.value_core.specs.declared.kind.Kind.TheVariants as kind
use Rattle.value_core.specs.Contents.{Contents, array, queue, table, kind_of}
use Rattle.value_core.specs.Words.{word_of}
use Rattle.value_core.specs.Meaning.{element_at, with_element, oldest_of, without_oldest, with_newest, has_key, under_key, with_row, without_key, count_of}
use Rattle.decl_core.specs.Form.{From, argument, element, oldest, under, Integers, number, integer_from, count, add, subtract, Texts, literal, text_from, Form, an_integer, a_text, Condition, compare, same_texts, other_texts, has, is_not, Statement, block, set_element, set_result, append, take, store, erase, choose, refuse, Statements, nothing, first_and}
use Rattle.decl_core.specs.Meaning.{Seen, Changed, part_at}
use Rattle.known_core.specs.Known.{Known, AgreeAt, Agree}
use Rattle.known_core.specs.Partly.{Halt, word, needs, Partly, ◌>>>◌, worded, datum_known, integer_known, text_known, value_known, holds_known, with_contents, chosen_known, after_known, all_known}
use Rattle.known_core.specs.Laws.{SameEnd}

-- what stands in a list where one element was replaced
pub got_other : (xs : List Datum) (n j : ℕ) (d : Datum) → (j ≡ n → ⊥) → slice_get (slice_set xs n d) j ≡ slice_get xs j
got_other [] n j d differ = refl
got_other (x ∷ xs) zero zero d differ = absurd (differ refl)
got_other (x ∷ xs) zero (suc j) d differ = refl
got_other (x ∷ xs) (suc n) zero d differ = refl
got_other (x ∷ xs) (suc n) (suc j) d differ = got_other xs n j d (λ is. differ (ap suc is))

got_same : (xs : List Datum) (n : ℕ) (d : Datum) → n < length xs → slice_get (slice_set xs n d) n ≡ Some d
got_same [] n d within = absurd (omega (arith, within))
got_same (x ∷ xs) zero d within = refl
got_same (x ∷ xs) (suc n) d within = got_same xs n d (omega (arith, within))

then_ext : {A B : Type 0} (r : Partly A) (f g : A → Partly B) → ((x : A) → f x ≡ g x) → (r >>> f) ≡ (r >>> g)
then_ext (Ok x) f g h = h x
then_ext (Err k) f g h = refl

same_then : {A B : Type 0} (r s : Partly A) (f g : A → Partly B) → r ≡ s → ((x : A) → f x ≡ g x) → (r >>> f) ≡ (s >>> g)
same_then r s f g is h = ap (λ t. t >>> f) is ∙ then_ext s f g h

length_in : Kind → ℕ
length_in (kind.Array n e) = n
length_in (kind.Queue e) = 0
length_in (kind.Table e) = 0

pub same_length : (e g : Elem) (xs ys : List Datum) → kind_of (array e xs) ≡ kind_of (array g ys) → length xs ≡ length ys
unfolding length_in
same_length e g xs ys is = ap length_in is

array_queue : (n : ℕ) (e g : Elem) → kind.Array n e ≡ kind.Queue g → ⊥
array_queue n e g is = cc

array_table : (n : ℕ) (e g : Elem) → kind.Array n e ≡ kind.Table g → ⊥
array_table n e g is = cc

-- what is the same of arrays of one length is the same of values that agree
pub by_kind : {X : Type 0} (f : Contents → X) (known : ℕ → Bool) (v w : Contents) → AgreeAt known v w → ((e g : Elem) (xs ys : List Datum) → length xs ≡ length ys → f (array e xs) ≡ f (array g ys)) → f v ≡ f w
by_kind f known (array e xs) (array g ys) h arrays = arrays e g xs ys (same_length e g xs ys h.kind)
by_kind f known (array e xs) (queue g ys) h arrays = absurd (array_queue (length xs) e g h.kind)
by_kind f known (array e xs) (table g m) h arrays = absurd (array_table (length xs) e g h.kind)
by_kind f known (queue e xs) w h arrays = ap f (h.others (λ none. none))
by_kind f known (table e m) w h arrays = ap f (h.others (λ none. none))

abbrev halts : Halt → Partly Datum
halts h = Err h

gone : (xs ys : List Datum) (n : ℕ) (h : Halt) → length xs ≡ length ys → (n < length xs) ⊎ (length xs ≤ n) → (worded (ok_or (slice_get xs n) Index) >>> λ (d : Datum). halts h) ≡ (worded (ok_or (slice_get ys n) Index) >>> λ (d : Datum). halts h)
gone xs ys n h many (inl within) =
    let x = slice_get-get_or xs n (datum.Integer 0) within in
    let y = slice_get-get_or ys n (datum.Integer 0) (omega (arith, within, many)) in
    ap (λ o. worded (ok_or o Index) >>> λ (d : Datum). halts h) x ∙ sym (ap (λ o. worded (ok_or o Index) >>> λ (d : Datum). halts h) y)
gone xs ys n h many (inr past) =
    ap (λ o. worded (ok_or o Index) >>> λ (d : Datum). halts h) (slice_get_past xs n past ∙ sym (slice_get_past ys n (omega (arith, past, many))))

element_by : (b : Bool) (known : ℕ → Bool) (p n : ℕ) (v w : Contents) → AgreeAt known v w → known n ≡ b
    → (worded (element_at v n) >>> λ d. if b then Ok d else Err (needs p n)) ≡ (worded (element_at w n) >>> λ d. if b then Ok d else Err (needs p n))
element_by true known p n v w h is = ap (λ r. worded r >>> λ d. Ok d) (h.elements n is)
element_by false known p n v w h is = by_kind (λ v. worded (element_at v n) >>> λ d. Err (needs p n)) known v w h (λ e g xs ys many. gone xs ys n (needs p n) many (cases_lt n (length xs)))

module _ (known : Known) (args : List Datum) (ones others : List Contents) (agree : Agree known ones others) where
  one : Seen
  one = record { arguments = args; parts = ones }

  other : Seen
  other = record { arguments = args; parts = others }

  mutual
    same_datum : (s : From) → datum_known known (record { arguments = args; parts = ones }) s ≡ datum_known known (record { arguments = args; parts = others }) s
    same_datum (argument k) = refl
    same_datum (element p i) = same_then _ _ _ _ (same_integer i) (λ n. element_by (known p n) (known p) p n (part_at ones p) (part_at others p) (agree.each p) refl)
    same_datum (oldest p) = by_kind (λ v. worded (oldest_of v)) (known p) (part_at ones p) (part_at others p) (agree.each p) (λ e g xs ys many. refl)
    same_datum (under p k) = same_then _ _ _ _ (same_text k) (λ key. by_kind (λ v. worded (under_key v key)) (known p) (part_at ones p) (part_at others p) (agree.each p) (λ e g xs ys many. refl))

    same_integer : (e : Integers) → integer_known known (record { arguments = args; parts = ones }) e ≡ integer_known known (record { arguments = args; parts = others }) e
    same_integer (number n) = refl
    same_integer (integer_from s) = same_then _ _ _ _ (same_datum s) (λ d. refl)
    same_integer (count p) = ap (λ (n : ℕ). Ok n) (by_kind count_of (known p) (part_at ones p) (part_at others p) (agree.each p) (λ e g xs ys many. many))
    same_integer (add a b) = same_then _ _ _ _ (same_integer a) (λ x. same_then _ _ _ _ (same_integer b) (λ y. refl))
    same_integer (subtract a b) = same_then _ _ _ _ (same_integer a) (λ x. same_then _ _ _ _ (same_integer b) (λ y. refl))

    same_text : (t : Texts) → text_known known (record { arguments = args; parts = ones }) t ≡ text_known known (record { arguments = args; parts = others }) t
    same_text (literal t) = refl
    same_text (text_from s) = same_then _ _ _ _ (same_datum s) (λ d. refl)

  pub same_value : (x : Form) → value_known known (record { arguments = args; parts = ones }) x ≡ value_known known (record { arguments = args; parts = others }) x
  same_value (an_integer e) = same_then _ _ _ _ (same_integer e) (λ n. refl)
  same_value (a_text e) = same_then _ _ _ _ (same_text e) (λ t. refl)

  pub same_test : (c : Condition) → holds_known known (record { arguments = args; parts = ones }) c ≡ holds_known known (record { arguments = args; parts = others }) c
  same_test (compare r a b) = same_then _ _ _ _ (same_integer a) (λ x. same_then _ _ _ _ (same_integer b) (λ y. refl))
  same_test (same_texts a b) = same_then _ _ _ _ (same_text a) (λ x. same_then _ _ _ _ (same_text b) (λ y. refl))
  same_test (other_texts a b) = same_then _ _ _ _ (same_text a) (λ x. same_then _ _ _ _ (same_text b) (λ y. refl))
  same_test (has p k) = same_then _ _ _ _ (same_text k) (λ key. ap (λ (b : Bool). Ok b) (by_kind (λ v. has_key v key) (known p) (part_at ones p) (part_at others p) (agree.each p) (λ e g xs ys many. refl)))
  same_test (is_not c) = same_then _ _ _ _ (same_test c) (λ b. refl)

-- new contents that agree, or the same refusal
abbrev AgreeBy : (ℕ → Bool) → Result Contents Refusal → Result Contents Refusal → Type 0
AgreeBy known (Ok v) (Ok w) = AgreeAt known v w
AgreeBy known (Ok v) (Err r) = ⊥
AgreeBy known (Err r) (Ok w) = ⊥
AgreeBy known (Err r) (Err s) = r ≡ s

agree_self : (known : ℕ → Bool) (r : Result Contents Refusal) → AgreeBy known r r
agree_self known (Ok v) = record { kind = refl; elements = λ i is. refl; others = λ none. refl }
agree_self known (Err r) = refl

agree_by : (known : ℕ → Bool) (op : Contents → Result Contents Refusal) (r : Refusal) (v w : Contents) → AgreeAt known v w → ((e : Elem) (xs : List Datum) → op (array e xs) ≡ Err r) → AgreeBy known (op v) (op w)
agree_by known op r (array e xs) (array g ys) h arrays = subst (λ x. AgreeBy known x (op (array g ys))) (sym (arrays e xs)) (subst (λ y. AgreeBy known (Err r) y) (sym (arrays g ys)) refl)
agree_by known op r (array e xs) (queue g ys) h arrays = absurd (array_queue (length xs) e g h.kind)
agree_by known op r (array e xs) (table g m) h arrays = absurd (array_table (length xs) e g h.kind)
agree_by known op r (queue e xs) w h arrays = subst (λ x. AgreeBy known (op (queue e xs)) (op x)) (h.others (λ none. none)) (agree_self known (op (queue e xs)))
agree_by known op r (table e m) w h arrays = subst (λ x. AgreeBy known (op (table e m)) (op x)) (h.others (λ none. none)) (agree_self known (op (table e m)))

by_tests : (known : ℕ → Bool) (b c : Bool) (v w : Contents) (r : Refusal) → b ≡ c → AgreeAt known v w → AgreeBy known (if b then Ok v else Err r) (if c then Ok w else Err r)
by_tests known true true v w r is h = h
by_tests known true false v w r is h = absurd cc
by_tests known false true v w r is h = absurd cc
by_tests known false false v w r is h = refl

set_at : (xs ys : List Datum) (n j : ℕ) (d : Datum) → length xs ≡ length ys → ok_or (slice_get xs j) Index ≡ ok_or (slice_get ys j) Index → (j ≡ n) ⊎ (j ≡ n → ⊥) → (n < length xs) ⊎ (length xs ≤ n)
    → ok_or (slice_get (slice_set xs n d) j) Index ≡ ok_or (slice_get (slice_set ys n d) j) Index
set_at xs ys n j d many same (inr differ) where_n = ap (λ o. ok_or o Index) (got_other xs n j d differ) ∙ same ∙ ap (λ o. ok_or o Index) (sym (got_other ys n j d differ))
set_at xs ys n j d many same (inl is) (inl within) =
    ap (λ k. ok_or (slice_get (slice_set xs n d) k) Index) is ∙ ap (λ o. ok_or o Index) (got_same xs n d within ∙ sym (got_same ys n d (omega (arith, within, many)))) ∙ ap (λ k. ok_or (slice_get (slice_set ys n d) k) Index) (sym is)
set_at xs ys n j d many same (inl is) (inr past) =
    ap (λ (z : List Datum). ok_or (slice_get z j) Index) (set_past xs n d past) ∙ same ∙ ap (λ (z : List Datum). ok_or (slice_get z j) Index) (sym (set_past ys n d (omega (arith, past, many))))

set_agree : (known : ℕ → Bool) (n : ℕ) (d : Datum) (v w : Contents) → AgreeAt known v w → AgreeBy known (with_element v n d) (with_element w n d)
set_agree known n d (array e xs) (array g ys) h =
    let many = same_length e g xs ys h.kind in
    by_tests known (nat_lt n (length xs)) (nat_lt n (length ys)) _ _ Index (ap (nat_lt n) many) (record {
      kind = ap (λ k. kind.Array k e) (length-set xs n d) ∙ h.kind ∙ sym (ap (λ k. kind.Array k g) (length-set ys n d));
      elements = λ j is. set_at xs ys n j d many (h.elements j is) (cases_eq j n) (cases_lt n (length xs));
      others = λ none. absurd (none tt);
    })
set_agree known n d (array e xs) (queue g ys) h = absurd (array_queue (length xs) e g h.kind)
set_agree known n d (array e xs) (table g m) h = absurd (array_table (length xs) e g h.kind)
set_agree known n d (queue e xs) w h = subst (λ x. AgreeBy known (with_element (queue e xs) n d) (with_element x n d)) (h.others (λ none. none)) (agree_self known (with_element (queue e xs) n d))
set_agree known n d (table e m) w h = subst (λ x. AgreeBy known (with_element (table e m) n d) (with_element x n d)) (h.others (λ none. none)) (agree_self known (with_element (table e m) n d))

-- a part that is replaced
pub at_set : (parts : List Contents) (p q : ℕ) (x : Contents) → ((q ≡ p) × (p < length parts) × (part_at (slice_set parts p x) q ≡ x)) ⊎ (part_at (slice_set parts p x) q ≡ part_at parts q)
at_set parts p q x = set_where (cases_eq q p) (cases_lt p (length parts)) where
  set_where : (q ≡ p) ⊎ (q ≡ p → ⊥) → (p < length parts) ⊎ (length parts ≤ p) → ((q ≡ p) × (p < length parts) × (part_at (slice_set parts p x) q ≡ x)) ⊎ (part_at (slice_set parts p x) q ≡ part_at parts q)
  set_where (inl is) (inl within) = inl (is, within, ap (part_at (slice_set parts p x)) is ∙ get_or-set_same parts p x (array elem.Integer []) within)
  set_where (inl is) (inr past) = inr (ap (λ (z : List Contents). part_at z q) (set_past parts p x past))
  set_where (inr differ) where_p = inr (get_or-set_other parts p q x (array elem.Integer []) differ)

put_agree : (known : Known) (ones others : List Contents) (p : ℕ) (x y : Contents) → Agree known ones others → AgreeAt (known p) x y → Agree known (slice_set ones p x) (slice_set others p y)
put_agree known ones others p x y agree h = record {
  many = length-set ones p x ∙ agree.many ∙ sym (length-set others p y);
  each = λ q. put_at q (at_set ones p q x) (at_set others p q y);
} where
  put_at : (q : ℕ) → ((q ≡ p) × (p < length ones) × (part_at (slice_set ones p x) q ≡ x)) ⊎ (part_at (slice_set ones p x) q ≡ part_at ones q) → ((q ≡ p) × (p < length others) × (part_at (slice_set others p y) q ≡ y)) ⊎ (part_at (slice_set others p y) q ≡ part_at others q)
      → AgreeAt (known q) (part_at (slice_set ones p x) q) (part_at (slice_set others p y) q)
  put_at q (inl a) (inl b) = subst (λ v. AgreeAt (known q) v (part_at (slice_set others p y) q)) (sym a.2) (subst (λ w. AgreeAt (known q) x w) (sym b.2) (subst (λ k. AgreeAt (known k) x y) (sym a.0) h))
  put_at q (inl a) (inr b) =
      let there : part_at (slice_set others p y) q ≡ y = ap (part_at (slice_set others p y)) a.0 ∙ get_or-set_same others p y (array elem.Integer []) (omega (arith, a.1, agree.many)) in
      subst (λ v. AgreeAt (known q) v (part_at (slice_set others p y) q)) (sym a.2) (subst (λ w. AgreeAt (known q) x w) (sym there) (subst (λ k. AgreeAt (known k) x y) (sym a.0) h))
  put_at q (inr a) (inl b) =
      let there : part_at (slice_set ones p x) q ≡ x = ap (part_at (slice_set ones p x)) b.0 ∙ get_or-set_same ones p x (array elem.Integer []) (omega (arith, b.1, agree.many)) in
      subst (λ v. AgreeAt (known q) v (part_at (slice_set others p y) q)) (sym there) (subst (λ w. AgreeAt (known q) x w) (sym b.2) (subst (λ k. AgreeAt (known k) x y) (sym b.0) h))
  put_at q (inr a) (inr b) = subst (λ v. AgreeAt (known q) v (part_at (slice_set others p y) q)) (sym a) (subst (λ w. AgreeAt (known q) (part_at ones q) w) (sym b) (agree.each q))

with_agree : (known : Known) (c d : Changed) (p : ℕ) (new other : Result Contents Refusal) → c.reply ≡ d.reply → Agree known c.parts d.parts → AgreeBy (known p) new other → SameEnd known (with_contents c p new) (with_contents d p other)
with_agree known c d p (Ok x) (Ok y) reply agree h = (reply, put_agree known c.parts d.parts p x y agree h)
with_agree known c d p (Ok x) (Err s) reply agree h = h
with_agree known c d p (Err r) (Ok y) reply agree h = h
with_agree known c d p (Err r) (Err s) reply agree h = ap (λ t. word (word_of t)) h

if_same : (known : Known) (b : Bool) (h : Halt) (r s : Partly Changed) → SameEnd known r s → SameEnd known (r >>> λ x. if b then Ok x else Err h) (s >>> λ x. if b then Ok x else Err h)
if_same known true h (Ok x) (Ok y) same = same
if_same known false h (Ok x) (Ok y) same = refl
if_same known b h (Ok x) (Err k) same = absurd same
if_same known b h (Err k) (Ok y) same = absurd same
if_same known b h (Err k) (Err l) same = same

value_then : {A : Type 0} (known : Known) (r s : Partly A) (f g : A → Partly Changed) → r ≡ s → ((x : A) → SameEnd known (f x) (g x)) → SameEnd known (r >>> f) (s >>> g)
value_then {A} known r s f g is h = subst (λ t. SameEnd known (r >>> f) (t >>> g)) is (by_end r) where
  by_end : (t : Partly A) → SameEnd known (t >>> f) (t >>> g)
  by_end (Ok x) = h x
  by_end (Err k) = refl

done_then : (known : Known) (r s : Partly Changed) (f g : Changed → Partly Changed) → SameEnd known r s → ((x y : Changed) → x.reply ≡ y.reply → Agree known x.parts y.parts → SameEnd known (f x) (g y)) → SameEnd known (r >>> f) (s >>> g)
done_then known (Ok x) (Ok y) f g same h = h x y same.0 same.1
done_then known (Ok x) (Err k) f g same h = absurd same
done_then known (Err k) (Ok y) f g same h = absurd same
done_then known (Err k) (Err l) f g same h = same

chosen_same : (known : Known) (b : Bool) (r s t u : Partly Changed) → SameEnd known r t → SameEnd known s u → SameEnd known (chosen_known b r s) (chosen_known b t u)
chosen_same known true r s t u h k = h
chosen_same known false r s t u h k = k

module _ (known : Known) (args : List Datum) where
  mutual
    statement_same : (s : Statement) (c d : Changed) → c.reply ≡ d.reply → Agree known c.parts d.parts → SameEnd known (after_known known args s c) (after_known known args s d)
    statement_same (block all) c d reply agree = all_same all c d reply agree
    statement_same (set_element p i x) c d reply agree =
        value_then known _ _ _ _ (same_integer known args c.parts d.parts agree i) (λ n. value_then known _ _ _ _ (same_value known args c.parts d.parts agree x) (λ z.
        if_same known (known p n) (needs p n) _ _ (with_agree known c d p _ _ reply agree (set_agree (known p) n z (part_at c.parts p) (part_at d.parts p) (agree.each p)))))
    statement_same (set_result x) c d reply agree = value_then known _ _ _ _ (same_value known args c.parts d.parts agree x) (λ z. (refl, agree))
    statement_same (append p x) c d reply agree =
        value_then known _ _ _ _ (same_value known args c.parts d.parts agree x) (λ z.
        with_agree known c d p _ _ reply agree (agree_by (known p) (λ v. with_newest v z) Full (part_at c.parts p) (part_at d.parts p) (agree.each p) (λ e xs. refl)))
    statement_same (take p) c d reply agree = with_agree known c d p _ _ reply agree (agree_by (known p) without_oldest Empty (part_at c.parts p) (part_at d.parts p) (agree.each p) (λ e xs. refl))
    statement_same (store p k x) c d reply agree =
        value_then known _ _ _ _ (same_text known args c.parts d.parts agree k) (λ key. value_then known _ _ _ _ (same_value known args c.parts d.parts agree x) (λ z.
        with_agree known c d p _ _ reply agree (agree_by (known p) (λ v. with_row v key z) Full (part_at c.parts p) (part_at d.parts p) (agree.each p) (λ e xs. refl))))
    statement_same (erase p k) c d reply agree =
        value_then known _ _ _ _ (same_text known args c.parts d.parts agree k) (λ key.
        with_agree known c d p _ _ reply agree (agree_by (known p) (λ v. without_key v key) Missing (part_at c.parts p) (part_at d.parts p) (agree.each p) (λ e xs. refl)))
    statement_same (choose q s t) c d reply agree =
        value_then known _ _ _ _ (same_test known args c.parts d.parts agree q) (λ b.
        chosen_same known b (after_known known args s c) (after_known known args t c) (after_known known args s d) (after_known known args t d) (statement_same s c d reply agree) (statement_same t c d reply agree))
    statement_same (refuse w) c d reply agree = refl

    pub all_same : (all : Statements) (c d : Changed) → c.reply ≡ d.reply → Agree known c.parts d.parts → SameEnd known (all_known known args all c) (all_known known args all d)
    all_same nothing c d reply agree = (reply, agree)
    all_same (first_and s rest) c d reply agree = done_then known _ _ _ _ (statement_same s c d reply agree) (λ x y replies agrees. all_same rest x y replies agrees)

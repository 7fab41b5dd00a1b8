-- What an evaluation over what was read says of the whole bytes.
use Rattle.std.proofs.Common.{◌≡◌, ℕ, zero, suc, ◌<◌, ◌≤◌, ◌⊎◌, inl, inr, Bool, true, false, List, [], ◌∷◌, length, map, refl, sym, ap, ◌∙◌, subst, arith}
use Rattle.std.specs.Prelude.{Ok, Err, ok_or, slice_get, slice_index, ◌==◌, if◌then◌else◌}
use Rattle.std.specs.Int.{bit_at}
use Rattle.std.proofs.lemmas.Bool.{cases_lt, cases_eq}
use Rattle.std.proofs.lemmas.List.{length-map}
use Rattle.std.proofs.lemmas.Nat.Bits.{bit_at-lt}
use Rattle.std.proofs.lemmas.Option.{slice_get_past, get_or_from_slice_get}
use Rattle.value_core.specs.declared.datum.Datum.{Datum}
use Rattle.value_core.specs.declared.refusal.Refusal.TheVariants.{Index}
use Rattle.value_core.specs.declared.kind.Elem.{Elem}
use Rattle.value_core.specs.declared.kind.Elem.TheVariants as elem
use Rattle.value_core.specs.declared.kind.Kind.{Kind}
use Rattle.value_core.specs.declared.kind.Kind.TheVariants as kind
use Rattle.value_core.specs.Contents.{Contents, array, queue, table, kind_of, IsContents}
use Rattle.value_core.specs.Kinds.{IsArray}
use Rattle.value_bytes.specs.Spelling.{Spells, spelling}
use Rattle.value_core.specs.Meaning.{element_at}
use Rattle.decl_core.specs.declared.object.Operation.{Operation}
use Rattle.decl_core.specs.Bodies.{body_of}
use Rattle.decl_core.specs.Footprint.{reads_of}
use Rattle.decl_core.specs.Touched.{Reads}
use Rattle.decl_core.specs.Meaning.{Changed, part_at, apply_body}
use Rattle.decl_core.proofs.DeclTouched.{reads_bits}
use Rattle.apply_core.specs.Pages.{page_at, page_of}
use Rattle.apply_core.proofs.PieceSpelled.{frame_is_due}
use Rattle.apply_core.specs.Fits.{IsNamed}
use Rattle.apply_core.proofs.HeldReads.{reads_held}
use Rattle.known_core.specs.Known.{AgreeAt, KeepsAt, HasPlace, IsUnknown}
use Rattle.known_core.specs.Partly.{Partly, word, needs, partly_done}
use Rattle.known_core.specs.Laws.{Says, SameEnd}
use Rattle.known_core.specs.Masks.{known_by}
use Rattle.known_core.specs.Wanted.{IsWanted, IsFull, AreMasksFor, IsNextPage}
use Rattle.known_core.proofs.Agreeing.{same_length}
use Rattle.known_core.proofs.Courses.{one_answer, one_course}
use Rattle.known_core.proofs.Filling.{filled_is_spelled, pages_after}
use Rattle.known_core.proofs.Full.{full_known, known_or_not, unknown_at, place_within, at_kind, of_contents}
use Rattle.page_core.specs.Given.{AreSpelled, IsRefused, IsDamaged}
use Rattle.run_core.specs.Verdicts.{ReadAs}
use Rattle.run_core.specs.Reads.{pages_of, IsKnownAs, AreKnown, IsDue}
use Rattle.run_core.specs.Wholes.{AreNewPages, AreNewAs}
use Rattle.run_core.proofs.Completing.{completion, kind_once, some_one, agree_self}

-- whether an operation reads a part is decided
pub naming : (operation : Operation) (p : ℕ) → ((k : Kind) × IsNamed operation p k) ⊎ ((k : Kind) → IsNamed operation p k → ⊥)
naming operation p = by_bit (cases_eq (bit_at (reads_of (body_of operation)) p) 1) where
  by_bit : (bit_at (reads_of (body_of operation)) p ≡ 1) ⊎ (bit_at (reads_of (body_of operation)) p ≡ 1 → ⊥) → ((k : Kind) × IsNamed operation p k) ⊎ ((k : Kind) → IsNamed operation p k → ⊥)
  by_bit (inl set) =
      let reads : Reads (body_of operation).statements p = (reads_bits (body_of operation).statements (reads_of (body_of operation)) refl p).0 set in
      let held = reads_held operation p reads in
      inl (held.kind, record { named = reads; held = held.held })
  by_bit (inr clear) = inr (λ k named. clear ((reads_bits (body_of operation).statements (reads_of (body_of operation)) refl p).1 named.named))

lists_same : (xs ys : List Datum) → length xs ≡ length ys → ((i : ℕ) → ok_or (slice_get xs i) Index ≡ ok_or (slice_get ys i) Index) → xs ≡ ys
lists_same [] [] many same = refl
lists_same [] (y ∷ ys) many same = absurd (omega (arith, many))
lists_same (x ∷ xs) [] many same = absurd (omega (arith, many))
lists_same (x ∷ xs) (y ∷ ys) many same =
    let first : Ok x ≡ Ok y = same 0 in
    let one : x ≡ y = cc in
    let rest : xs ≡ ys = lists_same xs ys (omega (arith, many)) (λ i. same (suc i)) in
    λ i. one i ∷ rest i

array_queue : (n : ℕ) (e g : Elem) → kind.Array n e ≡ kind.Queue g → ⊥
array_queue n e g is = cc

array_table : (n : ℕ) (e g : Elem) → kind.Array n e ≡ kind.Table g → ⊥
array_table n e g is = cc

sorts : (n m : ℕ) (e g : Elem) → kind.Array n e ≡ kind.Array m g → e ≡ g
sorts n m e g is = cc

-- values that agree on all elements are the same
ext_value : (v w : Contents) → kind_of v ≡ kind_of w → ((i : ℕ) → element_at v i ≡ element_at w i) → ((IsArray (kind_of v) → ⊥) → v ≡ w) → v ≡ w
ext_value (array e xs) (array g ys) k same others =
    let lists : xs ≡ ys = lists_same xs ys (same_length e g xs ys k) same in
    let sort : e ≡ g = sorts (length xs) (length ys) e g k in
    λ i. array (sort i) (lists i)
ext_value (array e xs) (queue g ys) k same others = absurd (array_queue (length xs) e g k)
ext_value (array e xs) (table g m) k same others = absurd (array_table (length xs) e g k)
ext_value (queue e xs) w k same others = others (λ none. none)
ext_value (table e m) w k same others = others (λ none. none)

by_bool : (b : Bool) → (b ≡ true) ⊎ (b ≡ false)
by_bool true = inl refl
by_bool false = inr refl

-- what was not changed of what is seen was not changed of the whole
pub unchanged : (known : ℕ → Bool) (seen left whole after : Contents) → AgreeAt known seen whole → AgreeAt known left after → KeepsAt known whole after → left ≡ seen → after ≡ whole
unchanged known seen left whole after first last keep is = ext_value after whole keep.kind (λ i. at i (by_bool (known i))) (λ none. sym (last.others (λ a. none (subst IsArray last.kind a))) ∙ is ∙ first.others (λ a. none (subst IsArray (ap kind_of (sym is) ∙ last.kind) a))) where
  at : (i : ℕ) → (known i ≡ true) ⊎ (known i ≡ false) → element_at after i ≡ element_at whole i
  at i (inl knows) = sym (last.elements i knows) ∙ ap (λ v. element_at v i) is ∙ first.elements i knows
  at i (inr not) = keep.elements i not

-- what was changed of what is seen was changed of the whole
pub changed_not : (known : ℕ → Bool) (seen left whole after : Contents) → AgreeAt known seen whole → AgreeAt known left after → KeepsAt known seen left → after ≡ whole → left ≡ seen
changed_not known seen left whole after first last keep is = ext_value left seen keep.kind (λ i. at i (by_bool (known i))) (λ none. last.others none ∙ is ∙ sym (first.others (λ a. none (subst IsArray (sym keep.kind) a)))) where
  at : (i : ℕ) → (known i ≡ true) ⊎ (known i ≡ false) → element_at left i ≡ element_at seen i
  at i (inl knows) = last.elements i knows ∙ ap (λ v. element_at v i) is ∙ sym (first.elements i knows)
  at i (inr not) = keep.elements i not

-- a text array is known as a whole
all_known_texts : (masks : List ℕ) (p : ℕ) (left after : Contents) → IsFull masks p → IsContents left → AgreeAt (known_by masks p) left after → left ≡ after
all_known_texts masks p left after full contents agree = ext_value left after agree.kind (λ i. at left after contents agree i) agree.others where
  at : (v w : Contents) → IsContents v → AgreeAt (known_by masks p) v w → (i : ℕ) → element_at v i ≡ element_at w i
  at (array e xs) (array g ys) is a i = by_place (cases_lt i (length xs)) where
    by_place : (i < length xs) ⊎ (length xs ≤ i) → ok_or (slice_get xs i) Index ≡ ok_or (slice_get ys i) Index
    by_place (inl less) = a.elements i (full_known masks p i full (omega (arith, less, is.few)))
    by_place (inr past) = ap (λ o. ok_or o Index) (slice_get_past xs i past ∙ sym (slice_get_past ys i (omega (arith, past, same_length e g xs ys a.kind))))
  at (array e xs) (queue g ys) is a i = absurd (array_queue (length xs) e g a.kind)
  at (array e xs) (table g m) is a i = absurd (array_table (length xs) e g a.kind)
  at (queue e xs) w is a i = ap (λ v. element_at v i) (a.others (λ none. none))
  at (table e m) w is a i = ap (λ v. element_at v i) (a.others (λ none. none))

text_apart : (n m : ℕ) → kind.Array n elem.Text ≡ kind.Array m elem.Integer → ⊥
text_apart n m is = cc

-- a text array that is read has a full mask
pub texts_full : (masks : List ℕ) (operation : Operation) (p n : ℕ) (k : Kind) → IsNamed operation p k → k ≡ kind.Array n elem.Text → IsWanted operation p ⊎ IsFull masks p → IsFull masks p
texts_full masks operation p n k named is (inr full) = full
texts_full masks operation p n k named is (inl wanted) = absurd (text_apart n wanted.many (sym is ∙ kind_once operation p k (kind.Array wanted.many elem.Integer) named wanted.named))

-- two spellings of arrays of as many integers are as long
same_long : (n : ℕ) (one other : List ℕ) (v w : Contents) → Spells one (kind.Array n elem.Integer) v → Spells other (kind.Array n elem.Integer) w → length one ≡ length other
same_long n one other v w a b = (frame_is_due n one v a).0.long ∙ sym (frame_is_due n other w b).0.long

-- the pages of what a body left
new_pages : (masks : List ℕ) (p n : ℕ) (filled bytes before after : List ℕ) (seen left old new : Contents) → Spells filled (kind.Array n elem.Integer) seen → Spells bytes (kind.Array n elem.Integer) left → Spells before (kind.Array n elem.Integer) old → Spells after (kind.Array n elem.Integer) new
    → KeepsAt (known_by masks p) seen left → AgreeAt (known_by masks p) left new → KeepsAt (known_by masks p) old new → AreNewPages (pages_of masks p) filled bytes before after
new_pages masks p n filled bytes before after seen left old new sees leaves was is keep_seen agree keep = record {
  long = same_long n bytes filled left seen leaves sees;
  long_whole = same_long n after before new old is was;
  known = λ k knows. ap (page_at k) is.spelled ∙ made k true knows ∙ sym (ap (page_at k) leaves.spelled);
  stays = λ k not. ap (page_at k) leaves.spelled ∙ kept k false not ∙ sym (ap (page_at k) sees.spelled);
  stays_whole = λ k not. ap (page_at k) is.spelled ∙ made k false not ∙ sym (ap (page_at k) was.spelled);
} where
  made : (k : ℕ) (b : Bool) → pages_of masks p k ≡ b → page_at k (spelling new) ≡ (if b then page_at k (spelling left) else page_at k (spelling old))
  made k b knows = subst (λ c. page_at k (spelling new) ≡ (if c then page_at k (spelling left) else page_at k (spelling old))) knows (pages_after (pages_of masks p) n old left new leaves.kind leaves.contents was.contents agree keep k)

  kept : (k : ℕ) (b : Bool) → pages_of masks p k ≡ b → page_at k (spelling left) ≡ (if b then page_at k (spelling left) else page_at k (spelling seen))
  kept k b knows = subst (λ c. page_at k (spelling left) ≡ (if c then page_at k (spelling left) else page_at k (spelling seen))) knows (pages_after (pages_of masks p) n seen left left leaves.kind leaves.contents sees.contents (agree_self (known_by masks p) left) keep_seen k)

-- what is no array of integers is known as a whole
as_left : (left new : Contents) (bytes after : List ℕ) → bytes ≡ spelling left → after ≡ spelling new → left ≡ new → after ≡ bytes
as_left left new bytes after leaves is same = is ∙ sym (ap spelling same) ∙ sym leaves

-- the bytes of what a body left
pub new_as : (k : Kind) (masks : List ℕ) (p : ℕ) (filled bytes before after : List ℕ) (seen left old new : Contents) → Spells filled k seen → Spells bytes k left → Spells before k old → Spells after k new
    → KeepsAt (known_by masks p) seen left → AgreeAt (known_by masks p) left new → KeepsAt (known_by masks p) old new → ((n : ℕ) → k ≡ kind.Array n elem.Text → IsFull masks p) → AreNewAs k (pages_of masks p) filled bytes before after
new_as (kind.Array n elem.Integer) masks p filled bytes before after seen left old new sees leaves was is keep_seen agree keep full = new_pages masks p n filled bytes before after seen left old new sees leaves was is keep_seen agree keep
new_as (kind.Array n elem.Text) masks p filled bytes before after seen left old new sees leaves was is keep_seen agree keep full = as_left left new bytes after leaves.spelled is.spelled (all_known_texts masks p left new (full n refl) leaves.contents agree)
new_as (kind.Queue e) masks p filled bytes before after seen left old new sees leaves was is keep_seen agree keep full = as_left left new bytes after leaves.spelled is.spelled (agree.others (λ a. subst IsArray leaves.kind a))
new_as (kind.Table e) masks p filled bytes before after seen left old new sees leaves was is keep_seen agree keep full = as_left left new bytes after leaves.spelled is.spelled (agree.others (λ a. subst IsArray leaves.kind a))

module _ (masks : List ℕ) (operation : Operation) (args : List Datum) (read : List (List ℕ)) (at : ℕ → List ℕ → Type 0) (seen : List Contents) (spelled : AreSpelled (ReadAs read) operation seen) (known : AreKnown masks operation read at) where
  -- what was refused
  pub is_refused : (w : List ℕ) → partly_done (known_by masks) (body_of operation) args seen ≡ Err (word w) → IsRefused at operation args w
  is_refused w is =
      let f = completion masks operation read at seen spelled known (naming operation) in
      let says = subst (λ r. Says (known_by masks) r f.whole (apply_body (body_of operation) args f.whole)) is (one_answer (known_by masks) (body_of operation) args seen f.whole f.agree) in
      record { parts = f.whole; spelled = f.spelled_whole; gives = ap (λ x. x.0) says }

  course_on : (r s : Partly Changed) (p i : ℕ) → SameEnd (known_by masks) r s → r ≡ Err (needs p i) → s ≡ Err (needs p i)
  course_on r (Ok other) p i same is = absurd (subst (λ t. SameEnd (known_by masks) t (Ok other)) is same)
  course_on r (Err h) p i same is = ap (λ x. Err x) (sym (subst (λ t. SameEnd (known_by masks) t (Err h)) is same))

  -- what is needed
  pub is_due : (p i : ℕ) → partly_done (known_by masks) (body_of operation) args seen ≡ Err (needs p i) → IsDue masks at operation args p (page_of i)
  is_due p i is =
      let f = completion masks operation read at seen spelled known (naming operation) in
      record {
        parts = f.whole;
        spelled = f.spelled_whole;
        element = i;
        comes = course_on _ _ p i (one_course (known_by masks) (body_of operation) args seen f.whole f.agree) is;
        page = refl;
      }

-- what is damaged of the bytes read is damaged of the whole bytes
spells_read : (k : Kind) (pages : ℕ → Bool) (filled whole : List ℕ) (value : Contents) → IsKnownAs k pages filled whole → Spells whole k value → (seen : Contents) × Spells filled k seen
spells_read (kind.Array n elem.Integer) pages filled whole value known spells = filled_is_spelled pages n filled whole value spells known
spells_read (kind.Array n elem.Text) pages filled whole value known spells = (value, subst (λ (b : List ℕ). Spells b (kind.Array n elem.Text) value) (sym known) spells)
spells_read (kind.Queue e) pages filled whole value known spells = (value, subst (λ (b : List ℕ). Spells b (kind.Queue e) value) (sym known) spells)
spells_read (kind.Table e) pages filled whole value known spells = (value, subst (λ (b : List ℕ). Spells b (kind.Table e) value) (sym known) spells)

pub is_damaged : (masks : List ℕ) (operation : Operation) (read : List (List ℕ)) (at : ℕ → List ℕ → Type 0) → AreKnown masks operation read at → IsDamaged (ReadAs read) operation → IsDamaged at operation
is_damaged masks operation read at known is =
    let h = known is.p is.kind is.named in
    let bytes : h.filled ≡ is.bytes = some_one h.filled is.bytes (sym h.there ∙ is.there) in
    record {
      p = is.p;
      kind = is.kind;
      named = is.named;
      bytes = h.whole;
      there = h.held;
      spell_none = λ value spells.
          let s = spells_read is.kind (pages_of masks is.p) h.filled h.whole value h.known spells in
          is.spell_none s.0 (subst (λ (b : List ℕ). Spells b is.kind s.0) bytes s.1);
    }

-- a page that is needed is there and not known
is_next : (masks : List ℕ) (operation : Operation) (parts : List Contents) (p i n : ℕ) (e : Elem) → IsUnknown (known_by masks) parts p i → kind_of (part_at parts p) ≡ kind.Array n e → n ≤ 1024 → p < 16 → AreMasksFor operation masks
    → ((m : ℕ) → IsNamed operation p (kind.Array m elem.Integer) → m ≡ n) → IsNextPage masks operation p (page_of i)
is_next masks operation parts p i n e unknown k few small fit many = by_mask (fit p small) where
  less : i < n
  less = subst (λ l. HasPlace l i) k unknown.place

  by_mask : IsWanted operation p ⊎ IsFull masks p → IsNextPage masks operation p (page_of i)
  by_mask (inr full) = absurd (known_or_not (known_by masks p i) (full_known masks p i full (omega (arith, less, few))) unknown.unknown)
  by_mask (inl wanted) = record {
    wanted = wanted;
    few = omega (arith, less, few);
    there = omega (arith, less, many wanted.many wanted.named);
    clear = no_bit (bit_at (slice_index masks p) (page_of i)) (bit_at-lt (slice_index masks p) (page_of i)) unknown.unknown;
  } where
    no_bit : (b : ℕ) → b < 2 → (b == 1) ≡ false → b ≡ 0
    no_bit zero low is = refl
    no_bit (suc zero) low is = absurd cc
    no_bit (suc (suc b)) low is = absurd (omega (arith, low))

same_count : (m n : ℕ) (e : Elem) → kind.Array m elem.Integer ≡ kind.Array n e → m ≡ n
same_count m n e is = cc

pub next_of : (masks : List ℕ) (operation : Operation) (args : List Datum) (read : List (List ℕ)) (parts after : List Contents) (p i : ℕ) → AreSpelled (ReadAs read) operation parts → AreMasksFor operation masks → length parts ≤ 16
    → partly_done (known_by masks) (body_of operation) args parts ≡ Err (needs p i) → map kind_of after ≡ map kind_of parts → IsContents (part_at after p) → IsNextPage masks operation p (page_of i)
next_of masks operation args read parts after p i spelled fit few is kinds contents =
    let unknown = unknown_at (known_by masks) (body_of operation) args parts p i is in
    let within = place_within parts p i unknown.place in
    let k : kind_of (part_at after p) ≡ kind_of (part_at parts p) = at_kind after parts p kinds within in
    let a = of_contents (part_at after p) i contents (subst (λ l. HasPlace l i) (sym k) unknown.place) in
    is_next masks operation parts p i a.0 a.1 unknown (sym k ∙ a.2) a.3 (omega (arith, within, few)) fit
    (λ m named.
    let was = spelled p (kind.Array m elem.Integer) named in
    let held : part_at parts p ≡ was.2.0 = get_or_from_slice_get parts p was.2.0 (array elem.Integer []) was.2.1 in
    same_count m a.0 a.1 (sym was.2.2.kind ∙ ap kind_of (sym held) ∙ sym k ∙ a.2))

pub same_length_kinds : (one other : List Contents) → map kind_of one ≡ map kind_of other → length one ≡ length other
same_length_kinds one other same = sym (length-map one kind_of) ∙ ap length same ∙ length-map other kind_of

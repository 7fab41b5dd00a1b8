-- Arrays of integers of which only some pages are known.
use Rattle.std.proofs.Common.{◌≡◌, ℕ, ◌<◌, ◌≤◌, Bool, true, false, List, length, take, drop, get_or, refl, sym, ap, ◌∙◌, subst, arith, length-take}
use Rattle.std.specs.Prelude.{All, Option, Some, None, ok_or, slice_get, if◌then◌else◌}
use Rattle.std.proofs.lemmas.List.{take-append-drop, take-append-le}
use Rattle.std.proofs.lemmas.Option.{slice_get-get_or}
use Rattle.std.proofs.lemmas.List.Elements.{All-get_or, All-from_get_or}
use Rattle.value_core.specs.declared.datum.Datum.{Datum}
use Rattle.value_core.specs.declared.datum.Datum.TheVariants as datum
use Rattle.value_core.specs.declared.refusal.Refusal.TheVariants.{Index}
use Rattle.value_core.specs.declared.kind.Elem.{Elem}
use Rattle.value_core.specs.declared.kind.Elem.TheVariants as elem
use Rattle.value_core.specs.declared.kind.Kind.TheVariants as kind
use Rattle.value_core.specs.Datum.{IsElement}
use Rattle.value_core.specs.Contents.{Contents, array, queue, table, kind_of, IsContents}
use Rattle.value_bytes.specs.Spelling.{spelling}
use Rattle.apply_core.specs.Pages.{HasFrame, page_at, page_of}
use Rattle.apply_core.proofs.PieceSpelled.{all_bytes_spell, frame_is_due, pages_tell}
use Rattle.known_core.specs.Known.{AgreeAt, KeepsAt}
use Rattle.known_core.specs.Filled.{by_page, WholeIsSpelled, FilledIsSpelled, PagesAfter, ContentsAfter}
use Rattle.known_core.proofs.Agreeing.{same_length}

-- the first four bytes stand in the first page
in_first : (bytes : List ℕ) → 4 ≤ length bytes → take 4 bytes ≡ take 4 (page_at 0 bytes)
in_first bytes some =
    let enough : 4 ≤ length (take 1024 bytes) = omega (arith, length-take 1024 bytes, some) in
    ap (take 4) (sym (take-append-drop 1024 bytes)) ∙ take-append-le 4 (take 1024 bytes) (drop 1024 bytes) enough

-- the frame of either is the frame of the other
pub frame_on : (n : ℕ) (one other : List ℕ) → length other ≡ length one → page_at 0 other ≡ page_at 0 one → HasFrame n one → HasFrame n other
frame_on n one other long first frame = record {
  front = in_first other (omega (arith, long, frame.long)) ∙ ap (take 4) first ∙ sym (in_first one (omega (arith, frame.long))) ∙ frame.front;
  long = long ∙ frame.long;
}

ok_same : (o p : Option Datum) → o ≡ p → ok_or o Index ≡ ok_or p Index
ok_same o p is = ap (λ q. ok_or q Index) is

some_same : (o p : Option Datum) → ok_or o Index ≡ ok_or p Index → o ≡ p
some_same (Some x) (Some y) is = let same : x ≡ y = cc in ap (λ z. Some z) same
some_same (Some x) None is = absurd cc
some_same None (Some y) is = absurd cc
some_same None None is = refl

-- an array of integers, by its kind
record IsIntegers (n : ℕ) (v : Contents) : Type 0 where
  xs : List Datum
  is : v ≡ array elem.Integer xs
  many : length xs ≡ n

as_integers : (n : ℕ) (v : Contents) → kind_of v ≡ kind.Array n elem.Integer → IsIntegers n v
as_integers n (array e xs) k = let sort : e ≡ elem.Integer = cc in let many : length xs ≡ n = cc in record { xs = xs; is = ap (λ (s : Elem). array s xs) sort; many = many }
as_integers n (queue e xs) k = absurd cc
as_integers n (table e m) k = absurd cc

pub whole_is_spelled : WholeIsSpelled
whole_is_spelled pages n filled whole seen spelled h =
    let due = frame_is_due n filled seen spelled in
    let found = all_bytes_spell n whole due.1 h.bytes (frame_on n filled whole h.long (h.same 0 h.first) due.0) in
    let ys : List Datum = found.0 in
    let s = as_integers n seen spelled.kind in
    let a : IsContents (array elem.Integer s.xs) = subst IsContents s.is spelled.contents in
    let b : IsContents (array elem.Integer ys) = found.1.contents in
    let many_y : length ys ≡ n = (as_length n ys found.1.kind) in
    let agree : AgreeAt (by_page pages) (array elem.Integer s.xs) (array elem.Integer ys) = record {
      kind = ap (λ k. kind.Array k elem.Integer) (s.many ∙ sym many_y);
      elements = λ i known.
          let pages_same : page_at (page_of i) (spelling (array elem.Integer s.xs)) ≡ page_at (page_of i) (spelling (array elem.Integer ys)) =
          ap (page_at (page_of i)) (ap spelling (sym s.is) ∙ sym spelled.spelled) ∙ sym (h.same (page_of i) known) ∙ ap (page_at (page_of i)) found.1.spelled in
          ok_same _ _ ((pages_tell (page_of i) s.xs ys a b (s.many ∙ sym many_y)).0 pages_same i refl);
      others = λ none. absurd (none tt);
    } in
    (array elem.Integer ys, found.1, subst (λ v. AgreeAt (by_page pages) v (array elem.Integer ys)) (sym s.is) agree) where
      as_length : (m : ℕ) (ys : List Datum) → kind_of (array elem.Integer ys) ≡ kind.Array m elem.Integer → length ys ≡ m
      as_length m ys k = cc

pub filled_is_spelled : FilledIsSpelled
filled_is_spelled pages n filled whole value spelled h =
    let due = frame_is_due n whole value spelled in
    let found = all_bytes_spell n filled due.1 h.read (frame_on n whole filled (sym h.long) (sym (h.same 0 h.first)) due.0) in
    (array elem.Integer found.0, found.1)

-- the elements of what is left are those of what it is made of
element_after : (known : ℕ → Bool) (e : Elem) (xs ys zs : List Datum) (i : ℕ) (b : Bool) → known i ≡ b → length xs ≡ length zs → length ys ≡ length zs → All (IsElement e) xs → All (IsElement e) ys
    → ((j : ℕ) → known j ≡ true → ok_or (slice_get xs j) Index ≡ ok_or (slice_get zs j) Index) → ((j : ℕ) → known j ≡ false → ok_or (slice_get zs j) Index ≡ ok_or (slice_get ys j) Index)
    → i < length zs → IsElement e (get_or zs i (datum.Integer 0))
element_after known e xs ys zs i true is mx my ax ay agree keep within =
    let x = slice_get-get_or xs i (datum.Integer 0) (omega (arith, within, mx)) in
    let z = slice_get-get_or zs i (datum.Integer 0) within in
    subst (IsElement e) (got _ _ (sym x ∙ some_same _ _ (agree i is) ∙ z)) (All-get_or (IsElement e) xs i (datum.Integer 0) (omega (arith, within, mx)) ax) where
      got : (x z : Datum) → Some x ≡ Some z → x ≡ z
      got x z is = cc
element_after known e xs ys zs i false is mx my ax ay agree keep within =
    let y = slice_get-get_or ys i (datum.Integer 0) (omega (arith, within, my)) in
    let z = slice_get-get_or zs i (datum.Integer 0) within in
    subst (IsElement e) (got _ _ (sym y ∙ sym (some_same _ _ (keep i is)) ∙ z)) (All-get_or (IsElement e) ys i (datum.Integer 0) (omega (arith, within, my)) ay) where
      got : (x z : Datum) → Some x ≡ Some z → x ≡ z
      got x z is = cc

sorts : (e g : Elem) (xs ys : List Datum) → kind_of (array e xs) ≡ kind_of (array g ys) → e ≡ g
sorts e g xs ys is = cc

array_queue : (n : ℕ) (e g : Elem) → kind.Array n e ≡ kind.Queue g → ⊥
array_queue n e g is = cc

array_table : (n : ℕ) (e g : Elem) → kind.Array n e ≡ kind.Table g → ⊥
array_table n e g is = cc

array_after : (known : ℕ → Bool) (e g f : Elem) (xs ys zs : List Datum) → IsContents (array e xs) → IsContents (array f ys) → AgreeAt known (array e xs) (array g zs) → KeepsAt known (array f ys) (array g zs) → IsContents (array g zs)
array_after known e g f xs ys zs a b agree keep =
    let mx : length xs ≡ length zs = same_length e g xs zs agree.kind in
    let my : length ys ≡ length zs = sym (same_length g f zs ys keep.kind) in
    let ax : All (IsElement g) xs = subst (λ s. All (IsElement s) xs) (sorts e g xs zs agree.kind) a.each in
    let ay : All (IsElement g) ys = subst (λ s. All (IsElement s) ys) (sym (sorts g f zs ys keep.kind)) b.each in
    record {
      each = All-from_get_or (IsElement g) zs (datum.Integer 0) (λ i within. element_after known g xs ys zs i (known i) refl mx my ax ay agree.elements keep.elements within);
      few = omega (arith, mx, a.few);
    }

pub contents_after : ContentsAfter
contents_after known whole (queue e xs) after l w agree keep = subst IsContents (agree.others (λ none. none)) l
contents_after known whole (table e m) after l w agree keep = subst IsContents (agree.others (λ none. none)) l
contents_after known whole (array e xs) (queue g zs) l w agree keep = absurd (array_queue (length xs) e g agree.kind)
contents_after known whole (array e xs) (table g m) l w agree keep = absurd (array_table (length xs) e g agree.kind)
contents_after known (array f ys) (array e xs) (array g zs) l w agree keep = array_after known e g f xs ys zs l w agree keep
contents_after known (queue f ys) (array e xs) (array g zs) l w agree keep = absurd (array_queue (length zs) g f keep.kind)
contents_after known (table f m) (array e xs) (array g zs) l w agree keep = absurd (array_table (length zs) g f keep.kind)

page_after : (pages : ℕ → Bool) (xs ys zs : List Datum) (k : ℕ) (b : Bool) → pages k ≡ b → IsContents (array elem.Integer xs) → IsContents (array elem.Integer ys) → IsContents (array elem.Integer zs) → length xs ≡ length zs → length ys ≡ length zs
    → ((j : ℕ) → by_page pages j ≡ true → ok_or (slice_get xs j) Index ≡ ok_or (slice_get zs j) Index) → ((j : ℕ) → by_page pages j ≡ false → ok_or (slice_get zs j) Index ≡ ok_or (slice_get ys j) Index)
    → page_at k (spelling (array elem.Integer zs)) ≡ (if b then page_at k (spelling (array elem.Integer xs)) else page_at k (spelling (array elem.Integer ys)))
page_after pages xs ys zs k true is x y z mx my agree keep = sym ((pages_tell k xs zs x z mx).1 (λ i in_page. some_same _ _ (agree i (ap pages in_page ∙ is))))
page_after pages xs ys zs k false is x y z mx my agree keep = (pages_tell k zs ys z y (sym my)).1 (λ i in_page. some_same _ _ (keep i (ap pages in_page ∙ is)))

pub pages_after : PagesAfter
pages_after pages n whole left after kind l w agree keep k =
    let x = as_integers n left kind in
    let z = as_integers n after (sym agree.kind ∙ kind) in
    let y = as_integers n whole (sym keep.kind ∙ sym agree.kind ∙ kind) in
    let agrees : AgreeAt (by_page pages) (array elem.Integer x.xs) (array elem.Integer z.xs) = subst (λ v. AgreeAt (by_page pages) v (array elem.Integer z.xs)) x.is (subst (λ v. AgreeAt (by_page pages) left v) z.is agree) in
    let keeps : KeepsAt (by_page pages) (array elem.Integer y.xs) (array elem.Integer z.xs) = subst (λ v. KeepsAt (by_page pages) v (array elem.Integer z.xs)) y.is (subst (λ v. KeepsAt (by_page pages) whole v) z.is keep) in
    let cx : IsContents (array elem.Integer x.xs) = subst IsContents x.is l in
    let cy : IsContents (array elem.Integer y.xs) = subst IsContents y.is w in
    let cz : IsContents (array elem.Integer z.xs) = subst IsContents z.is (contents_after (by_page pages) whole left after l w agree keep) in
    ap (λ v. page_at k (spelling v)) z.is
    ∙ page_after pages x.xs y.xs z.xs k (pages k) refl cx cy cz (x.many ∙ sym z.many) (y.many ∙ sym z.many) agrees.elements keeps.elements
    ∙ ap (λ (v : Contents). if pages k then page_at k (spelling v) else page_at k (spelling (array elem.Integer y.xs))) (sym x.is)
    ∙ ap (λ (v : Contents). if pages k then page_at k (spelling left) else page_at k (spelling v)) (sym y.is)

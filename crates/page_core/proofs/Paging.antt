-- Bytes that are put page by page.
use Rattle.std.proofs.Common.{◌≡◌, ℕ, zero, suc, ◌*◌, ◌<◌, ◌≤◌, inl, inr, List, [], ◌∷◌, ◌++◌, length, map, min, refl, sym, ap, ◌∙◌, subst, arith, append_assoc}
use Rattle.std.specs.List.{concat}
use Rattle.std.proofs.lemmas.Bool.{cases_lt}
use Rattle.std.proofs.lemmas.List.{append-nil, length-append, length-map}
use Rattle.device_core.specs.declared.hand.Stamp.{Stamp}
use Rattle.device_core.specs.Device.{Assignment, Holds, AreServed}
use Rattle.page_core.specs.Cut.{most_pages, page_sizes, IsFirstFor, IsPageSize, together, IsCut}
use Rattle.page_core.specs.Bytes.{AreCutBy}
use Rattle.page_core.proofs.Cuts.{few}
use Rattle.page_core.proofs.ListBytes.{some_same}
use Rattle.page_core.proofs.Planning.{cut_none, cut_more}
use Rattle.page_core.specs.Pages.{AreHeld, ArePut}

-- no bytes have no pages
pub put_none : (agrees : Assignment → Type 0) (serves : Stamp → Type 0) (size : ℕ) (bytes : List ℕ) (stamps : List Stamp) → length bytes ≡ 0 → ArePut agrees serves size bytes stamps stamps
put_none agrees serves size bytes stamps none = record {
  pages = [];
  cut = cut_none size bytes none;
  stamps = [];
  behind = sym (append-nil stamps);
  many = refl;
  held = λ a is. tt;
  served = λ p s is. absurd cc;
}

-- one page more in front can be read
served_more : (serves : Stamp → Type 0) (stamp : Stamp) (stamps : List Stamp) → serves stamp → AreServed serves stamps → AreServed serves (stamp ∷ stamps)
served_more serves stamp stamps one rest zero s is = subst (λ x. serves x) (some_same is) one
served_more serves stamp stamps one rest (suc p) s is = rest p s is

-- one page more in front
pub put_more : (mid agrees : Assignment → Type 0) (serving serves : Stamp → Type 0) (size : ℕ) (bytes page rest : List ℕ) (stamp : Stamp) (stamps stamps1 stamps2 : List Stamp)
    → 0 < size → 0 < length bytes → bytes ≡ page ++ rest → length page ≡ min size (length bytes)
    → stamps1 ≡ stamps ++ stamp ∷ [] → ((a : Assignment) → mid a → Holds a stamp page) → serving stamp
    → ((a : Assignment) → agrees a → mid a) → ((s : Stamp) → serving s → serves s)
    → ArePut agrees serves size rest stamps1 stamps2 → ArePut agrees serves size bytes stamps stamps2
put_more mid agrees serving serves size bytes page rest stamp stamps stamps1 stamps2 long some is len first holds one kept still behind = record {
  pages = page ∷ behind.pages;
  cut = cut_more size bytes page rest behind.pages long some is len behind.cut;
  stamps = stamp ∷ behind.stamps;
  behind = behind.behind ∙ ap (λ (l : List Stamp). l ++ behind.stamps) first ∙ append_assoc stamps (stamp ∷ []) behind.stamps;
  many = omega (arith, behind.many);
  held = λ a so. (holds a (kept a so), behind.held a so);
  served = served_more serves stamp behind.stamps (still stamp one) behind.served;
}

-- pages have together as many bytes as there are one behind the other
together_all : (pages : List (List ℕ)) → together (map length pages) ≡ length (concat pages)
together_all [] = refl
together_all (page ∷ pages) = omega (arith, together_all pages, length-append page (concat pages))

-- bytes that were cut into pages of the least size are a cut
pub is_cut : (size : ℕ) (bytes : List ℕ) (pages : List (List ℕ)) → 0 < length bytes → IsPageSize (length bytes) size → AreCutBy size bytes pages → IsCut bytes pages
is_cut size bytes pages some least cut =
    let many : together (map length pages) ≡ length bytes = together_all pages ∙ ap length cut.whole in
    record {
      whole = cut.whole;
      lens = record { some = omega (arith, some, many); size = size; least = subst (λ n. IsPageSize n size) (sym many) least; full = cut.full };
    }

-- a cut has from 1 to 8 pages
pub few_pages : (bytes : List ℕ) (pages : List (List ℕ)) → IsCut bytes pages → length pages ≤ 8
few_pages bytes pages cut = omega (arith, few (map length pages) cut.lens, length-map pages (λ (page : List ℕ). length page))

pub some_pages : (bytes : List ℕ) (pages : List (List ℕ)) → IsCut bytes pages → 0 < length pages
some_pages bytes [] cut = absurd (omega (arith, cut.lens.some))
some_pages bytes (page ∷ pages) cut = omega arith

-- 8 pages of none of these sizes hold so many bytes
abbrev AreBelow : ℕ → List ℕ → Type 0
AreBelow count [] = Unit {0}
AreBelow count (first ∷ more) = (most_pages * first < count) × AreBelow count more

all_below : (count : ℕ) (sizes : List ℕ) → ((size : ℕ) → IsFirstFor count sizes size → ⊥) → AreBelow count sizes
all_below count [] none = tt
all_below count (first ∷ more) none = elim (cases_lt (most_pages * first) count) [
  | inl lt ↦ (lt, all_below count more (λ size is. none size (inr (lt, is))))
  | inr le ↦ absurd (none first (inl (le, refl)))
]

-- so many bytes can be cut
pub has_size : (count : ℕ) → count ≤ 2097152 → ((size : ℕ) → IsPageSize count size → ⊥) → ⊥
has_size count fit none =
    let below : AreBelow count page_sizes = all_below count page_sizes none in
    omega (arith, fit, below.1.1.1.1.1.1.1.1.0)

-- the sizes of pages
each_some : (count : ℕ) (sizes : List ℕ) (size : ℕ) → 0 < count → IsFirstFor count sizes size → 0 < size
each_some count [] size some is = absurd is
each_some count (first ∷ more) size some (inl is) = omega (arith, some, is.0, is.1)
each_some count (first ∷ more) size some (inr is) = each_some count more size some is.1

pub some_size : (count size : ℕ) → 0 < count → IsPageSize count size → 0 < size
some_size count size some is = each_some count page_sizes size some is

-- the stamps of all pages, where there were none before: those of a cut, from 1 to 8, which can be read
pub all_put : (agrees : Assignment → Type 0) (serves : Stamp → Type 0) (size : ℕ) (bytes : List ℕ) (before after : List Stamp) → before ≡ [] → 0 < length bytes → IsPageSize (length bytes) size → ArePut agrees serves size bytes before after
    → ((pages : List (List ℕ)) × IsCut bytes pages × ((a : Assignment) → agrees a → AreHeld a after pages)) × (0 < length after) × (length after ≤ 8) × AreServed serves after
all_put agrees serves size bytes before after none some least put =
    let cut : IsCut bytes put.pages = is_cut size bytes put.pages some least put.cut in
    let all : after ≡ put.stamps = put.behind ∙ ap (λ (l : List Stamp). l ++ put.stamps) none in
    let many : length after ≡ length put.pages = ap length all ∙ put.many in (
      (put.pages, cut, λ a is. subst (λ (l : List Stamp). AreHeld a l put.pages) (sym all) (put.held a is)),
      omega (arith, many, some_pages bytes put.pages cut),
      omega (arith, many, few_pages bytes put.pages cut),
      subst (λ (l : List Stamp). AreServed serves l) (sym all) put.served,
    )

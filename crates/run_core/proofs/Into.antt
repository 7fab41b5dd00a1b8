-- A page that is read into its place.
use Rattle.std.proofs.Common.{◌≡◌, ◌≢◌, ℕ, zero, suc, ◌+◌, ◌-◌, ◌*◌, ◌<◌, ◌≤◌, ◌⊎◌, inl, inr, List, [], ◌∷◌, ◌++◌, length, take, drop, Option, Some, None, refl, sym, ap, ◌∙◌, subst, arith, length-append}
use Rattle.std.specs.Prelude.{slice_get, slice_set}
use Rattle.std.specs.Int.{bit_at}
use Rattle.std.proofs.lemmas.Bool.{cases_lt, cases_eq}
use Rattle.std.proofs.lemmas.List.{take_all, take_at, drop_at, take-take, drop-take, length-drop, length-take-le, append-nil}
use Rattle.std.proofs.lemmas.Option.{slice_get_within}
use Rattle.value_core.specs.declared.kind.Elem.TheVariants as elem
use Rattle.value_core.specs.declared.kind.Kind.TheVariants as kind
use Rattle.value_bytes.specs.Laws.{AreBytes}
use Rattle.device_core.specs.declared.hand.Stamp.{Stamp}
use Rattle.device_core.specs.Device.{Assignment, Shows, bytes_of}
use Rattle.apply_core.specs.Pages.{page_bytes, page_at}
use Rattle.page_core.specs.Bytes.{one_behind, list_bytes, AreWhole, IsPage}
use Rattle.page_core.specs.Cut.{lengths, AreFull}
use Rattle.page_core.specs.PartPins.{pin_at}
use Rattle.page_core.proofs.ListBytes.{some_same, page_long}
use Rattle.page_core.proofs.Reading.{shows_page}
use Rattle.page_core.proofs.Renewing.{set_same, set_other}
use Rattle.known_core.specs.Masks.{IsOneMore}
use Rattle.known_core.specs.Wanted.{IsWanted, IsFull}
use Rattle.run_core.specs.Verdicts.{ReadAs}
use Rattle.run_core.specs.Grown.{IsReadInto}
use Rattle.run_core.specs.Reads.{AreKnown}
use Rattle.run_core.proofs.Growing.{known_grows}
use Rattle.page_core.specs.CallPins.{Call}
use Rattle.page_core.specs.Truths.{PinHolds, PinsAreWhole}
use Rattle.run_core.specs.Placed.{IsPlaced}
use Rattle.run_core.specs.Seen.{IsPaged, IsSeen}
use Rattle.run_core.proofs.Lists.{drop_more}
use Rattle.run_core.proofs.SeenWholes.{wholes_under, whole_at, holds_whole, holds_once}

-- some bytes in front of a list whose bytes are there
split_bytes : (a : Assignment) (page : Stamp) (more : List Stamp) (got : List ℕ) → one_behind (bytes_of a page) (list_bytes a more) ≡ Some got → (b : List ℕ) × (r : List ℕ) × (bytes_of a page ≡ Some b) × (list_bytes a more ≡ Some r) × (b ++ r ≡ got)
split_bytes a page more got is = split (bytes_of a page) (list_bytes a more) refl refl is where
  split : (first rest : Option (List ℕ)) → bytes_of a page ≡ first → list_bytes a more ≡ rest → one_behind (bytes_of a page) (list_bytes a more) ≡ Some got → (b : List ℕ) × (r : List ℕ) × (bytes_of a page ≡ Some b) × (list_bytes a more ≡ Some r) × (b ++ r ≡ got)
  split None rest first_is rest_is all = absurd (let e : None ≡ Some got = sym (ap (λ o. one_behind o (list_bytes a more)) first_is) ∙ all in cc)
  split (Some b) None first_is rest_is all = absurd (let e : None ≡ Some got = sym (ap (one_behind (Some b)) rest_is) ∙ sym (ap (λ o. one_behind o (list_bytes a more)) first_is) ∙ all in cc)
  split (Some b) (Some r) first_is rest_is all = (b, r, first_is, rest_is, some_same (sym (ap (one_behind (Some b)) rest_is) ∙ sym (ap (λ o. one_behind o (list_bytes a more)) first_is) ∙ all))

-- a page of a list whose pages are full but for the last
record IsPageIn (a : Assignment) (stamp : Stamp) (k : ℕ) (whole : List ℕ) : Type 0 where
  page : IsPage a stamp (page_at k whole)
  few : stamp.len ≤ 1024
  last : (stamp.len ≡ 1024) ⊎ (1024 * k + stamp.len ≡ length whole)

page_in : (a : Assignment) (pages : List Stamp) (k : ℕ) (stamp : Stamp) (whole : List ℕ) → list_bytes a pages ≡ Some whole → AreWhole a pages → AreFull page_bytes (lengths pages) → slice_get pages k ≡ Some stamp → IsPageIn a stamp k whole
page_in a [] k stamp whole there are full at = absurd cc
page_in a (p ∷ []) zero stamp whole there are full at =
    let s = split_bytes a p [] whole there in
    let page : IsPage a p s.0 = record { whole = are.0; there = s.2 } in
    let only : s.0 ≡ whole = sym (append-nil s.0) ∙ ap (λ (r : List ℕ). s.0 ++ r) (some_same s.3) ∙ s.4 in
    let long : length whole ≡ p.len = ap length (sym only) ∙ page_long a p s.0 page in
    let all : s.0 ≡ page_at 0 whole = only ∙ sym (take_all 1024 whole (omega (arith, long, full.0.1))) in
    subst (λ q. IsPageIn a q 0 whole) (some_same at)
    (record { page = subst (IsPage a p) all page; few = full.0.1; last = inr (omega (arith, long)) })
page_in a (p ∷ next ∷ more) zero stamp whole there are full at =
    let s = split_bytes a p (next ∷ more) whole there in
    let page : IsPage a p s.0 = record { whole = are.0; there = s.2 } in
    let long : length s.0 ≡ 1024 = page_long a p s.0 page ∙ full.0 in
    let first : s.0 ≡ page_at 0 whole = sym (take_at s.0 s.1 1024 long) ∙ ap (page_at 0) s.4 in
    subst (λ q. IsPageIn a q 0 whole) (some_same at)
    (record { page = subst (IsPage a p) first page; few = omega (arith, full.0); last = inl full.0 })
page_in a (p ∷ []) (suc k) stamp whole there are full at = absurd cc
page_in a (p ∷ next ∷ more) (suc k) stamp whole there are full at =
    let s = split_bytes a p (next ∷ more) whole there in
    let page : IsPage a p s.0 = record { whole = are.0; there = s.2 } in
    let long : length s.0 ≡ 1024 = page_long a p s.0 page ∙ full.0 in
    let behind : IsPageIn a stamp k s.1 = page_in a (next ∷ more) k stamp s.1 s.3 are.1 full.1 at in
    let place : 1024 + 1024 * k ≡ 1024 * suc k = omega arith in
    let rest : s.1 ≡ drop 1024 whole = sym (drop_at s.0 s.1 1024 long) ∙ ap (drop 1024) s.4 in
    let same : page_at k s.1 ≡ page_at (suc k) whole = ap (page_at k) rest ∙ ap (take 1024) (drop_more 1024 (1024 * k) whole ∙ ap (λ n. drop n whole) place) in
    record {
      page = subst (IsPage a stamp) same behind.page;
      few = behind.few;
      last = elim behind.last [
        | inl is ↦ inl is
        | inr is ↦ inr (omega (arith, is, place, long, length-append s.0 s.1, ap length s.4))
      ];
    }

one_page : (a : Assignment) (stamp : Stamp) (one other : List ℕ) → IsPage a stamp one → IsPage a stamp other → one ≡ other
one_page a stamp one other here there = some_same (sym here.there ∙ there.there)

-- what was read into its place
module _ (k at count : ℕ) (before after : List ℕ) (place : at ≡ 1024 * k) (few : count ≤ 1024) (within : at + count ≤ length before) (placed : IsPlaced at count before after) (last : (count ≡ 1024) ⊎ (at + count ≡ length before)) where
  -- its page is what was read
  pub stands : page_at k after ≡ take count (drop at after)
  stands = by last where
    by : (count ≡ 1024) ⊎ (at + count ≡ length before) → page_at k after ≡ take count (drop at after)
    by (inl is) = ap (λ n. take 1024 (drop n after)) (sym place) ∙ ap (λ n. take n (drop at after)) (sym is)
    by (inr end) =
        let long : length (drop at after) ≡ count = omega (arith, length-drop at after, placed.long, end) in
        ap (λ n. take 1024 (drop n after)) (sym place) ∙ take_all 1024 (drop at after) (omega (arith, long, few)) ∙ sym (take_all count (drop at after) (omega (arith, long)))

  -- and no other page is another one
  pub stays : (j : ℕ) → j ≢ k → page_at j after ≡ page_at j before
  stays j differ = by (cases_lt j k) where
    front : (bytes : List ℕ) → j < k → page_at j bytes ≡ drop (1024 * j) (take (1024 * j + 1024) (take at bytes))
    front bytes less = sym (drop-take (1024 * j) 1024 bytes) ∙ ap (drop (1024 * j)) (sym (take-take (1024 * j + 1024) at bytes (omega (arith, place, less))))

    behind : (bytes : List ℕ) → k < j → page_at j bytes ≡ take 1024 (drop (1024 * j - (at + count)) (drop (at + count) bytes))
    behind bytes more =
        let far : (at + count) + (1024 * j - (at + count)) ≡ 1024 * j = omega (arith, place, few, more) in
        ap (take 1024) (ap (λ n. drop n bytes) (sym far) ∙ sym (drop_more (at + count) (1024 * j - (at + count)) bytes))

    by : (j < k) ⊎ (k ≤ j) → page_at j after ≡ page_at j before
    by (inl less) = front after less ∙ ap (λ (f : List ℕ). drop (1024 * j) (take (1024 * j + 1024) f)) placed.front ∙ sym (front before less)
    by (inr far) =
        let more : k < j = later (cases_lt k j) in
        behind after more ∙ ap (λ (f : List ℕ). take 1024 (drop (1024 * j - (at + count)) f)) placed.behind ∙ sym (behind before more) where
          later : (k < j) ⊎ (j ≤ k) → k < j
          later (inl h) = h
          later (inr h) = absurd (differ (omega (arith, h, far)))

-- with a page more that was read, all is seen
module _ (a : Assignment) (call : Call) (part page at : ℕ) (stamp : Stamp) (pages : List Stamp) (masks new : List ℕ) (read : List (List ℕ)) (filled fresh : List ℕ) (place : at ≡ 1024 * page) (was : slice_get read part ≡ Some filled) (within : at + stamp.len ≤ length filled) (placed : IsPlaced at stamp.len filled fresh)
    (are : AreBytes fresh) (shown : Shows a stamp.number 0 (take stamp.len (drop at fresh))) (more : IsOneMore masks new part page) (paged : IsPaged call part) (pinned : pin_at call.pins part ≡ Some pages) (there : slice_get pages page ≡ Some stamp) (pins : PinsAreWhole a call) (seen : IsSeen a call masks read) where
  abbrev after : List (List ℕ)
  after = slice_set read part fresh

  abbrev whole : List ℕ
  whole = (pins part (kind.Array paged.wanted.many elem.Integer) pages paged.wanted.named pinned).bytes

  held : PinHolds a call.pins part whole
  held = (pages, pinned, (pins part (kind.Array paged.wanted.many elem.Integer) pages paged.wanted.named pinned).there)

  in_list : IsPageIn a stamp page whole
  in_list =
      let w = pins part (kind.Array paged.wanted.many elem.Integer) pages paged.wanted.named pinned in
      page_in a pages page stamp w.bytes w.there w.whole (subst (λ (l : List Stamp). AreFull page_bytes (lengths l)) (some_same (sym paged.pinned ∙ pinned)) paged.full) there

  long : length filled ≡ length whole
  long =
      let h = seen.known part (kind.Array paged.wanted.many elem.Integer) paged.wanted.named in
      omega (arith, ap length (some_same (sym h.there ∙ was)), ap length (holds_once a call.pins part h.whole whole h.held held), h.known.long)

  end : (stamp.len ≡ 1024) ⊎ (at + stamp.len ≡ length filled)
  end = elim in_list.last [
    | inl is ↦ inl is
    | inr is ↦ inr (omega (arith, is, place, long))
  ]

  stands_page : page_at page fresh ≡ page_at page whole
  stands_page =
      let bytes : List ℕ = take stamp.len (drop at fresh) in
      let count : length bytes ≡ stamp.len = length-take-le stamp.len (drop at fresh) (omega (arith, length-drop at fresh, placed.long, within)) in
      stands page at stamp.len filled fresh place in_list.few within placed end ∙ one_page a stamp bytes (page_at page whole) (shows_page a stamp bytes shown count) in_list.page

  into : IsReadInto part page read after (page_at page whole)
  into = record {
    filled = filled;
    was = was;
    fresh = fresh;
    now = set_same read part fresh (slice_get_within read part filled was);
    others = λ q differ. set_other read part q fresh differ;
    bytes = are;
    long = placed.long;
    stands = stands_page;
    pages = stays page at stamp.len filled fresh place in_list.few within placed end;
  }

  abbrev wholes : List (List ℕ)
  wholes = wholes_under a call.pins read

  grown : AreKnown new call.operation after (ReadAs wholes)
  grown =
      known_grows call.operation masks new part page read after wholes whole paged.wanted more (whole_at a call.pins read part filled whole was held) into
      (λ p k name. let h = seen.known p k name in record { filled = h.filled; there = h.there; whole = h.whole; held = whole_at a call.pins read p h.filled h.whole h.there h.held; known = h.known })

  pub seen_more : IsSeen a call new after
  seen_more = record {
    known = λ p k name.
        let h = grown p k name in
        let old = seen.known p k name in
        record { filled = h.filled; there = h.there; whole = h.whole; held = holds_whole a call.pins read p old.filled old.whole h.whole old.there old.held h.held; known = h.known };
    split = λ p wanted. split_at p wanted (cases_eq p part);
    rest = λ p small not. more.others p (λ is. not (subst (IsWanted call.operation) (sym is) paged.wanted)) ∙ seen.rest p small not;
  } where
    split_at : (p : ℕ) → IsWanted call.operation p → (p ≡ part) ⊎ (p ≡ part → ⊥) → IsPaged call p ⊎ IsFull new p
    split_at p wanted (inl is) = inl (subst (IsPaged call) (sym is) paged)
    split_at p wanted (inr differ) = elim (seen.split p wanted) [
      | inl page ↦ inl page
      | inr full ↦ inr (λ k few. ap (λ m. bit_at m k) (more.others p differ) ∙ full k few)
    ]

-- What is read of a part is taken.
use Rattle.std.proofs.Common.{◌≡◌, ◌≢◌, ℕ, ◌+◌, ◌-◌, ◌<◌, ◌≤◌, ◌⊎◌, inl, inr, List, [], ◌∷◌, ◌++◌, length, take, drop, replicate, Some, refl, sym, ap, ◌∙◌, subst, arith, length-append}
use Rattle.std.specs.Prelude.{◌==◌, slice_get, slice_index}
use Rattle.std.specs.Int.{bit_at}
use Rattle.std.proofs.lemmas.Bool.{cases_lt, cases_eq}
use Rattle.std.proofs.lemmas.List.{take_all, take_at, take-append-drop, length-drop, length-replicate}
use Rattle.value_core.specs.declared.kind.Elem.TheVariants as elem
use Rattle.value_core.specs.declared.kind.Kind.{Kind}
use Rattle.value_core.specs.declared.kind.Kind.TheVariants as kind
use Rattle.value_bytes.specs.Laws.{AreBytes}
use Rattle.device_core.specs.declared.hand.Stamp.{Stamp}
use Rattle.device_core.specs.Device.{Assignment}
use Rattle.apply_core.specs.Fits.{IsNamed}
use Rattle.apply_core.specs.Pages.{page_bytes, page_at, HasFrame}
use Rattle.apply_core.proofs.PieceSpelled.{frame_is_due}
use Rattle.page_core.specs.Bytes.{list_bytes, AreWhole, IsPage}
use Rattle.page_core.specs.Cut.{lengths, together, AreFull}
use Rattle.page_core.specs.PartPins.{pin_at}
use Rattle.page_core.proofs.ListBytes.{some_same, page_long, are_split}
use Rattle.known_core.specs.Filled.{IsFilled}
use Rattle.known_core.specs.Wanted.{IsWanted, IsFull}
use Rattle.known_core.proofs.Filling.{frame_on}
use Rattle.known_core.proofs.Fitting.{is_full}
use Rattle.page_core.specs.Given.{IsDamaged}
use Rattle.run_core.specs.Reads.{pages_of, IsKnownAs, IsKnownPart}
use Rattle.run_core.proofs.Completing.{kind_once}
use Rattle.run_core.proofs.Growing.{first_is_known}
use Rattle.page_core.specs.CallPins.{Call}
use Rattle.run_core.specs.Read.{PinIsRead}
use Rattle.page_core.specs.Truths.{PinHolds, PinsAreWhole}
use Rattle.run_core.specs.Seen.{IsPaged, IsPartRead, IsSeenBefore}
use Rattle.run_core.proofs.Lists.{both_bytes, front_bytes, zero_bytes, empty}
use Rattle.run_core.proofs.Rows.{with_row, row_before, row_at}
use Rattle.run_core.proofs.SeenWholes.{list_long}

-- what is known by one mask is known by another that is the same there
same_mask : (k : Kind) (m n : ℕ) (filled whole : List ℕ) → n ≡ m → IsKnownAs k (λ j. bit_at m j == 1) filled whole → IsKnownAs k (λ j. bit_at n j == 1) filled whole
same_mask k m n filled whole is h = subst (λ o. IsKnownAs k (λ j. bit_at o j == 1) filled whole) (sym is) h

-- one part more, of which this is put in its place
module _ (a : Assignment) (call : Call) (part : ℕ) (masks new : List ℕ) (read after : List (List ℕ)) (filled : List ℕ) (low : length read ≤ part) (put : after ≡ with_row read part filled) (others : (q : ℕ) → q ≢ part → slice_index new q ≡ slice_index masks q) (so : IsSeenBefore a call part masks read) where
  pub takes : ((k : Kind) → IsNamed call.operation part k → (whole : List ℕ) × PinHolds a call.pins part whole × IsKnownAs k (pages_of new part) filled whole) → (IsWanted call.operation part → IsPaged call part ⊎ IsFull new part)
      → ((IsWanted call.operation part → ⊥) → part < 16 → slice_index new part ≡ 255) → IsSeenBefore a call (part + 1) new after
  takes own own_split own_rest = record {
    known = λ p k named before. known_at p k named before (cases_eq p part);
    split = λ p before wanted. split_at p before wanted (cases_eq p part);
    rest = λ p small not. rest_at p small not (cases_eq p part);
  } where
    earlier : (p : ℕ) → p < part + 1 → (p ≡ part → ⊥) → p < part
    earlier p before differ = elim (cases_lt p part) [ inl less ↦ less | inr far ↦ absurd (differ (omega (arith, before, far))) ]

    known_at : (p : ℕ) (k : Kind) → IsNamed call.operation p k → p < part + 1 → (p ≡ part) ⊎ (p ≡ part → ⊥) → IsKnownPart new after (PinHolds a call.pins) p k
    known_at p k named before (inl is) =
        let mine = own k (subst (λ q. IsNamed call.operation q k) is named) in
        subst (λ q. IsKnownPart new after (PinHolds a call.pins) q k) (sym is)
        (record { filled = filled; there = ap (λ (rows : List (List ℕ)). slice_get rows part) put ∙ row_at read part filled low; whole = mine.0; held = mine.1; known = mine.2 })
    known_at p k named before (inr differ) =
        let h = so.known p k named (earlier p before differ) in
        record { filled = h.filled; there = ap (λ (rows : List (List ℕ)). slice_get rows p) put ∙ row_before read part p filled h.filled h.there; whole = h.whole; held = h.held; known = same_mask k (slice_index masks p) (slice_index new p) h.filled h.whole (others p differ) h.known }

    split_at : (p : ℕ) → p < part + 1 → IsWanted call.operation p → (p ≡ part) ⊎ (p ≡ part → ⊥) → IsPaged call p ⊎ IsFull new p
    split_at p before wanted (inl is) = subst (λ q. IsPaged call q ⊎ IsFull new q) (sym is) (own_split (subst (IsWanted call.operation) is wanted))
    split_at p before wanted (inr differ) = elim (so.split p (earlier p before differ) wanted) [
      | inl paged ↦ inl paged
      | inr full ↦ inr (λ k few. ap (λ m. bit_at m k) (others p differ) ∙ full k few)
    ]

    rest_at : (p : ℕ) → p < 16 → (p < part + 1 → IsWanted call.operation p → ⊥) → (p ≡ part) ⊎ (p ≡ part → ⊥) → slice_index new p ≡ 255
    rest_at p small not (inl is) =
        ap (slice_index new) is ∙ own_rest (λ wanted. not (omega (arith, is)) (subst (IsWanted call.operation) (sym is) wanted)) (omega (arith, is, small))
    rest_at p small not (inr differ) = others p differ ∙ so.rest p small (λ before wanted. not (omega (arith, before)) wanted)

-- a part that is read whole
pub takes_whole : (a : Assignment) (call : Call) (part : ℕ) (masks : List ℕ) (read after : List (List ℕ)) (got : List ℕ) → part < 16 → length read ≤ part → after ≡ with_row read part got → PinsAreWhole a call → PinIsRead a call.pins part got → IsSeenBefore a call part masks read → IsSeenBefore a call (part + 1) masks after
takes_whole a call part masks read after got small low put pins holds so =
    takes a call part masks masks read after got low put (λ q differ. refl) so (λ k named. (got, (holds.0, holds.1, holds.2), known k named)) (λ wanted. inr (is_full masks part mask)) (λ not less. mask) where
      mask : slice_index masks part ≡ 255
      mask = so.rest part small (λ before wanted. absurd (omega (arith, before)))

      filled : AreBytes got → IsFilled (pages_of masks part) got got
      filled are = record { long = refl; bytes = are; read = are; first = ap (λ m. bit_at m 0 == 1) mask; same = λ k known. refl }

      known : (k : Kind) → IsNamed call.operation part k → IsKnownAs k (pages_of masks part) got got
      known (kind.Array n elem.Integer) named =
          let w = pins part (kind.Array n elem.Integer) holds.0 named holds.1 in
          filled (subst AreBytes (some_same (sym w.there ∙ holds.2)) w.are)
      known (kind.Array n elem.Text) named = refl
      known (kind.Queue e) named = refl
      known (kind.Table e) named = refl

-- the first page of a list, as long as the whole list
abbrev pub zeros_behind : List ℕ → ℕ → List ℕ
zeros_behind got len = take len got ++ replicate (len - length got) 0

-- it is as the whole bytes are, as far as it is known
record IsFrontOf (whole filled : List ℕ) : Type 0 where
  long : length whole ≡ length filled
  page : page_at 0 whole ≡ page_at 0 filled
  are : AreBytes filled

long_zeros : (got : List ℕ) (len : ℕ) → length got ≤ len → length (zeros_behind got len) ≡ len
long_zeros got len low =
    let all : length (take len got) ≡ length got = ap length (take_all len got low) in
    omega (arith, length-append (take len got) (replicate (len - length got) 0), length-replicate {A = ℕ} (len - length got) 0, all, low)

front_of : (a : Assignment) (pages : List Stamp) (whole got : List ℕ) (len : ℕ) → list_bytes a pages ≡ Some whole → AreWhole a pages → AreFull page_bytes (lengths pages) → len ≡ together (lengths pages) → ((stamp : Stamp) → slice_get pages 0 ≡ Some stamp → IsPage a stamp got) → AreBytes whole
    → IsFrontOf whole (zeros_behind got len)
front_of a [] whole got len there are full many first bytes =
    let none : [] ≡ whole = some_same there in
    let nothing : zeros_behind got len ≡ [] = empty (zeros_behind got len) (omega (arith, length-append (take len got) (replicate (len - length got) 0), length-replicate {A = ℕ} (len - length got) 0, ap (λ n. length (take n got)) many, many)) in
    let same : whole ≡ zeros_behind got len = sym none ∙ sym nothing in
    record { long = ap length same; page = ap (page_at 0) same; are = subst AreBytes same bytes }
front_of a (stamp ∷ more) whole got len there are full many first bytes = at more full refl where
  page : IsPage a stamp got
  page = first stamp refl

  len_got : length got ≡ stamp.len
  len_got = page_long a stamp got page

  got_is : got ≡ take stamp.len whole
  got_is = some_same (sym page.there ∙ (are_split a (stamp ∷ more) whole there are).0.there)

  rest : List ℕ
  rest = drop stamp.len whole

  whole_is : whole ≡ got ++ rest
  whole_is = sym (take-append-drop stamp.len whole) ∙ ap (λ (f : List ℕ). f ++ rest) (sym got_is)

  long_whole : length whole ≡ len
  long_whole = sym (list_long a (stamp ∷ more) whole there are) ∙ sym many

  low : length got ≤ len
  low = omega (arith, many, len_got)

  zeros : List ℕ
  zeros = replicate (len - length got) 0

  filled_is : zeros_behind got len ≡ got ++ zeros
  filled_is = ap (λ (f : List ℕ). f ++ zeros) (take_all len got low)

  result : page_at 0 whole ≡ page_at 0 (zeros_behind got len) → IsFrontOf whole (zeros_behind got len)
  result same = record {
    long = long_whole ∙ sym (long_zeros got len low);
    page = same;
    are = subst AreBytes (sym filled_is) (both_bytes got zeros (front_bytes got rest (subst AreBytes whole_is bytes)) (zero_bytes (len - length got)));
  }

  at : (m : List Stamp) → AreFull page_bytes (lengths (stamp ∷ m)) → more ≡ m → IsFrontOf whole (zeros_behind got len)
  at [] f is =
      let only : len ≡ stamp.len = many ∙ ap (λ (l : List Stamp). stamp.len + together (lengths l)) is ∙ omega arith in
      let no_rest : rest ≡ [] = empty rest (omega (arith, length-drop stamp.len whole, long_whole, only)) in
      let no_zeros : zeros ≡ [] = empty zeros (omega (arith, length-replicate {A = ℕ} (len - length got) 0, only, len_got)) in
      result (ap (page_at 0) (whole_is ∙ ap (λ (r : List ℕ). got ++ r) (no_rest ∙ sym no_zeros) ∙ sym filled_is))
  at (next ∷ m) f is =
      let one : length got ≡ 1024 = len_got ∙ f.0 in
      result (ap (page_at 0) whole_is ∙ take_at got rest 1024 one ∙ sym (take_at got zeros 1024 one) ∙ ap (page_at 0) (sym filled_is))

-- a part that is read page by page, of which the first page was read
module _ (a : Assignment) (call : Call) (part count len : ℕ) (pages : List Stamp) (got filled : List ℕ) (paged : IsPaged call part) (named : IsNamed call.operation part (kind.Array count elem.Integer)) (pinned : pin_at call.pins part ≡ Some pages) (many : len ≡ together (lengths pages)) (is : filled ≡ zeros_behind got len) (pins : PinsAreWhole a call)
    (read_is : IsPartRead a call part 0 got) where
  abbrev whole : List ℕ
  whole = (pins part (kind.Array count elem.Integer) pages named pinned).bytes

  held : PinHolds a call.pins part whole
  held = (pages, pinned, (pins part (kind.Array count elem.Integer) pages named pinned).there)

  full : AreFull page_bytes (lengths pages)
  full = subst (λ (l : List Stamp). AreFull page_bytes (lengths l)) (some_same (sym paged.pinned ∙ pinned)) paged.full

  front : IsFrontOf whole filled
  front =
      let w = pins part (kind.Array count elem.Integer) pages named pinned in
      subst (IsFrontOf whole) (sym is) (front_of a pages w.bytes got len w.there w.whole full many (λ stamp first. read_is.first (paged, refl) pages stamp pinned first) w.are)

  pub front_damaged : (HasFrame count filled → ⊥) → IsDamaged (PinHolds a call.pins) call.operation
  front_damaged miss = record {
    p = part;
    kind = kind.Array count elem.Integer;
    named = named;
    bytes = whole;
    there = held;
    spell_none = λ value spells. miss (frame_on count whole filled (sym front.long) (sym front.page) (frame_is_due count whole value spells).0);
  }

  pub front_taken : (masks new : List ℕ) (read after : List (List ℕ)) → length read ≤ part → after ≡ with_row read part filled → slice_index new part ≡ 1 → ((q : ℕ) → q ≢ part → slice_index new q ≡ slice_index masks q) → IsSeenBefore a call part masks read → IsSeenBefore a call (part + 1) new after
  front_taken masks new read after low put mask others so =
      takes a call part masks new read after filled low put others so
      (λ k name. (whole, held, subst (λ l. IsKnownAs l (pages_of new part) filled whole) (kind_once call.operation part (kind.Array count elem.Integer) k named name) known))
      (λ wanted. inl paged) (λ not small. absurd (not paged.wanted)) where
        known : IsFilled (pages_of new part) filled whole
        known = first_is_known new part filled whole mask front.are (pins part (kind.Array count elem.Integer) pages named pinned).are front.long front.page

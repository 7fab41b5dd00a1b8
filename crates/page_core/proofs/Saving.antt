-- Parts saved one after the other.
use Rattle.std.proofs.Common.{◌≡◌, ℕ, ◌+◌, ◌<◌, ◌≤◌, ◌⊎◌, inl, inr, List, [], ◌∷◌, ◌++◌, length, take, Some, refl, sym, ap, subst, ◌∙◌, arith}
use Rattle.std.specs.Prelude.{slice_get}
use Rattle.std.specs.FinMap.{insert}
use Rattle.std.proofs.lemmas.List.{length-append}
use Rattle.std.proofs.lemmas.Option.{slice_get_within}
use Rattle.decl_core.specs.declared.object.Part.{Part}
use Rattle.device_core.specs.declared.hand.Stamp.{Stamp}
use Rattle.page_core.specs.declared.save.SaveFault.{SaveFault}
use Rattle.page_core.specs.declared.save.SaveFault.TheVariants.{Damaged, Device, Memory}
use Rattle.device_core.specs.Device.{Assignment, Failed, Always}
use Rattle.device_core.specs.Papers.{Papers, part_key}
use Rattle.page_core.specs.Saved.{IsFetched, AreFetched, with_parts, IsDamagedPin, SaveCause, PinSaveCause, IsSavedTo, IsStored, MaySave, SaveLeaves, PartLeft, PartLeaves, StoreCause, StoreLeaves}
use Rattle.page_core.proofs.Opening.{failed_since}

-- the bytes of one part more are fetched
more : (a : Assignment) (parts : List Part) (pins : List (List Stamp)) (all : List (List ℕ)) (part : Part) (pin : List Stamp) (bytes : List ℕ) →
    AreFetched a parts pins all → IsFetched a part pin bytes → AreFetched a (parts ++ part ∷ []) (pins ++ pin ∷ []) (all ++ bytes ∷ [])
more a [] [] [] part pin bytes so_far one = (one, tt)
more a [] [] (b ∷ all) part pin bytes so_far one = absurd so_far
more a [] (p ∷ pins) all part pin bytes so_far one = absurd so_far
more a (q ∷ parts) [] all part pin bytes so_far one = absurd so_far
more a (q ∷ parts) (p ∷ pins) [] part pin bytes so_far one = absurd so_far
more a (q ∷ parts) (p ∷ pins) (b ∷ all) part pin bytes so_far one = (so_far.0, more a parts pins all part pin bytes so_far.1 one)

-- the bytes of one part more are stored
with_more : (papers : Papers) (object : List ℕ) (parts : List Part) (all : List (List ℕ)) (part : Part) (bytes : List ℕ) → length all ≡ length parts →
    with_parts papers object (parts ++ part ∷ []) (all ++ bytes ∷ []) ≡ insert (with_parts papers object parts all) (part_key object part.name) bytes
with_more papers object [] [] part bytes same = refl
with_more papers object [] (b ∷ all) part bytes same = absurd (omega (arith, same))
with_more papers object (q ∷ parts) [] part bytes same = absurd (omega (arith, same))
with_more papers object (q ∷ parts) (b ∷ all) part bytes same = with_more (insert papers (part_key object q.name) b) object parts all part bytes (omega (arith, same))

-- Some parts are saved. So far the devices were driven from these states on.
pub record Saving (was holds : Papers → Type 0) (earlier agrees : Assignment → Type 0) (early serves : Stamp → Type 0) (fresh works_for : ℕ → Type 0) (s t h k : ℕ) (object : List ℕ) (parts : List Part) (pins : List (List Stamp)) : Type 0 where
  pub all : List (List ℕ)
  pub many : length all ≡ length parts
  pub fetched : (a : Assignment) → agrees a → AreFetched a parts pins all
  pub stored : (papers : Papers) → holds papers → (before : Papers) × was before × (papers ≡ with_parts before object parts all)
  pub files : (a : Assignment) → agrees a → earlier a
  pub kept : (s : Stamp) → early s → serves s
  pub works : Always fresh → Always works_for
  pub shelf : s ≤ t
  pub hand : h ≤ k

pub start : (holds : Papers → Type 0) (agrees : Assignment → Type 0) (serves : Stamp → Type 0) (works_for : ℕ → Type 0) (s h : ℕ) (object : List ℕ) → Saving holds holds agrees agrees serves serves works_for works_for s s h h object [] []
start holds agrees serves works_for s h object = record {
  all = [];
  many = refl;
  fetched = λ a so. tt;
  stored = λ papers is. (papers, is, refl);
  files = λ a so. so;
  kept = λ s is. is;
  works = λ always. always;
  shelf = omega arith;
  hand = omega arith;
}

pub next : {was mid : Papers → Type 0} {earlier then : Assignment → Type 0} {early serving : Stamp → Type 0} {fresh mid_works : ℕ → Type 0} {s t u h k m : ℕ} {object : List ℕ} {parts : List Part} {pins : List (List Stamp)} (holds : Papers → Type 0) (agrees : Assignment → Type 0) (serves : Stamp → Type 0) (works_for : ℕ → Type 0) (part : Part) (pin : List Stamp) →
    Saving was mid earlier then early serving fresh mid_works s t h k object parts pins →
    (bytes : List ℕ) × ((a : Assignment) → agrees a → IsFetched a part pin bytes) × ((papers : Papers) → holds papers → (before : Papers) × mid before × (papers ≡ insert before (part_key object part.name) bytes)) →
    ((a : Assignment) → agrees a → then a) → ((s : Stamp) → serving s → serves s) → (Always mid_works → Always works_for) → t ≤ u → k ≤ m →
    Saving was holds earlier agrees early serves fresh works_for s u h m object (parts ++ part ∷ []) (pins ++ pin ∷ [])
next {was = was} {object = object} {parts = parts} {pins = pins} holds agrees serves works_for part pin so one files kept works shelf hand =
    let stored : (papers : Papers) → holds papers → (before : Papers) × was before × (papers ≡ with_parts before object (parts ++ part ∷ []) (so.all ++ one.0 ∷ [])) = λ papers is.
    let last = one.2 papers is in
    let first = so.stored last.0 last.1 in
    (first.0, first.1, last.2 ∙ ap (λ p. insert p (part_key object part.name) one.0) first.2 ∙ sym (with_more first.0 object parts so.all part one.0 so.many)) in
    record {
      all = so.all ++ one.0 ∷ [];
      many = omega (arith, length-append so.all (one.0 ∷ []), length-append parts (part ∷ []), so.many);
      fetched = λ a is. more a parts pins so.all part pin one.0 (so.fetched a (files a is)) (one.1 a is);
      stored = stored;
      files = λ a is. so.files a (files a is);
      kept = λ s is. kept s (so.kept s is);
      works = λ always. works (so.works always);
      shelf = omega (arith, so.shelf, shelf);
      hand = omega (arith, so.hand, hand);
    }

-- why a part was not saved is why they all were not
pub since : {was mid : Papers → Type 0} {earlier then : Assignment → Type 0} {early serving : Stamp → Type 0} {fresh mid_works : ℕ → Type 0} {s t u h k m : ℕ} {object : List ℕ} {parts : List Part} {pins : List (List Stamp)} (agrees : Assignment → Type 0) (all : List Part) (stamps : List (List Stamp)) (part : Part) (pin : List Stamp) (number : ℕ) →
    slice_get all number ≡ Some part → slice_get stamps number ≡ Some pin → Saving was mid earlier then early serving fresh mid_works s t h k object parts pins → t ≤ u → k ≤ m →
    (e : SaveFault) → PinSaveCause agrees part pin number (Failed t u ⊎ Failed k m) e → SaveCause agrees all stamps (Failed s u ⊎ Failed h m) e
since agrees all stamps part pin number there under so shelf hand (Damaged n) cause = λ a is. subst (λ j. IsDamagedPin a all stamps j) (sym cause.0) (record { part = part; pin = pin; part_there = there; pin_there = under; damaged = cause.1 a is })
since {s = s} {t = t} {u = u} {h = h} {k = k} {m = m} agrees all stamps part pin number there under so shelf hand (Device n) cause = (subst (λ j. j < length all) (sym cause.0) (slice_get_within all number part there), either cause.1) where
  either : Failed t u ⊎ Failed k m → Failed s u ⊎ Failed h m
  either (inl f) = inl (failed_since s t u so.shelf shelf f)
  either (inr f) = inr (failed_since h k m so.hand hand f)
since agrees all stamps part pin number there under so shelf hand Memory cause = tt

-- nothing of the next part is stored
none_of : {was mid : Papers → Type 0} {earlier then : Assignment → Type 0} {early serving : Stamp → Type 0} {fresh mid_works : ℕ → Type 0} {s t h k : ℕ} {object : List ℕ} (agrees : Assignment → Type 0) (all : List Part) (pins : List (List Stamp)) (n : ℕ) →
    Saving was mid earlier then early serving fresh mid_works s t h k object (take n all) (take n pins) → ((a : Assignment) → agrees a → then a) →
    (last papers : Papers) → mid last → papers ≡ last → (before : Papers) × was before × IsSavedTo agrees before papers object all pins n
none_of agrees all pins n so files last papers is same =
    let first = so.stored last is in
    (first.0, first.1, record { all = so.all; fetched = λ a with. so.fetched a (files a with); many = so.many; stored = same ∙ first.2 })

-- the next part is stored
one_more : {was mid : Papers → Type 0} {earlier then : Assignment → Type 0} {early serving : Stamp → Type 0} {fresh mid_works : ℕ → Type 0} {s t h k : ℕ} {object : List ℕ} (agrees : Assignment → Type 0) (all : List Part) (pins : List (List Stamp)) (part : Part) (pin : List Stamp) (n : ℕ) →
    take (n + 1) all ≡ take n all ++ part ∷ [] → take (n + 1) pins ≡ take n pins ++ pin ∷ [] →
    Saving was mid earlier then early serving fresh mid_works s t h k object (take n all) (take n pins) → ((a : Assignment) → agrees a → then a) →
    (last papers : Papers) → mid last → IsStored agrees last papers object part pin → (before : Papers) × was before × IsSavedTo agrees before papers object all pins (n + 1)
one_more {object = object} agrees all pins part pin n longer further so files last papers is one =
    let first = so.stored last is in
    let rows : List (List ℕ) = so.all ++ one.bytes ∷ [] in
    let fetched : (a : Assignment) → agrees a → AreFetched a (take (n + 1) all) (take (n + 1) pins) rows = λ a with.
    rw (longer, further) (more a (take n all) (take n pins) so.all part pin one.bytes (so.fetched a (files a with)) (one.fetched a with)) in
    let many : length rows ≡ length (take (n + 1) all) = omega (arith, length-append so.all (one.bytes ∷ []), ap length longer, length-append (take n all) (part ∷ []), so.many) in
    let stored : papers ≡ with_parts first.0 object (take (n + 1) all) rows =
    one.stored ∙ ap (λ p. insert p (part_key object part.name) one.bytes) first.2 ∙ sym (with_more first.0 object (take n all) so.all part one.bytes so.many) ∙ ap (λ ps. with_parts first.0 object ps rows) (sym longer) in
    (first.0, first.1, record { all = rows; fetched = fetched; many = many; stored = stored })

-- what a refused part leaves is what the call leaves
pub leaves : {was mid : Papers → Type 0} {earlier then : Assignment → Type 0} {early serving : Stamp → Type 0} {fresh mid_works : ℕ → Type 0} {s t h k : ℕ} {object : List ℕ} (holds : Papers → Type 0) (agrees : Assignment → Type 0) (failed : Type 0) (all : List Part) (pins : List (List Stamp)) (part : Part) (pin : List Stamp) (n : ℕ) →
    take (n + 1) all ≡ take n all ++ part ∷ [] → take (n + 1) pins ≡ take n pins ++ pin ∷ [] →
    Saving was mid earlier then early serving fresh mid_works s t h k object (take n all) (take n pins) → ((a : Assignment) → agrees a → then a) →
    (e : SaveFault) → PinSaveCause agrees part pin n failed e → PartLeaves agrees mid holds object part pin e → SaveLeaves agrees was holds object all pins e
leaves holds agrees failed all pins part pin n longer further so files (Damaged m) cause left papers is =
    let one = left papers is in
    let rest = none_of agrees all pins n so files one.0 papers one.1 one.2 in
    (rest.0, rest.1, n, sym cause.0, rest.2)
leaves {was = was} {mid = mid} {object = object} holds agrees failed all pins part pin n longer further so files (Device m) cause left papers is = either (left papers is) where
  either : (last : Papers) × mid last × PartLeft agrees last papers object part pin (Device m) → (before : Papers) × was before × (k : ℕ) × MaySave (Device m) k × IsSavedTo agrees before papers object all pins k
  either (last, there, inl same) =
      let rest = none_of agrees all pins n so files last papers there same in
      (rest.0, rest.1, n, inl (sym cause.0), rest.2)
  either (last, there, inr one) =
      let rest = one_more agrees all pins part pin n longer further so files last papers there one in
      (rest.0, rest.1, n + 1, inr (ap (λ j. j + 1) (sym cause.0)), rest.2)
leaves {was = was} {mid = mid} {object = object} holds agrees failed all pins part pin n longer further so files Memory cause left papers is = either (left papers is) where
  either : (last : Papers) × mid last × PartLeft agrees last papers object part pin Memory → (before : Papers) × was before × (k : ℕ) × MaySave Memory k × IsSavedTo agrees before papers object all pins k
  either (last, there, inl same) =
      let rest = none_of agrees all pins n so files last papers there same in
      (rest.0, rest.1, n, tt, rest.2)
  either (last, there, inr one) =
      let rest = one_more agrees all pins part pin n longer further so files last papers there one in
      (rest.0, rest.1, n + 1, tt, rest.2)

-- what a failed store leaves is what its part leaves
pub stored_or_not : (agrees : Assignment → Type 0) (was holds : Papers → Type 0) (object : List ℕ) (part : Part) (pin : List Stamp) (bytes : List ℕ) (number : ℕ) (failed : Type 0) →
    ((a : Assignment) → agrees a → IsFetched a part pin bytes) → (e : SaveFault) → StoreCause number failed e → StoreLeaves was holds (part_key object part.name) bytes →
    PartLeaves agrees was holds object part pin e
stored_or_not agrees was holds object part pin bytes number failed fetched (Damaged n) cause left papers is = absurd cause
stored_or_not agrees was holds object part pin bytes number failed fetched (Device n) cause left papers is = either (left papers is) where
  either : (before : Papers) × was before × ((papers ≡ before) ⊎ (papers ≡ insert before (part_key object part.name) bytes)) → (before : Papers) × was before × PartLeft agrees before papers object part pin (Device n)
  either (before, there, inl same) = (before, there, inl same)
  either (before, there, inr new) = (before, there, inr (record { bytes = bytes; fetched = fetched; stored = new }))
stored_or_not agrees was holds object part pin bytes number failed fetched Memory cause left papers is = either (left papers is) where
  either : (before : Papers) × was before × ((papers ≡ before) ⊎ (papers ≡ insert before (part_key object part.name) bytes)) → (before : Papers) × was before × PartLeft agrees before papers object part pin Memory
  either (before, there, inl same) = (before, there, inl same)
  either (before, there, inr new) = (before, there, inr (record { bytes = bytes; fetched = fetched; stored = new }))

-- where nothing was stored, nothing is left of a part
pub nothing_left : (agrees : Assignment → Type 0) (holds : Papers → Type 0) (object : List ℕ) (part : Part) (pin : List Stamp) (e : SaveFault) → PartLeaves agrees holds holds object part pin e
nothing_left agrees holds object part pin (Damaged n) papers is = (papers, is, refl)
nothing_left agrees holds object part pin (Device n) papers is = (papers, is, inl refl)
nothing_left agrees holds object part pin Memory papers is = (papers, is, inl refl)

-- over a hand that works the shelf failed
pub shelf_since : {was mid : Papers → Type 0} {earlier then : Assignment → Type 0} {early serving : Stamp → Type 0} {fresh mid_works : ℕ → Type 0} {s t u h k : ℕ} {object : List ℕ} {parts : List Part} {pins : List (List Stamp)} →
    Saving was mid earlier then early serving fresh mid_works s t h k object parts pins → t ≤ u → Failed t u → Failed s u
shelf_since {s = s} {t = t} {u = u} so shelf f = failed_since s t u so.shelf shelf f

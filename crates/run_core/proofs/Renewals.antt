-- Changed parts, one after the other, and the counts of their pages.
use Rattle.std.proofs.Common.{◌≡◌, ℕ, zero, suc, ◌+◌, ◌-◌, ◌<◌, ◌≤◌, List, [], ◌∷◌, ◌++◌, length, map, Some, refl, sym, ap, ◌∙◌, subst, arith, append_assoc, length-append}
use Rattle.std.specs.Prelude.{slice_get}
use Rattle.std.specs.List.{concat}
use Rattle.std.proofs.lemmas.List.{append-nil, length-map}
use Rattle.device_core.specs.declared.hand.Stamp.{Stamp}
use Rattle.page_core.specs.declared.plan.PageWrite.{PageWrite}
use Rattle.page_core.specs.Bytes.{AreCutBy, split_by}
use Rattle.page_core.specs.Cut.{IsPageSize, AreCutLengths, AreFull, together, lengths}
use Rattle.page_core.specs.Plans.{IsPlan}
use Rattle.page_core.specs.Laws.{PartRenewal, ArePlanned, no_part, one_part}
use Rattle.page_core.specs.PartPins.{PartPin, pin_at}
use Rattle.page_core.specs.Renewed.{ArePlaces}
use Rattle.page_core.proofs.Cuts.{few}
use Rattle.page_core.proofs.ListBytes.{some_same}
use Rattle.page_core.proofs.Renewing.{plan_many, plan_places}
use Rattle.run_core.specs.declared.judge.Change.{Change}
use Rattle.run_core.specs.Changed.{AreWithin}
use Rattle.run_core.specs.CallPlanned.{IsRenewalOf, AreRenewals, IsPlanned, IsPlannedChange, ArePlansFrom, AreShort}
use Rattle.run_core.specs.CallPlanned.{no_part as no_change, same, renewed}

-- the pages of a cut are some, and at most 8
together_concat : (pages : List (List ℕ)) → together (map length pages) ≡ length (concat pages)
together_concat [] = refl
together_concat (page ∷ pages) = omega (arith, length-append page (concat pages), together_concat pages)

pub some_pages : (size : ℕ) (bytes : List ℕ) (pages : List (List ℕ)) → AreCutBy size bytes pages → 0 < length bytes → 0 < length pages
some_pages size bytes [] cut some = absurd (omega (arith, ap length cut.whole, some))
some_pages size bytes (page ∷ pages) cut some = omega arith

pub few_pages : (size : ℕ) (bytes : List ℕ) (pages : List (List ℕ)) → IsPageSize (length bytes) size → AreCutBy size bytes pages → 0 < length bytes → length pages ≤ 8
few_pages size bytes pages least cut some =
    let count : length bytes ≡ together (map length pages) = ap length (sym cut.whole) ∙ sym (together_concat pages) in
    let lens : AreCutLengths (map length pages) = record { some = omega (arith, some, count); size = size; least = subst (λ n. IsPageSize n size) count least; full = cut.full } in
    omega (arith, few (map length pages) lens, length-map pages length)

-- what was added to a row of stamps are as many as the pages
pub plan_adds_many : (size : ℕ) (olds : List Stamp) (before after : List ℕ) (stamps stamps1 : List Stamp) (writes writes1 : List PageWrite) (gone gone1 : List Stamp) (p : IsPlan size olds before after stamps stamps1 writes writes1 gone gone1)
    → length stamps1 ≡ length stamps + length p.pages
plan_adds_many size olds before after stamps stamps1 writes writes1 gone gone1 p =
    omega (arith, ap length p.stamps_are, length-append stamps p.more_stamps, plan_many (length stamps) olds (split_by (lengths olds) before) p.pages p.more_stamps p.more_writes p.more_gone p.plans)

module _ (size : ℕ) (olds : List Stamp) (before after : List ℕ) (stamps stamps1 : List Stamp) (writes writes1 : List PageWrite) (gone gone1 : List Stamp) (p : IsPlan size olds before after stamps stamps1 writes writes1 gone gone1)
    (least : IsPageSize (length after) size) (some : 0 < length after) (n m : ℕ) (old_many : m ≡ length stamps) (new_many : n ≡ length stamps1) where
  -- what was added are the pages of a changed part, at most 8
  pub count_few : n - m ≤ 8
  count_few = omega (arith, old_many, new_many, plan_adds_many size olds before after stamps stamps1 writes writes1 gone gone1 p, few_pages size after p.pages least p.cut some)

  pub planned_change : (pins : List PartPin) (read : List (List ℕ)) (change : Change) → pin_at pins change.part ≡ Some olds → slice_get read change.part ≡ Some before → after ≡ change.bytes
      → IsPlannedChange pins read change (n - m) stamps stamps1 writes writes1 gone gone1
  planned_change pins read change pinned there is = record {
    olds = olds;
    before = before;
    pinned = pinned;
    there = there;
    size = size;
    least = subst (λ (b : List ℕ). IsPageSize (length b) size) is least;
    plan = record {
      pages = p.pages;
      cut = subst (λ (b : List ℕ). AreCutBy size b p.pages) is p.cut;
      more_stamps = p.more_stamps;
      more_writes = p.more_writes;
      more_gone = p.more_gone;
      stamps_are = p.stamps_are;
      writes_are = p.writes_are;
      gone_are = p.gone_are;
      plans = p.plans;
    };
    some = some_pages size after p.pages p.cut some;
    counted = omega (arith, old_many, new_many, plan_adds_many size olds before after stamps stamps1 writes writes1 gone gone1 p);
  }

module _ (pins : List PartPin) (read : List (List ℕ)) where
  -- no change from this part on
  none_renewed : (from : ℕ) (counts : List ℕ) → together counts ≡ 0 → AreRenewals pins read from [] [] counts
  none_renewed from [] none = no_change
  none_renewed from (zero ∷ counts) none = same [] [] counts (none_renewed (from + 1) counts (omega (arith, none)))
  none_renewed from (suc n ∷ counts) none = absurd (omega (arith, none))

  pub none_from : (from : ℕ) (counts : List ℕ) (stamps : List Stamp) (writes : List PageWrite) (gone : List Stamp) → together counts ≡ 0 → ArePlansFrom pins read from [] counts stamps stamps writes writes gone gone
  none_from from counts stamps writes gone none = record {
    parts = [];
    renewals = none_renewed from counts none;
    more_stamps = [];
    more_writes = [];
    more_gone = [];
    stamps_are = sym (append-nil stamps);
    writes_are = sym (append-nil writes);
    gone_are = sym (append-nil gone);
    plans = no_part;
  }

  -- no change is left
  pub none_at : (from : ℕ) (changes : List Change) (counts : List ℕ) (stamps : List Stamp) (writes : List PageWrite) (gone : List Stamp) → changes ≡ [] → together counts ≡ 0 → ArePlansFrom pins read from changes counts stamps stamps writes writes gone gone
  none_at from changes counts stamps writes gone empty none = subst (λ (l : List Change). ArePlansFrom pins read from l counts stamps stamps writes writes gone gone) (sym empty) (none_from from counts stamps writes gone none)

  -- what was added to empty rows is a plan
  pub planned_from_empty : (changes : List Change) (counts : List ℕ) (no_stamps stamps : List Stamp) (no_writes writes : List PageWrite) (none_gone gone : List Stamp) → ArePlansFrom pins read 0 changes counts no_stamps stamps no_writes writes none_gone gone
      → no_stamps ≡ [] → no_writes ≡ [] → none_gone ≡ [] → IsPlanned pins read changes counts stamps writes gone
  planned_from_empty changes counts no_stamps stamps no_writes writes none_gone gone p stamps_none writes_none gone_none =
      let stamps_are : stamps ≡ p.more_stamps = p.stamps_are ∙ ap (λ (s : List Stamp). s ++ p.more_stamps) stamps_none in
      let writes_are : writes ≡ p.more_writes = p.writes_are ∙ ap (λ (s : List PageWrite). s ++ p.more_writes) writes_none in
      let gone_are : gone ≡ p.more_gone = p.gone_are ∙ ap (λ (s : List Stamp). s ++ p.more_gone) gone_none in
      record {
        parts = p.parts;
        renewals = p.renewals;
        plans = subst (λ (s : List Stamp). ArePlanned 0 p.parts s writes gone) (sym stamps_are)
            (subst (λ (l : List PageWrite). ArePlanned 0 p.parts p.more_stamps l gone) (sym writes_are)
            (subst (λ (g : List Stamp). ArePlanned 0 p.parts p.more_stamps p.more_writes g) (sym gone_are)
            (subst (λ n. ArePlanned n p.parts p.more_stamps p.more_writes p.more_gone) (ap length stamps_none) p.plans)));
      }

  -- this part is as it was
  pub same_from : (from : ℕ) (changes : List Change) (counts : List ℕ) (stamps stamps1 : List Stamp) (writes writes1 : List PageWrite) (gone gone1 : List Stamp) → ArePlansFrom pins read (from + 1) changes counts stamps stamps1 writes writes1 gone gone1
      → ArePlansFrom pins read from changes (0 ∷ counts) stamps stamps1 writes writes1 gone gone1
  same_from from changes counts stamps stamps1 writes writes1 gone gone1 p = record {
    parts = p.parts;
    renewals = same changes p.parts counts p.renewals;
    more_stamps = p.more_stamps;
    more_writes = p.more_writes;
    more_gone = p.more_gone;
    stamps_are = p.stamps_are;
    writes_are = p.writes_are;
    gone_are = p.gone_are;
    plans = p.plans;
  }

  -- this part is changed
  pub one_from : (from : ℕ) (change : Change) (changes : List Change) (count : ℕ) (counts : List ℕ) (stamps stamps1 stamps2 : List Stamp) (writes writes1 writes2 : List PageWrite) (gone gone1 gone2 : List Stamp)
      → change.part ≡ from → IsPlannedChange pins read change count stamps stamps1 writes writes1 gone gone1 → ArePlansFrom pins read (from + 1) changes counts stamps1 stamps2 writes1 writes2 gone1 gone2
      → ArePlansFrom pins read from (change ∷ changes) (count ∷ counts) stamps stamps2 writes writes2 gone gone2
  one_from from change changes count counts stamps stamps1 stamps2 writes writes1 writes2 gone gone1 gone2 at c p = record {
    parts = part ∷ p.parts;
    renewals = renewed change part changes p.parts counts count at (record { pinned = c.pinned; there = c.there; after = refl; size = c.size; least = c.least; cut = c.plan.cut; some = c.some }) c.counted p.renewals;
    more_stamps = c.plan.more_stamps ++ p.more_stamps;
    more_writes = c.plan.more_writes ++ p.more_writes;
    more_gone = c.plan.more_gone ++ p.more_gone;
    stamps_are = p.stamps_are ∙ ap (λ (s : List Stamp). s ++ p.more_stamps) c.plan.stamps_are ∙ append_assoc stamps c.plan.more_stamps p.more_stamps;
    writes_are = p.writes_are ∙ ap (λ (s : List PageWrite). s ++ p.more_writes) c.plan.writes_are ∙ append_assoc writes c.plan.more_writes p.more_writes;
    gone_are = p.gone_are ∙ ap (λ (s : List Stamp). s ++ p.more_gone) c.plan.gone_are ∙ append_assoc gone c.plan.more_gone p.more_gone;
    plans = one_part part p.parts c.size c.plan.more_stamps p.more_stamps c.plan.more_writes p.more_writes c.plan.more_gone p.more_gone c.plan.cut c.plan.plans
        (subst (λ n. ArePlanned n p.parts p.more_stamps p.more_writes p.more_gone) (omega (arith, ap length c.plan.stamps_are, length-append stamps c.plan.more_stamps)) p.plans);
  } where
    part : PartRenewal
    part = record { olds = c.olds; before = c.before; after = change.bytes; pages = c.plan.pages }

-- no change at all
pub none_planned : (pins : List PartPin) (read : List (List ℕ)) (counts : List ℕ) (stamps : List Stamp) (writes : List PageWrite) (gone : List Stamp) → together counts ≡ 0 → stamps ≡ [] → writes ≡ [] → gone ≡ [] → IsPlanned pins read [] counts stamps writes gone
none_planned pins read counts stamps writes gone none no_stamps no_writes none_gone =
    subst (λ (s : List Stamp). IsPlanned pins read [] counts s writes gone) (sym no_stamps)
    (subst (λ (w : List PageWrite). IsPlanned pins read [] counts [] w gone) (sym no_writes)
    (subst (λ (g : List Stamp). IsPlanned pins read [] counts [] [] g) (sym none_gone) (record { parts = []; renewals = none_renewed pins read 0 counts none; plans = no_part })))

-- where there is no place there is no change
pub no_room : (from end : ℕ) (changes : List Change) → end ≤ from → AreWithin from end changes → changes ≡ []
no_room from end [] low within = refl
no_room from end (change ∷ changes) low within = absurd (omega (arith, low, within.0, within.1))

-- how many pages parts have
abbrev pub pages_of_all : List PartRenewal → ℕ
pages_of_all [] = 0
pages_of_all (part ∷ rest) = length part.pages + pages_of_all rest

pub planned_many : (place : ℕ) (parts : List PartRenewal) (stamps : List Stamp) (writes : List PageWrite) (gone : List Stamp) → ArePlanned place parts stamps writes gone → length stamps ≡ pages_of_all parts
planned_many place parts stamps writes gone no_part = refl
planned_many place parts stamps writes gone (one_part part rest size first second first_writes second_writes first_gone second_gone cut plan behind) =
    omega (arith, length-append first second, plan_many place part.olds (split_by (lengths part.olds) part.before) part.pages first first_writes first_gone plan, planned_many (place + length first) rest second second_writes second_gone behind)

pub renewed_many : (pins : List PartPin) (read : List (List ℕ)) (from : ℕ) (changes : List Change) (parts : List PartRenewal) (counts : List ℕ) → AreRenewals pins read from changes parts counts → together counts ≡ pages_of_all parts
renewed_many pins read from changes parts counts no_change = refl
renewed_many pins read from changes parts counts (same changes1 parts1 rest r) = omega (arith, renewed_many pins read (from + 1) changes parts rest r)
renewed_many pins read from changes parts counts (renewed change part changes1 parts1 rest count at is counted r) = omega (arith, counted, renewed_many pins read (from + 1) changes1 parts1 rest r)

-- each write has a place among the stamps
places_both : (count : ℕ) (first second : List PageWrite) → ArePlaces count first → ArePlaces count second → ArePlaces count (first ++ second)
places_both count [] second one two = two
places_both count (write ∷ first) second one two = (one.0, places_both count first second one.1 two)

planned_places : (place count : ℕ) (parts : List PartRenewal) (stamps : List Stamp) (writes : List PageWrite) (gone : List Stamp) → ArePlanned place parts stamps writes gone → place + length stamps ≤ count → ArePlaces count writes
planned_places place count parts stamps writes gone no_part low = tt
planned_places place count parts stamps writes gone (one_part part rest size first second first_writes second_writes first_gone second_gone cut plan behind) low =
    places_both count first_writes second_writes
    (plan_places place part.olds (split_by (lengths part.olds) part.before) part.pages first first_writes first_gone count plan (omega (arith, low, length-append first second)))
    (planned_places (place + length first) count rest second second_writes second_gone behind (omega (arith, low, length-append first second)))

get_place : (count : ℕ) (writes : List PageWrite) → ArePlaces count writes → (k : ℕ) (write : PageWrite) → slice_get writes k ≡ Some write → write.place < count
get_place count [] are k write is = absurd cc
get_place count (w ∷ writes) are zero write is = subst (λ (x : PageWrite). x.place < count) (some_same is) are.0
get_place count (w ∷ writes) are (suc k) write is = get_place count writes are.1 k write is

pub each_place : (parts : List PartRenewal) (stamps : List Stamp) (writes : List PageWrite) (gone : List Stamp) → ArePlanned 0 parts stamps writes gone → (k : ℕ) (write : PageWrite) → slice_get writes k ≡ Some write → write.place < length stamps
each_place parts stamps writes gone plan = get_place (length stamps) writes (planned_places 0 (length stamps) parts stamps writes gone plan (omega arith))

-- the counts of a plan count its stamps
pub counts_are : (pins : List PartPin) (read : List (List ℕ)) (changes : List Change) (counts : List ℕ) (stamps : List Stamp) (writes : List PageWrite) (gone : List Stamp) → IsPlanned pins read changes counts stamps writes gone → together counts ≡ length stamps
counts_are pins read changes counts stamps writes gone p = renewed_many pins read 0 changes p.parts counts p.renewals ∙ sym (planned_many 0 p.parts stamps writes gone p.plans)

-- the pages of a cut have some bytes
full_some : (size : ℕ) (pages : List (List ℕ)) → AreFull size (map length pages) → 0 < length pages → 0 < together (map length pages)
full_some size [] full some = some
full_some size (page ∷ []) full some = omega (arith, full.0.0)
full_some size (page ∷ next ∷ more) full some = omega (arith, full_some size (next ∷ more) full.1 (omega arith))

-- a changed part has at most 8 pages
renewal_few : (pins : List PartPin) (read : List (List ℕ)) (change : Change) (part : PartRenewal) → IsRenewalOf pins read change part → length part.pages ≤ 8
renewal_few pins read change part is =
    let count : length change.bytes ≡ together (map length part.pages) = ap length (sym (is.cut.whole ∙ is.after)) ∙ sym (together_concat part.pages) in
    let lens : AreCutLengths (map length part.pages) = record { some = full_some is.size part.pages is.cut.full is.some; size = is.size; least = subst (λ n. IsPageSize n is.size) count is.least; full = is.cut.full } in
    omega (arith, few (map length part.pages) lens, length-map part.pages length)

front_short : (count : ℕ) (counts : List ℕ) → count ≤ 8 → AreShort counts → AreShort (count ∷ counts)
front_short count counts low behind zero n is = subst (λ m. m ≤ 8) (some_same is) low
front_short count counts low behind (suc k) n is = behind k n is

pub renewals_short : (pins : List PartPin) (read : List (List ℕ)) (from : ℕ) (changes : List Change) (parts : List PartRenewal) (counts : List ℕ) → AreRenewals pins read from changes parts counts → AreShort counts
renewals_short pins read from changes parts counts no_change = λ k n is. absurd cc
renewals_short pins read from changes parts counts (same changes1 parts1 rest r) = front_short 0 rest (omega arith) (renewals_short pins read (from + 1) changes parts rest r)
renewals_short pins read from changes parts counts (renewed change part changes1 parts1 rest count at is counted r) =
    front_short count rest (omega (arith, counted, renewal_few pins read change part is)) (renewals_short pins read (from + 1) changes1 parts1 rest r)

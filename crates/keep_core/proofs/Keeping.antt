-- Parts that are stored one after the other, and traces.
use Rattle.std.proofs.Common.{◌≡◌, ◌∙◌, ap, sym, subst, refl, ℕ, zero, suc, ◌+◌, ◌<◌, ◌≤◌, ◌⊎◌, inl, inr, List, [], ◌∷◌, ◌++◌, length, take, Bool, true, false, Option, Some, None, Result, Ok, Err, arith}
use Rattle.std.specs.Prelude.{slice_get, IsTrue, OnOk, OnErr}
use Rattle.std.specs.FinMap.{insert}
use Rattle.std.proofs.lemmas.List.{length-take}
use Rattle.std.proofs.lemmas.Option.{none-some}
use Rattle.std.proofs.lemmas.Bool.{false≢true}
use Rattle.value_core.specs.declared.machine.LinesFault.{LinesFault}
use Rattle.value_core.specs.declared.machine.LinesFault.TheVariants.{WriteFault, Memory}
use Rattle.decl_core.specs.declared.object.Object.{Object}
use Rattle.decl_core.specs.declared.object.Part.{Part}
use Rattle.device_core.specs.declared.hand.HandFault.{HandFault}
use Rattle.device_core.specs.declared.hand.HandFault.TheVariants as hand
use Rattle.device_core.specs.declared.hand.Stamp.{Stamp}
use Rattle.device_core.specs.Device.{Assignment}
use Rattle.device_core.specs.Papers.{Papers, part_key}
use Rattle.page_core.specs.declared.save.SaveFault.{SaveFault}
use Rattle.page_core.specs.declared.save.SaveFault.TheVariants.{Damaged, Device}
use Rattle.page_core.specs.declared.save.SaveFault.TheVariants as save
use Rattle.page_core.specs.Saved.{IsFetched, AreFetched, with_parts, IsDamagedPin, IsSavedTo, MaySave, PartLeaves, PartLeft, PinSaveCause, SaveLeaves, StoreLeaves}
use Rattle.page_core.specs.Lists.{Every, Among}
use Rattle.keep_core.specs.declared.trouble.Trouble.{Trouble}
use Rattle.keep_core.specs.Troubles.{first_of, fault_in}
use Rattle.keep_core.specs.Lines.{AreSaid, AreTold, IsOfClosing, damaged_line, damaged_lines}
use Rattle.keep_core.specs.Kept.{Stored, with_stores, IsOfPart, IsOfPin, HasStore, AreStored, refused_by, Saves, damaged_by, IsMetBy, Notes, fault_by, stored_times, StoresText, Traces}
use Rattle.keep_core.proofs.Telling.{nothing_said, said_then, first_none, second_none, first_first, closing_first, met_not}

-- it holds of each of some and of each of others
every_then : {X : Type 0} (P : X → Type 0) (xs ys : List X) → Every P xs → Every P ys → Every P (xs ++ ys)
every_then P [] ys one two = two
every_then P (x ∷ xs) ys (here, one) two = (here, every_then P xs ys one two)

among_left : {X : Type 0} (x : X) (xs ys : List X) → Among x xs → Among x (xs ++ ys)
among_left x [] ys there = absurd there
among_left x (y ∷ xs) ys (inl same) = inl same
among_left x (y ∷ xs) ys (inr there) = inr (among_left x xs ys there)

among_right : {X : Type 0} (x : X) (xs ys : List X) → Among x ys → Among x (xs ++ ys)
among_right x [] ys there = there
among_right x (y ∷ xs) ys there = inr (among_right x xs ys there)

-- a number is below another one or not
or_behind : (a b : ℕ) → (a < b) ⊎ (b ≤ a)
or_behind a zero = inr (omega arith)
or_behind zero (suc b) = inl (omega arith)
or_behind (suc a) (suc b) = further (or_behind a b) where
  further : (a < b) ⊎ (b ≤ a) → (suc a < suc b) ⊎ (suc b ≤ suc a)
  further (inl below) = inl (omega (arith, below))
  further (inr behind) = inr (omega (arith, behind))

-- an item of a front of a list is one of the list
take_get : {X : Type 0} (k : ℕ) (xs : List X) (j : ℕ) (x : X) → slice_get (take k xs) j ≡ Some x → slice_get xs j ≡ Some x
take_get zero [] j x is = is
take_get zero (y ∷ ys) j x is = absurd (none-some x is)
take_get (suc k) [] j x is = is
take_get (suc k) (y ∷ ys) zero x is = is
take_get (suc k) (y ∷ ys) (suc j) x is = take_get k ys j x is

-- the stores of parts, of which the first has this place
abbrev stores_of : ℕ → List Part → List (List ℕ) → List Stored
stores_of n [] all = []
stores_of n (part ∷ parts) [] = []
stores_of n (part ∷ parts) (bytes ∷ all) = record { place = n; part = part; bytes = bytes } ∷ stores_of (suc n) parts all

with_parts_is : (papers : Papers) (object : List ℕ) (n : ℕ) (parts : List Part) (all : List (List ℕ)) → with_parts papers object parts all ≡ with_stores papers object (stores_of n parts all)
with_parts_is papers object n [] all = refl
with_parts_is papers object n (part ∷ parts) [] = refl
with_parts_is papers object n (part ∷ parts) (bytes ∷ all) = with_parts_is (insert papers (part_key object part.name) bytes) object (suc n) parts all

of_parts : (whole : List Part) (n : ℕ) (parts : List Part) (all : List (List ℕ)) → ((j : ℕ) (part : Part) → slice_get parts j ≡ Some part → slice_get whole (j + n) ≡ Some part) → Every (IsOfPart whole) (stores_of n parts all)
of_parts whole n [] all at = tt
of_parts whole n (part ∷ parts) [] at = tt
of_parts whole n (part ∷ parts) (bytes ∷ all) at = (
  subst (λ (k : ℕ). slice_get whole k ≡ Some part) (omega arith) (at 0 part refl),
  of_parts whole (suc n) parts all (λ j next is. subst (λ (k : ℕ). slice_get whole k ≡ Some next) (omega arith) (at (suc j) next is)),
)

of_pins : (a : Assignment) (whole : List (List Stamp)) (n : ℕ) (parts : List Part) (pins : List (List Stamp)) (all : List (List ℕ)) → AreFetched a parts pins all →
    ((j : ℕ) (pin : List Stamp) → slice_get pins j ≡ Some pin → slice_get whole (j + n) ≡ Some pin) → Every (IsOfPin a whole) (stores_of n parts all)
of_pins a whole n [] pins all fetched at = tt
of_pins a whole n (part ∷ parts) [] all fetched at = absurd fetched
of_pins a whole n (part ∷ parts) (pin ∷ pins) [] fetched at = absurd fetched
of_pins a whole n (part ∷ parts) (pin ∷ pins) (bytes ∷ all) fetched at = (
  (pin, subst (λ (k : ℕ). slice_get whole k ≡ Some pin) (omega arith) (at 0 pin refl), fetched.0),
  of_pins a whole (suc n) parts pins all fetched.1 (λ j next is. subst (λ (k : ℕ). slice_get whole k ≡ Some next) (omega arith) (at (suc j) next is)),
)

-- each part has a store
has_store : (n : ℕ) (parts : List Part) (all : List (List ℕ)) (d : ℕ) → length all ≡ length parts → d < length parts → HasStore (stores_of n parts all) (d + n)
has_store n [] all d same within = absurd (omega (arith, within))
has_store n (part ∷ parts) [] d same within = absurd (omega (arith, same))
has_store n (part ∷ parts) (bytes ∷ all) zero same within = (record { place = n; part = part; bytes = bytes }, inl refl, omega arith)
has_store n (part ∷ parts) (bytes ∷ all) (suc d) same within =
    let later = has_store (suc n) parts all d (omega (arith, same)) (omega (arith, within)) in
    (later.0, inr later.1, later.2 ∙ omega arith)

-- what is stored after some stores, and then others
with_stores_then : (papers : Papers) (object : List ℕ) (one two : List Stored) → with_stores papers object (one ++ two) ≡ with_stores (with_stores papers object one) object two
with_stores_then papers object [] two = refl
with_stores_then papers object (s ∷ one) two = with_stores_then (insert papers (part_key object s.part.name) s.bytes) object one two

-- some first parts are saved
stored_front : {agrees : Assignment → Type 0} {object : Object} {pins : List (List Stamp)} {base papers : Papers} (first k : ℕ) → first ≤ k → IsSavedTo agrees base papers object.name object.parts.items pins k →
    AreStored agrees object pins 0 first true base papers
stored_front {object = object} {pins = pins} {base = base} first k before so =
    let parts = object.parts.items in
    record {
      stores = stores_of 0 (take k parts) so.all;
      parts = of_parts parts 0 (take k parts) so.all (λ j part is. subst (λ (i : ℕ). slice_get parts i ≡ Some part) (omega arith) (take_get k parts j part is));
      pinned = λ a is. of_pins a pins 0 (take k parts) (take k pins) so.all (so.fetched a is) (λ j pin there. subst (λ (i : ℕ). slice_get pins i ≡ Some pin) (omega arith) (take_get k pins j pin there));
      after = so.stored ∙ with_parts_is base object.name 0 (take k parts) so.all;
      whole = λ whole place from to within.
          subst (λ (i : ℕ). HasStore (stores_of 0 (take k parts) so.all) i) (omega arith) (has_store 0 (take k parts) so.all place so.many (omega (arith, length-take k parts, before, to, within)));
    }

-- all parts are saved
pub stored_all : {agrees : Assignment → Type 0} {object : Object} {pins : List (List Stamp)} {base papers : Papers} (all : List (List ℕ)) →
    ((a : Assignment) → agrees a → AreFetched a object.parts.items pins all) → length all ≡ length object.parts.items → papers ≡ with_parts base object.name object.parts.items all →
    AreStored agrees object pins 0 (length object.parts.items) true base papers
stored_all {object = object} {pins = pins} {base = base} all fetched many stored =
    let parts = object.parts.items in
    record {
      stores = stores_of 0 parts all;
      parts = of_parts parts 0 parts all (λ j part is. subst (λ (i : ℕ). slice_get parts i ≡ Some part) (omega arith) is);
      pinned = λ a is. of_pins a pins 0 parts pins all (fetched a is) (λ j pin there. subst (λ (i : ℕ). slice_get pins i ≡ Some pin) (omega arith) there);
      after = stored ∙ with_parts_is base object.name 0 parts all;
      whole = λ whole place from to within. subst (λ (i : ℕ). HasStore (stores_of 0 parts all) i) (omega arith) (has_store 0 parts all place many within);
    }

-- no part is stored
stored_none : {agrees : Assignment → Type 0} {object : Object} {pins : List (List Stamp)} {first end : ℕ} {base papers : Papers} → papers ≡ base → AreStored agrees object pins first end false base papers
stored_none same = record { stores = []; parts = tt; pinned = λ a is. tt; after = same; whole = λ whole. absurd (false≢true whole) }

-- one part is stored
stored_one : {agrees : Assignment → Type 0} {object : Object} {pins : List (List Stamp)} {base papers : Papers} (all : Bool) (place : ℕ) (part : Part) (pin : List Stamp) (bytes : List ℕ) →
    slice_get object.parts.items place ≡ Some part → slice_get pins place ≡ Some pin → ((a : Assignment) → agrees a → IsFetched a part pin bytes) → papers ≡ insert base (part_key object.name part.name) bytes →
    AreStored agrees object pins place (place + 1) all base papers
stored_one all place part pin bytes there under fetched stored =
    record {
      stores = record { place = place; part = part; bytes = bytes } ∷ [];
      parts = (there, tt);
      pinned = λ a is. ((pin, under, fetched a is), tt);
      after = stored;
      whole = λ whole n from to within. (record { place = place; part = part; bytes = bytes }, inl refl, omega (arith, from, to));
    }

-- what a refused call leaves of one part
stored_left : {agrees : Assignment → Type 0} {object : Object} {pins : List (List Stamp)} {base papers : Papers} (place : ℕ) (part : Part) (pin : List Stamp) (why : SaveFault) →
    slice_get object.parts.items place ≡ Some part → slice_get pins place ≡ Some pin → PartLeft agrees base papers object.name part pin why →
    AreStored agrees object pins place (place + 1) false base papers
stored_left place part pin (Damaged n) there under same = stored_none same
stored_left place part pin (Device n) there under (inl same) = stored_none same
stored_left place part pin (Device n) there under (inr one) = stored_one false place part pin one.bytes there under one.fetched one.stored
stored_left place part pin save.Memory there under (inl same) = stored_none same
stored_left place part pin save.Memory there under (inr one) = stored_one false place part pin one.bytes there under one.fetched one.stored

-- some parts are stored, and then others
stored_then : {then agrees : Assignment → Type 0} {object : Object} {pins : List (List Stamp)} {first mid end : ℕ} {one two both : Bool} {base middle papers : Papers} →
    AreStored then object pins first mid one base middle → AreStored agrees object pins mid end two middle papers → ((a : Assignment) → agrees a → then a) → (IsTrue both → IsTrue one × IsTrue two) →
    AreStored agrees object pins first end both base papers
stored_then {object = object} {pins = pins} {first = first} {mid = mid} {end = end} {both = both} {base = base} so more files whole =
    record {
      stores = so.stores ++ more.stores;
      parts = every_then (IsOfPart object.parts.items) so.stores more.stores so.parts more.parts;
      pinned = λ a is. every_then (IsOfPin a pins) so.stores more.stores (so.pinned a (files a is)) (more.pinned a is);
      after = more.after ∙ ap (λ (p : Papers). with_stores p object.name more.stores) so.after ∙ sym (with_stores_then base object.name so.stores more.stores);
      whole = λ all place from to within. place_of all place from to within (or_behind place mid);
    } where
      place_of : IsTrue both → (place : ℕ) → first ≤ place → place < end → place < length object.parts.items → (place < mid) ⊎ (mid ≤ place) → HasStore (so.stores ++ more.stores) place
      place_of all place from to within (inl below) =
          let s = so.whole (whole all).0 place from below within in
          (s.0, among_left s.0 so.stores more.stores s.1, s.2)
      place_of all place from to within (inr behind) =
          let s = more.whole (whole all).1 place behind to within in
          (s.0, among_right s.0 so.stores more.stores s.1, s.2)

pub first_nothing : (before : Option LinesFault) → before ≡ first_of before None
first_nothing None = refl
first_nothing (Some fault) = refl

-- nothing is met where all is saved
pub saves_quiet : {agrees : Assignment → Type 0} {object : Object} {pins : List (List Stamp)} {first end : ℕ} {were are : Papers → Type 0} (t : Trouble) (known : Option (List ℕ)) →
    ((papers : Papers) → are papers → (base : Papers) × were base × AreStored agrees object pins first end true base papers) → Saves agrees object pins first end were are true t t known known
saves_quiet t known stored = record {
  damaged = [];
  why = λ a is. tt;
  met = None;
  closing = tt;
  fault = first_nothing t.fault;
  refused = refl;
  said = nothing_said None known;
  quiet = λ whole. (refl, refl);
  loud = λ none empty. refl;
  stored = stored;
}

-- behind the last part there is none to save
pub saves_none : {agrees : Assignment → Type 0} {object : Object} {pins : List (List Stamp)} {first end : ℕ} {holds : Papers → Type 0} (t : Trouble) (known : Option (List ℕ)) → end ≤ first →
    Saves agrees object pins first end holds holds true t t known known
saves_none t known behind = saves_quiet t known (λ papers is. (papers, is, record { stores = []; parts = tt; pinned = λ a at. tt; after = refl; whole = λ whole place from to within. absurd (omega (arith, behind, from, to)) }))

-- all parts were saved in one go
pub saves_all : {agrees : Assignment → Type 0} {object : Object} {pins : List (List Stamp)} {were are : Papers → Type 0} (t : Trouble) (known : Option (List ℕ)) →
    (all : List (List ℕ)) × ((a : Assignment) → agrees a → AreFetched a object.parts.items pins all) × (length all ≡ length object.parts.items) × ((papers : Papers) → are papers → (base : Papers) × were base × (papers ≡ with_parts base object.name object.parts.items all)) →
    Saves agrees object pins 0 (length object.parts.items) were are true t t known known
saves_all t known (all, fetched, many, stored) = saves_quiet t known (λ papers is.
    let s = stored papers is in
    (s.0, s.1, stored_all all fetched many s.2))

-- what a refused call leaves is that the first parts are saved
pub saves_front : {agrees : Assignment → Type 0} {object : Object} {pins : List (List Stamp)} {were are : Papers → Type 0} (t : Trouble) (known : Option (List ℕ)) (why : SaveFault) (first : ℕ) →
    SaveLeaves agrees were are object.name object.parts.items pins why → ((k : ℕ) → MaySave why k → first ≤ k) → Saves agrees object pins 0 first were are true t t known known
saves_front t known why first left before = saves_quiet t known (λ papers is.
    let s = left papers is in
    (s.0, s.1, stored_front first s.2 (before s.2 s.3) s.4))

-- one part is saved
pub saves_one : {agrees : Assignment → Type 0} {object : Object} {pins : List (List Stamp)} {were are : Papers → Type 0} (t : Trouble) (known : Option (List ℕ)) (place : ℕ) (part : Part) (pin : List Stamp) →
    slice_get object.parts.items place ≡ Some part → slice_get pins place ≡ Some pin →
    (bytes : List ℕ) × ((a : Assignment) → agrees a → IsFetched a part pin bytes) × ((papers : Papers) → are papers → (base : Papers) × were base × (papers ≡ insert base (part_key object.name part.name) bytes)) →
    Saves agrees object pins place (place + 1) were are true t t known known
saves_one t known place part pin there under (bytes, fetched, stored) = saves_quiet t known (λ papers is.
    let s = stored papers is in
    (s.0, s.1, stored_one true place part pin bytes there under fetched s.2))

-- a part that is damaged is told as one
why_damaged : (agrees : Assignment → Type 0) (object : Object) (pins : List (List Stamp)) (failed : Type 0) (place : ℕ) (part : Part) (pin : List Stamp) (why : SaveFault) →
    slice_get object.parts.items place ≡ Some part → slice_get pins place ≡ Some pin → PinSaveCause agrees part pin place failed why → (a : Assignment) → agrees a → Every (IsDamagedPin a object.parts.items pins) (damaged_by why place)
why_damaged agrees object pins failed place part pin (Damaged n) there under cause a is = (record { part = part; pin = pin; part_there = there; pin_there = under; damaged = cause.1 a is }, tt)
why_damaged agrees object pins failed place part pin (Device n) there under cause a is = tt
why_damaged agrees object pins failed place part pin save.Memory there under cause a is = tt

closing_by : (why : SaveFault) (met : Option LinesFault) → IsMetBy why met → IsOfClosing met
closing_by (Damaged n) met by = by
closing_by (Device n) met by = subst IsOfClosing (sym by) tt
closing_by save.Memory met by = subst IsOfClosing (sym by) tt

never_quiet : (why : SaveFault) (place : ℕ) (met : Option LinesFault) → IsMetBy why met → met ≡ None → damaged_by why place ≡ [] → false ≡ true
never_quiet (Damaged n) place met by none empty = absurd (omega (arith, ap length empty))
never_quiet (Device n) place met by none empty = met_not (sym by ∙ none)
never_quiet save.Memory place met by none empty = met_not (sym by ∙ none)

-- one part is not saved, which is noted
pub saves_not : {agrees : Assignment → Type 0} {object : Object} {pins : List (List Stamp)} {were are : Papers → Type 0} {before after : Trouble} {old new : Option (List ℕ)} (failed : Type 0) (place : ℕ) (part : Part) (pin : List Stamp) (why : SaveFault) →
    slice_get object.parts.items place ≡ Some part → slice_get pins place ≡ Some pin → PinSaveCause agrees part pin place failed why → PartLeaves agrees were are object.name part pin why → Notes object place why before after old new →
    Saves agrees object pins place (place + 1) were are false before after old new
saves_not {agrees = agrees} {object = object} {pins = pins} failed place part pin why there under cause left notes = record {
  damaged = damaged_by why place;
  why = why_damaged agrees object pins failed place part pin why there under cause;
  met = notes.met;
  closing = closing_by why notes.met notes.by;
  fault = notes.fault;
  refused = notes.refused;
  said = notes.said;
  quiet = λ whole. absurd (false≢true whole);
  loud = λ none empty. never_quiet why place notes.met notes.by none empty;
  stored = λ papers is.
      let s = left papers is in
      (s.0, s.1, stored_left place part pin why there under s.2);
}

-- what is noted of a part that is damaged
pub notes_damaged : {object : Object} {place : ℕ} {before refused after : Trouble} {old new : Option (List ℕ)} (n : ℕ) (result : Result (Unit {0}) LinesFault) →
    refused.fault ≡ before.fault → refused.refused ≡ true → AreTold (damaged_line object place ∷ []) result old new → after.fault ≡ first_of refused.fault (fault_in result) → after.refused ≡ refused.refused →
    Notes object place (Damaged n) before after old new
notes_damaged n result same marked told fault kept =
    record { met = fault_in result; by = told.closing; fault = fault ∙ ap (λ (f : Option LinesFault). first_of f (fault_in result)) same; refused = kept ∙ marked; said = told.said }

-- what is noted of a part at which a device failed
pub notes_device : {object : Object} {place : ℕ} {before after : Trouble} {known : Option (List ℕ)} (n : ℕ) → after.fault ≡ first_of before.fault (Some WriteFault) → after.refused ≡ before.refused → Notes object place (Device n) before after known known
notes_device {known = known} n fault kept = record { met = Some WriteFault; by = refl; fault = fault; refused = kept; said = nothing_said (Some WriteFault) known }

-- what is noted of a part that memory was refused for
pub notes_memory : {object : Object} {place : ℕ} {before after : Trouble} {known : Option (List ℕ)} → after.fault ≡ first_of before.fault (Some Memory) → after.refused ≡ before.refused → Notes object place save.Memory before after known known
notes_memory {known = known} fault kept = record { met = Some Memory; by = refl; fault = fault; refused = kept; said = nothing_said (Some Memory) known }

damaged_then : (object : Object) (one two : List ℕ) → damaged_lines object one ++ damaged_lines object two ≡ damaged_lines object (one ++ two)
damaged_then object [] two = refl
damaged_then object (place ∷ one) two = ap (λ (ls : List (List ℕ)). damaged_line object place ∷ ls) (damaged_then object one two)

pub refused_then : (refused : Bool) (one two : List ℕ) → refused_by (refused_by refused one) two ≡ refused_by refused (one ++ two)
refused_then refused [] two = refl
refused_then refused (place ∷ one) [] = refl
refused_then refused (place ∷ one) (next ∷ two) = refl

both_empty : (one two : List ℕ) → one ++ two ≡ [] → (one ≡ []) × (two ≡ [])
both_empty [] two is = (refl, is)
both_empty (place ∷ one) two is = absurd (omega (arith, ap length is))

-- some parts are saved or not, and then others
pub saves_then : {then agrees : Assignment → Type 0} {object : Object} {pins : List (List Stamp)} {first mid end : ℕ} {were between are : Papers → Type 0} {one two : Bool} {before middle after : Trouble} {old known new : Option (List ℕ)} (both : Bool) →
    Saves then object pins first mid were between one before middle old known → Saves agrees object pins mid end between are two middle after known new → ((a : Assignment) → agrees a → then a) →
    (IsTrue both → IsTrue one × IsTrue two) → (IsTrue one → IsTrue two → IsTrue both) → Saves agrees object pins first end were are both before after old new
saves_then {object = object} {pins = pins} {before = before} {old = old} {new = new} both so more files whole back = record {
  damaged = so.damaged ++ more.damaged;
  why = λ a is. every_then (IsDamagedPin a object.parts.items pins) so.damaged more.damaged (so.why a (files a is)) (more.why a is);
  met = first_of so.met more.met;
  closing = closing_first so.met more.met so.closing more.closing;
  fault = more.fault ∙ ap (λ (f : Option LinesFault). first_of f more.met) so.fault ∙ first_first before.fault so.met more.met;
  refused = more.refused ∙ ap (λ (r : Bool). refused_by r more.damaged) so.refused ∙ refused_then before.refused so.damaged more.damaged;
  said = subst (λ (ls : List (List ℕ)). AreSaid ls (first_of so.met more.met) old new) (damaged_then object so.damaged more.damaged)
      (said_then so.said more.said (first_none so.met more.met) (second_none so.met more.met));
  quiet = λ all.
      let one = so.quiet (whole all).0 in
      let two = more.quiet (whole all).1 in
      (ap (λ (f : Option LinesFault). first_of f more.met) one.0 ∙ two.0, ap (λ (ds : List ℕ). ds ++ more.damaged) one.1 ∙ two.1);
  loud = λ none empty.
      let apart = both_empty so.damaged more.damaged empty in
      back (so.loud (first_none so.met more.met none) apart.0) (more.loud (second_none so.met more.met none) apart.1);
  stored = λ papers is.
      let last = more.stored papers is in
      let early = so.stored last.0 last.1 in
      (early.0, early.1, stored_then early.2 last.2 files whole);
}

-- a trace that is stored, or not, is stored at least so often
pub text_stored : {name text : List ℕ} {were are : Papers → Type 0} → ((papers : Papers) → are papers → (base : Papers) × were base × (papers ≡ insert base name text)) → StoresText 1 name text were are
text_stored stored papers is =
    let s = stored papers is in
    (s.0, s.1, 1, omega arith, s.2)

pub text_left : {name text : List ℕ} {were are : Papers → Type 0} → StoreLeaves were are name text → StoresText 0 name text were are
text_left {name = name} {text = text} {were = were} left papers is = either (left papers is) where
  either : (base : Papers) × were base × ((papers ≡ base) ⊎ (papers ≡ insert base name text)) → (base : Papers) × were base × (times : ℕ) × (0 ≤ times) × (papers ≡ stored_times times base name text)
  either (base, there, inl same) = (base, there, 0, omega arith, same)
  either (base, there, inr new) = (base, there, 1, omega arith, new)

times_then : (m n : ℕ) (base : Papers) (name text : List ℕ) → stored_times n (stored_times m base name text) name text ≡ stored_times (n + m) base name text
times_then m zero base name text = let same : m ≡ 0 + m = omega arith in ap (λ (k : ℕ). stored_times k base name text) same
times_then m (suc n) base name text =
    let same : suc (n + m) ≡ suc n + m = omega arith in
    ap (λ (p : Papers). insert p name text) (times_then m n base name text) ∙ ap (λ (k : ℕ). stored_times k base name text) same

-- a text that may be stored, and then is
pub text_again : {least : ℕ} {name text : List ℕ} {were between are : Papers → Type 0} → StoresText 0 name text were between → StoresText least name text between are → StoresText least name text were are
text_again {least = least} {name = name} {text = text} so more papers is =
    let last = more papers is in
    let early = so last.0 last.1 in
    (early.0, early.1, last.2 + early.2, omega (arith, last.3), last.4 ∙ ap (λ (p : Papers). stored_times last.2 p name text) early.4 ∙ times_then early.2 last.2 early.0 name text)

pub traces_quiet : {name text : List ℕ} {were are : Papers → Type 0} (t : Trouble) → StoresText 1 name text were are → Traces name text were are true t t
traces_quiet t stored = record { met = None; closing = tt; fault = first_nothing t.fault; refused = refl; quiet = λ whole. refl; loud = λ none. refl; stored = stored }

closing_of : (why : HandFault) → IsOfClosing (Some (fault_by why))
closing_of hand.Device = tt
closing_of hand.Memory = tt

pub traces_not : {name text : List ℕ} {were are : Papers → Type 0} {before after : Trouble} (why : HandFault) → StoresText 0 name text were are →
    after.fault ≡ first_of before.fault (Some (fault_by why)) → after.refused ≡ before.refused → Traces name text were are false before after
traces_not why stored fault refused = record { met = Some (fault_by why); closing = closing_of why; fault = fault; refused = refused; quiet = λ whole. absurd (false≢true whole); loud = λ none. met_not none; stored = stored }

-- what a result says where it is good, or where it is not, and what follows from that
pub on_ok : {E P Q : Type 0} (result : Result (Unit {0}) E) → (P → Q) → OnOk result P → OnOk result Q
on_ok (Ok done) follows is = follows is
on_ok (Err why) follows is = tt

pub on_err : {E P Q : Type 0} (result : Result (Unit {0}) E) → (P → Q) → OnErr result P → OnErr result Q
on_err (Ok done) follows is = tt
on_err (Err why) follows is = follows is

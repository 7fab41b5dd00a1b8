-- Parts opened one after the other.
use Rattle.std.proofs.Common.{◌≡◌, ℕ, zero, suc, take, Option, None, ◌<◌, ◌≤◌, ◌⊎◌, inl, inr, List, [], ◌∷◌, ◌++◌, length, Some, refl, sym, ap, subst, ◌∙◌, arith}
use Rattle.std.specs.Prelude.{map, slice_get}
use Rattle.std.proofs.lemmas.Bool.{cases_lt}
use Rattle.std.proofs.lemmas.List.{length-append, map-append}
use Rattle.std.specs.FinMap.{get}
use Rattle.value_core.specs.declared.kind.Kind.{Kind}
use Rattle.value_core.specs.Contents.{Contents, kind_of}
use Rattle.value_bytes.specs.Spelling.{SpellsInSome}
use Rattle.decl_core.specs.declared.object.Part.{Part}
use Rattle.device_core.specs.declared.hand.Stamp.{Stamp}
use Rattle.page_core.specs.declared.open.OpenFault.{OpenFault}
use Rattle.page_core.specs.declared.open.OpenFault.TheVariants.{Damaged, Device, Memory}
use Rattle.device_core.specs.Device.{Assignment, Failed, Always, AreServed}
use Rattle.device_core.specs.Papers.{Papers, part_key}
use Rattle.page_core.specs.Pages.{ArePinsServed}
use Rattle.page_core.specs.Opened.{BeginsWith, IsPinned, AreLoaded, ArePinned, AreDamaged, IsDamaged, IsFirstDamaged, OpenCause, PartCause}

some_same : {X : Type 0} {x y : X} → Some x ≡ Some y → x ≡ y
some_same e = cc

-- one part more is loaded
loaded_more : (papers : Papers) (object : List ℕ) (parts : List Part) (values : List Contents) (part : Part) (value : Contents) →
    AreLoaded papers object parts values → BeginsWith part.kind (get papers (part_key object part.name)) value → AreLoaded papers object (parts ++ part ∷ []) (values ++ value ∷ [])
loaded_more papers object [] [] part value so_far one = (one, tt)
loaded_more papers object [] (v ∷ values) part value so_far one = absurd so_far
loaded_more papers object (q ∷ parts) [] part value so_far one = absurd so_far
loaded_more papers object (q ∷ parts) (v ∷ values) part value so_far one = (so_far.0, loaded_more papers object parts values part value so_far.1 one)

-- one part more is pinned
pinned_more : (a : Assignment) (parts : List Part) (pins : List (List Stamp)) (values : List Contents) (part : Part) (pin : List Stamp) (value : Contents) →
    ArePinned a parts pins values → IsPinned a part.kind pin value → ArePinned a (parts ++ part ∷ []) (pins ++ pin ∷ []) (values ++ value ∷ [])
pinned_more a [] [] [] part pin value so_far one = (one, tt)
pinned_more a [] [] (v ∷ values) part pin value so_far one = absurd so_far
pinned_more a [] (p ∷ pins) values part pin value so_far one = absurd so_far
pinned_more a (q ∷ parts) [] values part pin value so_far one = absurd so_far
pinned_more a (q ∷ parts) (p ∷ pins) [] part pin value so_far one = absurd so_far
pinned_more a (q ∷ parts) (p ∷ pins) (v ∷ values) part pin value so_far one = (so_far.0, pinned_more a parts pins values part pin value so_far.1 one)

-- one pin more is served
served_more : (serves : Stamp → Type 0) (pins : List (List Stamp)) (pin : List Stamp) → ArePinsServed serves pins → AreServed serves pin → ArePinsServed serves (pins ++ pin ∷ [])
served_more serves [] pin so_far one zero q is = subst (λ s. AreServed serves s) (some_same is) one
served_more serves [] pin so_far one (suc p) q is = absurd cc
served_more serves (x ∷ pins) pin so_far one zero q is = so_far zero q is
served_more serves (x ∷ pins) pin so_far one (suc p) q is = served_more serves pins pin (λ r s e. so_far (suc r) s e) one p q is

-- a part that was loaded is not damaged
sound : (kind : Kind) (found : Option (List ℕ)) (value : Contents) → BeginsWith kind found value → AreDamaged kind found → ⊥
sound kind None value begins damaged = let e = damaged.there in absurd cc
sound kind (Some bytes) value begins damaged = damaged.unspelled value (subst (λ b. SpellsInSome b kind value) (some_same damaged.there) begins)

-- none of the parts that were loaded is damaged
loaded_sound : (papers : Papers) (object : List ℕ) (all : List Part) (n m : ℕ) (values : List Contents) → AreLoaded papers object (take n all) values → m < n → IsDamaged papers object all m → ⊥
loaded_sound papers object [] n m values so low damaged = let e = damaged.there in absurd cc
loaded_sound papers object (q ∷ all) zero m values so low damaged = absurd (omega (arith, low))
loaded_sound papers object (q ∷ all) (suc n) m [] so low damaged = absurd so
loaded_sound papers object (q ∷ all) (suc n) zero (v ∷ values) so low damaged =
    sound q.kind _ v so.0 (subst (λ (p : Part). AreDamaged p.kind (get papers (part_key object p.name))) (sym (some_same damaged.there)) damaged.damaged)
loaded_sound papers object (q ∷ all) (suc n) (suc m) (v ∷ values) so low damaged =
    loaded_sound papers object all n m values so.1 (omega (arith, low)) (record { part = damaged.part; there = damaged.there; damaged = damaged.damaged })

-- a device that failed later has failed since the beginning
pub failed_since : (first then now : ℕ) → first ≤ then → then ≤ now → Failed then now → Failed first now
failed_since first then now a b (inl lt) = inl (omega (arith, a, lt))
failed_since first then now a b (inr end) = at_end (cases_lt first then) where
  at_end : (first < then) ⊎ (then ≤ first) → Failed first now
  at_end (inl lt) = inl (omega (arith, lt, b))
  at_end (inr le) = inr (omega (arith, a, le) ∙ end)

-- Some parts are opened. So far the devices were driven from these states on.
pub record Opening (was holds : Papers → Type 0) (earlier agrees : Assignment → Type 0) (early serves : Stamp → Type 0) (fresh works_for : ℕ → Type 0) (s t h k : ℕ) (object : List ℕ) (parts : List Part) (pins : List (List Stamp)) (values : List Contents) : Type 0 where
  pub loaded : (papers : Papers) → holds papers → AreLoaded papers object parts values
  pub pinned : (a : Assignment) → agrees a → ArePinned a parts pins values
  pub served : ArePinsServed serves pins
  pub kept : (s : Stamp) → early s → serves s
  pub works : Always fresh → Always works_for
  pub many : length pins ≡ length parts
  pub kinds : map kind_of values ≡ map (λ part. part.kind) parts
  pub papers : (papers : Papers) → holds papers → was papers
  pub files : (a : Assignment) → agrees a → earlier a
  pub shelf : s ≤ t
  pub hand : h ≤ k

pub start : (holds : Papers → Type 0) (agrees : Assignment → Type 0) (serves : Stamp → Type 0) (works_for : ℕ → Type 0) (s h : ℕ) (object : List ℕ) → Opening holds holds agrees agrees serves serves works_for works_for s s h h object [] [] []
start holds agrees serves works_for s h object = record {
  loaded = λ papers is. tt;
  pinned = λ a so. tt;
  served = λ p pin is. absurd cc;
  kept = λ s is. is;
  works = λ always. always;
  many = refl;
  kinds = refl;
  papers = λ papers is. is;
  files = λ a is. is;
  shelf = omega arith;
  hand = omega arith;
}

module _ {was mid holds : Papers → Type 0} {earlier then agrees : Assignment → Type 0} {early serving serves : Stamp → Type 0} {fresh mid_works works_for : ℕ → Type 0} {s t u h k m : ℕ} {object : List ℕ} {parts : List Part} {pins : List (List Stamp)} {values : List Contents} where
  pub next : (part : Part) (pin : List Stamp) (value : Contents) → Opening was mid earlier then early serving fresh mid_works s t h k object parts pins values →
      ((papers : Papers) → holds papers → BeginsWith part.kind (get papers (part_key object part.name)) value) → ((a : Assignment) → agrees a → IsPinned a part.kind pin value) → AreServed serves pin → kind_of value ≡ part.kind →
      ((papers : Papers) → holds papers → mid papers) → ((a : Assignment) → agrees a → then a) → ((s : Stamp) → serving s → serves s) → (Always mid_works → Always works_for) → t ≤ u → k ≤ m →
      Opening was holds earlier agrees early serves fresh works_for s u h m object (parts ++ part ∷ []) (pins ++ pin ∷ []) (values ++ value ∷ [])
  next part pin value o loaded pinned served kind papers files kept works shelf hand = record {
    loaded = λ p is. loaded_more p object parts values part value (o.loaded p (papers p is)) (loaded p is);
    pinned = λ a so. pinned_more a parts pins values part pin value (o.pinned a (files a so)) (pinned a so);
    served = served_more serves pins pin (λ p q is k s there. kept s (o.served p q is k s there)) served;
    kept = λ s is. kept s (o.kept s is);
    works = λ always. works (o.works always);
    many = omega (arith, length-append pins (pin ∷ []), length-append parts (part ∷ []), o.many);
    kinds = map-append kind_of values (value ∷ []) ∙ ap (λ ks. ks ++ kind_of value ∷ []) o.kinds ∙ ap (λ l. map (λ (q : Part). q.kind) parts ++ l ∷ []) kind ∙ sym (map-append (λ (q : Part). q.kind) parts (part ∷ []));
    papers = λ p is. o.papers p (papers p is);
    files = λ a so. o.files a (files a so);
    shelf = omega (arith, o.shelf, shelf);
    hand = omega (arith, o.hand, hand);
  }

-- why a part was not opened is why they all were not
pub since : {was mid : Papers → Type 0} {earlier then : Assignment → Type 0} {early serving : Stamp → Type 0} {fresh works_for : ℕ → Type 0} {s t u h k m : ℕ} {object : List ℕ} {pins : List (List Stamp)} {values : List Contents} (holds : Papers → Type 0) (all : List Part) (part : Part) (number : ℕ) → slice_get all number ≡ Some part →
    Opening was mid earlier then early serving fresh works_for s t h k object (take number all) pins values → ((papers : Papers) → holds papers → mid papers) → t ≤ u → k ≤ m →
    (e : OpenFault) → PartCause holds (part_key object part.name) part.kind number (Failed t u ⊎ Failed k m) e → OpenCause holds object all (Failed s u ⊎ Failed h m) e
since {object = object} {values = values} holds all part number there o papers shelf hand (Damaged n) cause = λ p is.
    subst (λ j. IsFirstDamaged p object all j) (sym cause.0) (record {
      here = record { part = part; there = there; damaged = cause.1 p is };
      first = λ i low damaged. loaded_sound p object all number i values (o.loaded p (papers p is)) low damaged;
    })
since {s = s} {t = t} {u = u} holds all part number there o papers shelf hand Device (inl f) = inl (failed_since s t u o.shelf shelf f)
since {h = h} {k = k} {m = m} holds all part number there o papers shelf hand Device (inr f) = inr (failed_since h k m o.hand hand f)
since holds all part number there o papers shelf hand Memory cause = tt

-- over a hand that works the shelf failed
pub shelf_since : {was mid : Papers → Type 0} {earlier then : Assignment → Type 0} {early serving : Stamp → Type 0} {fresh works_for : ℕ → Type 0} {s t u h k : ℕ} {object : List ℕ} {parts : List Part} {pins : List (List Stamp)} {values : List Contents} →
    Opening was mid earlier then early serving fresh works_for s t h k object parts pins values → t ≤ u → Failed t u → Failed s u
shelf_since {s = s} {t = t} {u = u} o shelf f = failed_since s t u o.shelf shelf f

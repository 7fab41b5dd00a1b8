-- The world of an object before any event.
use Rattle.std.proofs.Common.{◌≡◌, ℕ, zero, suc, List, [], ◌∷◌, length, Some, refl, sym, ◌∙◌, ap, subst, arith, map}
use Rattle.std.specs.Prelude.{◌≤◌, slice_get, vec_capacity}
use Rattle.std.specs.FinMap as papers_map
use Rattle.std.specs.Ordering.{nat_cmp}
use Rattle.std.specs.Cmp.Lexicographic.{slice_cmp}
use Rattle.value_core.specs.declared.kind.Kind.{Kind}
use Rattle.value_core.specs.Contents.{Contents}
use Rattle.value_core.specs.Meaning.{opening_of}
use Rattle.decl_core.specs.declared.object.Object.{Object}
use Rattle.decl_core.specs.declared.object.Part.{Part}
use Rattle.device_core.specs.declared.file.File.{File}
use Rattle.device_core.specs.declared.hand.Stamp.{Stamp}
use Rattle.device_core.specs.Device.{Assignment}
use Rattle.device_core.specs.Files.{HasFiles, Serves, files_of}
use Rattle.device_core.proofs.Agreeing.{some_map}
use Rattle.page_core.specs.Bytes.{ArePages}
use Rattle.page_core.specs.Cut.{most_pages}
use Rattle.page_core.proofs.ListBytes.{holds_page, pages_bytes}
use Rattle.page_core.specs.Pages.{AreHeld, ArePinsServed}
use Rattle.page_core.proofs.Paging.{few_pages}
use Rattle.device_core.specs.Papers.{Papers, part_key}
use Rattle.page_core.specs.Opened.{BeginsWith, IsPinned, AreLoaded, ArePinned}
use Rattle.board_core.specs.Board.{Board, opened}
use Rattle.board_core.specs.Chain.{ShowContents, Shows}
use Rattle.board_core.specs.Sound.{IsSound, kinds_of}
use Rattle.world_core.specs.declared.slot.Slot.{Slot}
use Rattle.world_core.specs.declared.stage.WorldTables.{WorldTables}
use Rattle.world_core.specs.Scene.{Scene, IsNew}
use Rattle.world_core.specs.Kept.{IsKept, ArePinsShort, IsStaged}

-- from an empty shelf each part has its opening value
begins_so : (papers : Papers) (key : List ℕ) (kind : Kind) (value : Contents) → papers ≡ papers_map.empty → BeginsWith kind (papers_map.get papers key) value → value ≡ opening_of kind
begins_so papers key kind value none begins =
    subst (λ found. BeginsWith kind found value) (ap (λ p. papers_map.get p key) none ∙ papers_map.get-empty (slice_cmp nat_cmp) key) begins

pub loaded_so : (papers : Papers) (name : List ℕ) (parts : List Part) (values : List Contents) → papers ≡ papers_map.empty → AreLoaded papers name parts values → values ≡ map opening_of (map (λ (p : Part). p.kind) parts)
loaded_so papers name [] [] none loaded = refl
loaded_so papers name [] (v ∷ values) none loaded = absurd loaded
loaded_so papers name (p ∷ parts) [] none loaded = absurd loaded
loaded_so papers name (p ∷ parts) (v ∷ values) none loaded =
    ap (λ x. x ∷ values) (begins_so papers (part_key name p.name) p.kind v none loaded.0) ∙ ap (λ xs. opening_of p.kind ∷ xs) (loaded_so papers name parts values none loaded.1)

one_is : {X : Type 0} {x y : X} → Some x ≡ Some y → x ≡ y
one_is e = cc

-- files that were sealed with pages are these pages
held_pages : (a : Assignment) (pin : List Stamp) (pages : List (List ℕ)) → AreHeld a pin pages → ArePages a pin pages
held_pages a [] [] held = tt
held_pages a (stamp ∷ pin) (page ∷ pages) held = (holds_page a stamp page held.0, held_pages a pin pages held.1)
held_pages a [] (page ∷ pages) held = absurd held
held_pages a (stamp ∷ pin) [] held = absurd held

held_many : (a : Assignment) (pin : List Stamp) (pages : List (List ℕ)) → AreHeld a pin pages → length pin ≡ length pages
held_many a [] [] held = refl
held_many a (stamp ∷ pin) (page ∷ pages) held = ap suc (held_many a pin pages held.1)
held_many a [] (page ∷ pages) held = absurd held
held_many a (stamp ∷ pin) [] held = absurd held

-- a pin that was sealed with a value's spelling shows that value
pin_shows : (a : Assignment) (kind : Kind) (pin : List Stamp) (value : Contents) → IsPinned a kind pin value → Shows a kind pin value
pin_shows a kind pin value pinned =
    let both = pages_bytes a pin pinned.pages (held_pages a pin pinned.pages pinned.sealed) in
    record { whole = both.1; bytes = pinned.bytes; there = both.0 ∙ ap Some pinned.cut.whole; spells = pinned.spells }

-- and it has 8 pages at most
pins_short : (a : Assignment) (parts : List Part) (pins : List (List Stamp)) (values : List Contents) → ArePinned a parts pins values → ArePinsShort pins
pins_short a [] [] [] pinned p pages at = absurd cc
pins_short a [] [] (v ∷ values) pinned p pages at = absurd pinned
pins_short a [] (pin ∷ pins) values pinned p pages at = absurd pinned
pins_short a (part ∷ parts) [] values pinned p pages at = absurd pinned
pins_short a (part ∷ parts) (pin ∷ pins) [] pinned p pages at = absurd pinned
pins_short a (part ∷ parts) (pin ∷ pins) (v ∷ values) pinned zero pages at =
    let first = pinned.0 in
    subst (λ (x : List Stamp). length x ≤ most_pages) (one_is at) (omega (arith, held_many a pin first.pages first.sealed, few_pages first.bytes first.pages first.cut))
pins_short a (part ∷ parts) (pin ∷ pins) (v ∷ values) pinned (suc p) pages at = pins_short a parts pins values pinned.1 p pages at

pub pins_show : (a : Assignment) (parts : List Part) (pins : List (List Stamp)) (values : List Contents) → ArePinned a parts pins values → ShowContents a (map (λ (p : Part). p.kind) parts) pins values
pins_show a [] [] [] pinned = record { pins_each = refl; contents_each = refl; each = λ p kind at. absurd cc }
pins_show a [] [] (v ∷ values) pinned = absurd pinned
pins_show a [] (pin ∷ pins) values pinned = absurd pinned
pins_show a (part ∷ parts) [] values pinned = absurd pinned
pins_show a (part ∷ parts) (pin ∷ pins) [] pinned = absurd pinned
pins_show a (part ∷ parts) (pin ∷ pins) (v ∷ values) pinned =
    let more : ShowContents a (map (λ (p : Part). p.kind) parts) pins values = pins_show a parts pins values pinned.1 in
    record { pins_each = ap suc more.pins_each; contents_each = ap suc more.contents_each; each = each_of more }
  where
    each_of : ShowContents a (map (λ (p : Part). p.kind) parts) pins values → (p : ℕ) (kind : Kind) → slice_get (part.kind ∷ map (λ (p : Part). p.kind) parts) p ≡ Some kind
        → (pages : List Stamp) × (value : Contents) × (slice_get (pin ∷ pins) p ≡ Some pages) × (slice_get (v ∷ values) p ≡ Some value) × Shows a kind pages value
    each_of more zero kind at = (pin, v, refl, refl, subst (λ k. Shows a k pin v) (one_is at) (pin_shows a part.kind pin v pinned.0))
    each_of more (suc p) kind at = more.each p kind at

-- the tables of a world without calls
pub opened_kept : (o : Object) (pins : List (List Stamp)) (files : List File) (values : List Contents) → IsSound (opened o pins) → ArePinsServed (λ s. Serves files s) pins
    → ((a : Assignment) → HasFiles files a → ArePinned a o.parts.items pins values) → IsKept (opened o pins) files [] values
opened_kept o pins files values sound served pinned = record {
  sound = sound;
  few = omega arith;
  taken = tt;
  left = tt;
  calls = refl;
  ready = tt;
  apart = tt;
  served = served;
  short = (let some = some_map files in pins_short some.0 o.parts.items pins values (pinned some.0 some.1));
  opening = λ a agrees. pins_show a o.parts.items pins values (pinned a agrees);
  entries = λ a agrees. tt;
}

pub new_staged : (s : WorldTables) (o m : Object) (pins : List (List Stamp)) → m ≡ o → s.desk ≡ opened o pins → IsSound s.desk → ArePinsServed (λ p. Serves (files_of s.hand) p) pins
    → ((a : Assignment) → HasFiles (files_of s.hand) a → ArePinned a m.parts.items pins s.opening.items) → s.runs.items ≡ [] → 256 ≤ vec_capacity s.runs → IsStaged s
new_staged s o m pins same made sound served pinned none room = record {
  kept = subst (λ (b : Board). IsKept b (files_of s.hand) s.runs.items s.opening.items) (sym made)
      (subst (λ (rs : List Slot). IsKept (opened o pins) (files_of s.hand) rs s.opening.items) (sym none)
      (opened_kept o pins (files_of s.hand) s.opening.items (subst IsSound made sound) served (subst (λ (x : Object). (a : Assignment) → HasFiles (files_of s.hand) a → ArePinned a x.parts.items pins s.opening.items) same pinned)));
  all = ap length none ∙ sym (ap (λ (b : Board). length b.running) made);
  room = room;
}

pub new_is : (w : Scene) (o m : Object) (pins : List (List Stamp)) (papers : Papers) → m ≡ o → w.board ≡ opened o pins → papers ≡ papers_map.empty → AreLoaded papers m.name m.parts.items w.opening → w.runs ≡ [] → IsNew o w
new_is w o m pins papers same made none loaded no_runs = record {
  pins = pins;
  board = made;
  opening = loaded_so papers m.name m.parts.items w.opening none loaded ∙ ap (λ (x : Object). map opening_of (kinds_of x)) same;
  runs = no_runs;
}

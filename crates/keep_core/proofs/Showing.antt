-- What pins show that were sealed with values.
use Rattle.std.proofs.Common.{◌≡◌, ◌∙◌, ap, sym, subst, refl, ℕ, zero, suc, List, [], ◌∷◌, Some, map}
use Rattle.std.specs.Prelude.{slice_get}
use Rattle.value_core.specs.declared.kind.Kind.{Kind}
use Rattle.value_core.specs.Contents.{Contents, kind_of}
use Rattle.decl_core.specs.declared.object.Part.{Part}
use Rattle.device_core.specs.declared.hand.Stamp.{Stamp}
use Rattle.device_core.specs.Device.{Assignment}
use Rattle.page_core.specs.Bytes.{ArePages}
use Rattle.page_core.proofs.ListBytes.{holds_page, pages_bytes}
use Rattle.page_core.specs.Pages.{AreHeld}
use Rattle.page_core.specs.Opened.{IsPinned, ArePinned}
use Rattle.board_core.specs.Chain.{ShowContents, Shows}

one_is : {X : Type 0} {x y : X} → Some x ≡ Some y → x ≡ y
one_is e = cc

-- files that were sealed with pages are these pages
held_pages : (a : Assignment) (pin : List Stamp) (pages : List (List ℕ)) → AreHeld a pin pages → ArePages a pin pages
held_pages a [] [] held = tt
held_pages a (stamp ∷ pin) (page ∷ pages) held = (holds_page a stamp page held.0, held_pages a pin pages held.1)
held_pages a [] (page ∷ pages) held = absurd held
held_pages a (stamp ∷ pin) [] held = absurd held

-- a pin that was sealed with a value's spelling shows that value
pin_shows : (a : Assignment) (kind : Kind) (pin : List Stamp) (value : Contents) → IsPinned a kind pin value → Shows a kind pin value
pin_shows a kind pin value pinned =
    let both = pages_bytes a pin pinned.pages (held_pages a pin pinned.pages pinned.sealed) in
    record { whole = both.1; bytes = pinned.bytes; there = both.0 ∙ ap Some pinned.cut.whole; spells = pinned.spells }

pub pins_show : (a : Assignment) (parts : List Part) (pins : List (List Stamp)) (values : List Contents) → ArePinned a parts pins values → ShowContents a (map (λ (p : Part). p.kind) parts) pins values
pins_show a [] [] [] pinned = record { pins_each = refl; contents_each = refl; each = λ p kind at. absurd cc }
pins_show a [] [] (v ∷ values) pinned = absurd pinned
pins_show a [] (pin ∷ pins) values pinned = absurd pinned
pins_show a (part ∷ parts) [] values pinned = absurd pinned
pins_show a (part ∷ parts) (pin ∷ pins) [] pinned = absurd pinned
pins_show a (part ∷ parts) (pin ∷ pins) (v ∷ values) pinned =
    let more : ShowContents a (map (λ (p : Part). p.kind) parts) pins values = pins_show a parts pins values pinned.1 in
    record { pins_each = ap suc more.pins_each; contents_each = ap suc more.contents_each; each = each_of more }
  where
    each_of : ShowContents a (map (λ (p : Part). p.kind) parts) pins values → (p : ℕ) (kind : Kind) → slice_get (part.kind ∷ map (λ (p : Part). p.kind) parts) p ≡ Some kind
        → (pages : List Stamp) × (value : Contents) × (slice_get (pin ∷ pins) p ≡ Some pages) × (slice_get (v ∷ values) p ≡ Some value) × Shows a kind pages value
    each_of more zero kind at = (pin, v, refl, refl, subst (λ k. Shows a k pin v) (one_is at) (pin_shows a part.kind pin v pinned.0))
    each_of more (suc p) kind at = more.each p kind at

-- and the parts are of the kinds of these values
pub kinds_are : (a : Assignment) (parts : List Part) (pins : List (List Stamp)) (values : List Contents) → ArePinned a parts pins values → map (λ (p : Part). p.kind) parts ≡ map kind_of values
kinds_are a [] [] [] pinned = refl
kinds_are a [] [] (v ∷ values) pinned = absurd pinned
kinds_are a [] (pin ∷ pins) values pinned = absurd pinned
kinds_are a (part ∷ parts) [] values pinned = absurd pinned
kinds_are a (part ∷ parts) (pin ∷ pins) [] pinned = absurd pinned
kinds_are a (part ∷ parts) (pin ∷ pins) (v ∷ values) pinned =
    ap (λ (k : Kind). k ∷ map (λ (p : Part). p.kind) parts) (sym pinned.0.spells.kind) ∙ ap (λ (ks : List Kind). kind_of v ∷ ks) (kinds_are a parts pins values pinned.1)

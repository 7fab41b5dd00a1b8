-- What is saved of an object is what its history leads to.
use Rattle.std.proofs.Common.{◌≡◌, ◌∙◌, ap, sym, subst, refl, inl, inr, ℕ, List, [], ◌∷◌, ◌++◌, Bool, true, false, cond, Some, arith, map}
use Rattle.std.specs.Prelude.{slice_get, codes, IsTrue}
use Rattle.std.specs.FinMap.{empty, get, insert, get-insert}
use Rattle.std.specs.Ordering.{nat_cmp, eq_by_cmp}
use Rattle.std.specs.Cmp.Lexicographic.{slice_cmp, nat_list_cmp_total}
use Rattle.std.proofs.lemmas.Cmp.{eq_by_cmp_equiv}
use Rattle.std.proofs.lemmas.Map.Lookups.{exact_bytes}
use Rattle.std.proofs.lemmas.Map.Views.{tells_apart}
use Rattle.std.proofs.lemmas.List.{append_cancel_left}
use Rattle.std.proofs.lemmas.Option.{same_Some, slice_get-map, slice_get_within}
use Rattle.std.specs.Option.{option_map}
use Rattle.value_core.specs.declared.kind.Kind.{Kind}
use Rattle.value_bytes.specs.Spelling.{Spells}
use Rattle.decl_core.specs.declared.object.Part.{Part}
use Rattle.device_core.specs.declared.hand.Stamp.{Stamp}
use Rattle.device_core.specs.Device.{Assignment}
use Rattle.device_core.specs.Papers.{Papers, part_key}
use Rattle.page_core.specs.Bytes.{list_bytes}
use Rattle.page_core.specs.Opened.{ArePinned}
use Rattle.apply_core.specs.History.{IsLegal}
use Rattle.page_core.specs.Lists.{Every}
use Rattle.board_core.specs.Board.{Board}
use Rattle.board_core.specs.Chain.{ShowContents, history_of}
use Rattle.board_core.specs.Sound.{kinds_of}
use Rattle.office_core.specs.Slips.{StandsIn, IsTrueTold}
use Rattle.office_core.proofs.Law.{slips_are_legal}
use Rattle.keep_core.specs.Kept.{Stored, with_stores, IsOfPart, IsOfPin, HasStore}
use Rattle.keep_core.specs.Ends.{Ended, IsAtEnd, IsClosed}
use Rattle.keep_core.specs.Laws.{AreApart, KeptIsHistory, OpeningIsKept}
use Rattle.keep_core.specs.Opening.{values_of}
use Rattle.keep_core.proofs.KeepEnding.{closed_has_all}
use Rattle.keep_core.proofs.Showing.{pins_show, kinds_are}

-- under this name stand the bytes of these pages
abbrev IsGood : Assignment → List ℕ → List Stamp → Papers → Type 0
IsGood a key pages papers = (bytes : List ℕ) × (get papers key ≡ Some bytes) × (list_bytes a pages ≡ Some bytes)

-- a store under the same name puts its bytes there
put_here : (papers : Papers) (key : List ℕ) (bytes : List ℕ) → get (insert papers key bytes) key ≡ Some bytes
put_here papers key bytes =
    get-insert nat_list_cmp_total papers key bytes key ∙ ap (λ (b : Bool). cond b (Some bytes) (get papers key)) ((eq_by_cmp_equiv nat_list_cmp_total).refl key)

module _ (a : Assignment) (object : List ℕ) (parts : List Part) (pins : List (List Stamp)) (apart : AreApart parts) (place : ℕ) (part : Part) (pages : List Stamp) (there : slice_get parts place ≡ Some part) (under : slice_get pins place ≡ Some pages) where
  -- a store of this part
  good_here : (papers : Papers) (s : Stored) → s.place ≡ place → IsOfPart parts s → IsOfPin a pins s → IsGood a (part_key object part.name) pages (insert papers (part_key object s.part.name) s.bytes)
  good_here papers s same of (pin, pinned, fetched) =
      let one : s.part ≡ part = same_Some s.part part (sym of ∙ ap (slice_get parts) same ∙ there) in
      let pages_are : pin ≡ pages = same_Some pin pages (sym pinned ∙ ap (slice_get pins) same ∙ under) in (
        s.bytes,
        ap (λ (p : Part). get (insert papers (part_key object s.part.name) s.bytes) (part_key object p.name)) (sym one) ∙ put_here papers (part_key object s.part.name) s.bytes,
        ap (list_bytes a) (sym pages_are) ∙ fetched.there,
      )

  -- a store of any part
  good_still : (papers : Papers) (s : Stored) → IsGood a (part_key object part.name) pages papers → IsOfPart parts s → IsOfPin a pins s → IsGood a (part_key object part.name) pages (insert papers (part_key object s.part.name) s.bytes)
  good_still papers s good of pinned = by_key (eq_by_cmp (slice_cmp nat_cmp) (part_key object part.name) (part_key object s.part.name)) refl where
    by_key : (b : Bool) → eq_by_cmp (slice_cmp nat_cmp) (part_key object part.name) (part_key object s.part.name) ≡ b → IsGood a (part_key object part.name) pages (insert papers (part_key object s.part.name) s.bytes)
    by_key true is =
        let keys : part_key object part.name ≡ part_key object s.part.name = tells_apart exact_bytes (part_key object part.name) (part_key object s.part.name) is in
        let names : part.name ≡ s.part.name = append_cancel_left (object ++ codes ".") part.name s.part.name keys in
        good_here papers s (sym (apart place s.place part s.part there of names)) of pinned
    by_key false is = (
      good.0,
      get-insert nat_list_cmp_total papers (part_key object s.part.name) s.bytes (part_key object part.name) ∙ ap (λ (b : Bool). cond b (Some s.bytes) (get papers (part_key object part.name))) is ∙ good.1,
      good.2,
    )

  good_then : (papers : Papers) (stores : List Stored) → IsGood a (part_key object part.name) pages papers → Every (IsOfPart parts) stores → Every (IsOfPin a pins) stores → IsGood a (part_key object part.name) pages (with_stores papers object stores)
  good_then papers [] good of pinned = good
  good_then papers (s ∷ more) good (of, all_of) (pinned, all_pinned) = good_then (insert papers (part_key object s.part.name) s.bytes) more (good_still papers s good of pinned) all_of all_pinned

  good_all : (papers : Papers) (stores : List Stored) → HasStore stores place → Every (IsOfPart parts) stores → Every (IsOfPin a pins) stores → IsGood a (part_key object part.name) pages (with_stores papers object stores)
  good_all papers [] (s, among, same) of pinned = absurd among
  good_all papers (first ∷ more) (s, inl is, same) (of, all_of) (pinned, all_pinned) =
      good_then (insert papers (part_key object first.part.name) first.bytes) more (good_here papers first (ap (λ (t : Stored). t.place) is ∙ same) of pinned) all_of all_pinned
  good_all papers (first ∷ more) (s, inr among, same) (of, all_of) (pinned, all_pinned) =
      good_all (insert papers (part_key object first.part.name) first.bytes) more (s, among, same) all_of all_pinned

-- the slips of an office that was closed stand in its history
slips_stand : (e : Ended) → IsAtEnd e → IsTrue e.became.closed → Every (StandsIn e.board.history) e.slips
slips_stand e ended closed =
    let all = subst (λ (v : Bool). IsClosed v e.name e.opening ended.inside e.seats e.slips) closed ended.closed in
    subst (λ (c : Board). Every (StandsIn c.history) e.slips) ended.of all.0.2

pub kept_is_history : KeptIsHistory
kept_is_history a e before papers contents ended closed hold shows =
    let o = e.board.object in
    let law = slips_are_legal a e.board e.slips contents ended.sound (slips_stand e ended closed) (closed_has_all e ended closed).2 hold shows in (
      law.0,
      λ apart saved stored place part there.
          let kind : slice_get (kinds_of o) place ≡ Some part.kind = slice_get-map (λ (p : Part). p.kind) o.parts.items place ∙ ap (option_map (λ (p : Part). p.kind)) there in
          let shown = law.1.each place part.kind kind in
          let has = stored.whole saved place (omega arith) (slice_get_within o.parts.items place part there) (slice_get_within o.parts.items place part there) in
          let good = good_all a o.name o.parts.items e.board.pins apart place part shown.0 there shown.2 before stored.stores has stored.parts (stored.pinned a refl) in
          let same : shown.4.bytes ≡ good.0 = same_Some shown.4.bytes good.0 (sym shown.4.there ∙ good.2) in
          record {
            bytes = good.0;
            there = ap (λ (p : Papers). get p (part_key o.name part.name)) stored.after ∙ good.1;
            value = shown.1;
            at = shown.3;
            spells = subst (λ (bs : List ℕ). Spells bs part.kind shown.1) same shown.4.spells;
          },
    )

-- an object that was closed began with its opening values
opening_shows : (a : Assignment) (e : Ended) (parts : List Part) → IsAtEnd e → IsTrue e.became.closed → ArePinned a parts e.opening.pins (values_of e.opening) → ShowContents a (kinds_of e.board.object) e.board.opening (values_of e.opening)
opening_shows a e parts ended closed pinned =
    let began = (closed_has_all e ended closed).1 in
    let kinds : map (λ (p : Part). p.kind) parts ≡ kinds_of e.board.object = kinds_are a parts e.opening.pins (values_of e.opening) pinned ∙ sym began.1 in
    subst (λ (ps : List (List Stamp)). ShowContents a (kinds_of e.board.object) ps (values_of e.opening)) (sym began.0)
    (subst (λ (ks : List Kind). ShowContents a ks e.opening.pins (values_of e.opening)) kinds (pins_show a parts e.opening.pins (values_of e.opening) pinned))

pub opening_is_kept : OpeningIsKept
opening_is_kept a e parts before papers ended closed hold pinned =
    let shows = opening_shows a e parts ended closed pinned in
    let kept = kept_is_history a e before papers (values_of e.opening) ended closed hold shows in
    (shows, kept.0, kept.1)

-- of it all, what the history is
pub opening_is_legal : (a : Assignment) (e : Ended) (parts : List Part) → IsAtEnd e → IsTrue e.became.closed → Every (IsTrueTold a) e.slips → ArePinned a parts e.opening.pins (values_of e.opening) →
    ShowContents a (kinds_of e.board.object) e.board.opening (values_of e.opening) × IsLegal (history_of e.board.history) (values_of e.opening)
opening_is_legal a e parts ended closed hold pinned =
    let kept = opening_is_kept a e parts empty empty ended closed hold pinned in
    (kept.0, kept.1)

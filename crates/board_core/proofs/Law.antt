-- Chained entries that are true are a legal history.
use Rattle.std.proofs.Common.{◌≡◌, ◌≢◌, ℕ, ◌⊎◌, inl, inr, List, [], ◌∷◌, Option, Some, None, refl, sym, ◌∙◌, ap, subst}
use Rattle.std.specs.Prelude.{slice_get, option_map}
use Rattle.std.specs.Int.{bit_at}
use Rattle.std.proofs.lemmas.Bool.{cases_eq}
use Rattle.std.proofs.lemmas.Option.{slice_get_within, slice_get-map}
use Rattle.value_core.specs.declared.kind.Kind.{Kind}
use Rattle.value_core.specs.declared.datum.Datum.{Datum}
use Rattle.value_core.specs.declared.format.Format.TheVariants.{Second}
use Rattle.value_core.specs.Contents.{Contents, kind_of}
use Rattle.value_bytes.specs.Spelling.{Spells}
use Rattle.value_bytes.specs.Laws.{AreBytes}
use Rattle.value_bytes.proofs.Bytes.{spelling_is_bytes}
use Rattle.value_bytes.proofs.Unique.{unique}
use Rattle.decl_core.specs.declared.object.Operation.{Operation}
use Rattle.decl_core.specs.Bodies.{body_of}
use Rattle.decl_core.specs.Form.{Body, Statements}
use Rattle.decl_core.specs.Footprint.{named_in_all}
use Rattle.decl_core.specs.FootprintLaws.{Agree}
use Rattle.decl_core.specs.Meaning.{apply_body, refused}
use Rattle.decl_core.specs.Touched.{Reads, Writes}
use Rattle.decl_core.specs.Typed.{IsHeld}
use Rattle.decl_core.proofs.Footprints.{apply_is_local, others_stay, writes_are_reads}
use Rattle.decl_core.proofs.DeclTouched.{reads_bits}
use Rattle.device_core.specs.declared.hand.Stamp.{Stamp}
use Rattle.device_core.specs.Device.{Assignment}
use Rattle.page_core.specs.Bytes.{list_bytes}
use Rattle.page_core.specs.PartPins.{PartPin, pin_at}
use Rattle.apply_core.specs.declared.reply.Reply.{Reply}
use Rattle.apply_core.specs.declared.reply.Reply.TheVariants.{Done, Refused, Failed}
use Rattle.apply_core.specs.Fits.{IsNamed}
use Rattle.apply_core.specs.History.{IsReplyOn, left_by}
use Rattle.page_core.specs.Given.{AreSpelled}
use Rattle.page_core.specs.Outcomes.{if_done}
use Rattle.page_core.specs.CallPins.{Call, call_of}
use Rattle.page_core.specs.Truths.{PinHolds, IsLeft, IsTrueAt, IsPinWhole, PinsAreWhole}
use Rattle.apply_core.proofs.HeldReads.{reads_held}
use Rattle.apply_core.proofs.Histories.{refused_leaves}
use Rattle.page_core.proofs.ListBytes.{some_same}
use Rattle.page_core.specs.ObjectCalls.{Noted}
use Rattle.board_core.specs.Board.{published}
use Rattle.board_core.specs.Chain.{pins_after, Follows, AreOf, Shows, ShowContents, IsTrueEntry, ChainedAreLegal}
use Rattle.decl_core.proofs.KindsStay.{kinds_stay}
use Rattle.board_core.proofs.Published.{length-published, published_there, published_elsewhere, has_pin}

-- of one pin there is one value
one_value : (a : Assignment) (pin : List Stamp) (bs cs : List ℕ) (k l : Kind) (v w : Contents) → list_bytes a pin ≡ Some bs → list_bytes a pin ≡ Some cs → Spells bs k v → Spells cs l w → v ≡ w
one_value a pin bs cs k l v w here there first second =
    unique bs k l v w first (subst (λ bytes. Spells bytes l w) (some_same (sym there ∙ here)) second)

read_or_not : (all : Statements) (p : ℕ) → Reads all p ⊎ (Reads all p → ⊥)
read_or_not all p = elim (cases_eq (bit_at (named_in_all all 0) p) 1) [
  | inl set ↦ inl ((reads_bits all _ refl p).0 set)
  | inr not ↦ inr (λ h. not ((reads_bits all _ refl p).1 h))
]

-- what an operation reads is named by it, with its kind
named_of : (operation : Operation) (p : ℕ) → Reads (body_of operation).statements p → (kind : Kind) × IsNamed operation p kind
named_of operation p reads =
    let held : IsHeld operation.kinds.items p = reads_held operation p reads in
    (held.kind, record { named = reads; held = held.held })

-- the values that an entry read are the contents, where it reads
read_here : (a : Assignment) (kinds : List Kind) (pins : List (List Stamp)) (contents parts : List Contents) (e : Noted) → AreOf kinds e.operation → Follows pins e → ShowContents a kinds pins contents
    → AreSpelled (PinHolds a e.pins) e.operation parts → Agree (Reads (body_of e.operation).statements) parts contents
read_here a kinds pins contents parts e of follows shows spelled p reads =
    let named = named_of e.operation p reads in
    let told = spelled p named.0 named.1 in
    let here = shows.each p named.0 (of p named.0 named.1) in
    let pin : told.1.0 ≡ here.0 = some_same (sym told.1.1 ∙ follows.reads p reads ∙ here.2) in
    told.2.1 ∙ ap Some (one_value a here.0 told.0 here.4.bytes named.0 named.0 told.2.0 here.1 (subst (λ s. list_bytes a s ≡ Some told.0) pin told.1.2) here.4.there told.2.2 here.4.spells) ∙ sym here.3

-- what shows a value is whole, and bytes
is_whole : (a : Assignment) (kind : Kind) (pages : List Stamp) (value : Contents) → Shows a kind pages value → IsPinWhole a pages
is_whole a kind pages value shows = record {
  whole = shows.whole;
  bytes = shows.bytes;
  there = shows.there;
  are = subst AreBytes (sym shows.spells.spelled) (spelling_is_bytes Second value shows.spells.contents);
}

-- the pins of a call are whole that are those of pins that show contents, where it reads
pub pins_whole : (a : Assignment) (kinds : List Kind) (pins : List (List Stamp)) (contents : List Contents) (call : Call) → ShowContents a kinds pins contents → AreOf kinds call.operation
    → ((p : ℕ) → Reads (body_of call.operation).statements p → slice_get pins p ≡ pin_at call.pins p) → PinsAreWhole a call
pins_whole a kinds pins contents call shows of same p kind pin named is =
    let here = shows.each p kind (of p kind named) in
    subst (IsPinWhole a) (some_same (sym here.2 ∙ same p named.named ∙ is)) (is_whole a kind here.0 here.1 here.4)

-- the pins that an entry read are whole
whole_here : (a : Assignment) (kinds : List Kind) (pins : List (List Stamp)) (contents : List Contents) (e : Noted) → AreOf kinds e.operation → Follows pins e → ShowContents a kinds pins contents
    → PinsAreWhole a (call_of e.number e.operation e.arguments e.pins)
whole_here a kinds pins contents e of follows shows = pins_whole a kinds pins contents (call_of e.number e.operation e.arguments e.pins) shows of (λ p reads. sym (follows.reads p reads))

-- the kind of a part after a body
kind_after : (body : Body) (args : List Datum) (before : List Contents) (p : ℕ) (old new : Contents) → slice_get before p ≡ Some old → slice_get (apply_body body args before).1 p ≡ Some new → kind_of new ≡ kind_of old
kind_after body args before p old new there after =
    some_same (sym (ap (option_map kind_of) after) ∙ sym (slice_get-map kind_of (apply_body body args before).1 p) ∙ ap (λ ks. slice_get ks p) (kinds_stay body args before) ∙ slice_get-map kind_of before p ∙ ap (option_map kind_of) there)

-- one part, after an entry that was done
module _ (a : Assignment) (kinds : List Kind) (pins : List (List Stamp)) (contents parts : List Contents) (e : Noted) where
  abbrev body : Body
  body = body_of e.operation

  abbrev left : List Contents
  left = (apply_body body e.arguments parts).1

  abbrev after : List Contents
  after = (apply_body body e.arguments contents).1

  module _ (agree : Agree (Reads body.statements) parts contents) (shows : ShowContents a kinds pins contents) where
    stays : (p : ℕ) → slice_get left p ≡ slice_get parts p → slice_get after p ≡ slice_get contents p
    stays p same = elim (read_or_not body.statements p) [
      | inl reads ↦ sym ((apply_is_local body e.arguments parts contents agree).1 p reads) ∙ same ∙ agree p reads
      | inr none ↦ (others_stay body e.arguments contents).1 p (λ writes. none (writes_are_reads body p writes))
    ]

    part_after : (news : List PartPin) (p : ℕ) (kind : Kind) → slice_get kinds p ≡ Some kind → ((s : List Stamp) → pin_at news p ≡ Some s → Writes body.statements p)
        → (new : Option (List Stamp)) → pin_at news p ≡ new → IsLeft a (slice_get parts p) (slice_get left p) new
        → (pin : List Stamp) × (value : Contents) × (slice_get (published pins news) p ≡ Some pin) × (slice_get after p ≡ Some value) × Shows a kind pin value
    part_after news p kind at writes None is same =
        let here = shows.each p kind at in
        (here.0, here.1, published_elsewhere pins news p is ∙ here.2, stays p same ∙ here.3, here.4)
    part_after news p kind at writes (Some stamp) is told =
        let here = shows.each p kind at in
        let reads = writes_are_reads body p (writes stamp is) in
        let now : slice_get after p ≡ Some told.0 = sym ((apply_is_local body e.arguments parts contents agree).1 p reads) ∙ told.1 in
        let kept : kind_of told.0 ≡ kind = kind_after body e.arguments contents p here.1 told.0 here.3 now ∙ here.4.spells.kind in (
          stamp,
          told.0,
          published_there pins news p stamp is (slice_get_within pins p here.0 here.2),
          now,
          record { whole = told.3.2; bytes = told.3.0; there = told.3.3; spells = subst (λ k. Spells told.3.0 k told.0) kept told.3.1 },
        )

module _ (a : Assignment) (kinds : List Kind) (pins : List (List Stamp)) (contents : List Contents) (e : Noted) (of : AreOf kinds e.operation) (follows : Follows pins e) (shows : ShowContents a kinds pins contents) where
  -- one entry
  goes_on : (reply : Reply) → ((p : ℕ) → pin_at (if_done reply e.news) p ≢ None → Writes (body_of e.operation).statements p) → IsTrueAt a (call_of e.number e.operation e.arguments e.pins) reply e.news
      → IsReplyOn reply (body_of e.operation) e.arguments contents × ShowContents a kinds (published pins (if_done reply e.news)) (left_by reply (body_of e.operation) e.arguments contents)
  goes_on (Done reply) writes told =
      let agree = read_here a kinds pins contents told.parts e of follows shows told.spelled in (
        sym (apply_is_local (body_of e.operation) e.arguments told.parts contents agree).0 ∙ told.gives,
        record {
          pins_each = length-published pins e.news ∙ shows.pins_each;
          contents_each = (others_stay (body_of e.operation) e.arguments contents).0 ∙ shows.contents_each;
          each = λ p kind at. part_after a kinds pins contents told.parts e agree shows e.news p kind at (λ s is. writes p (has_pin e.news p s is)) (pin_at e.news p) refl (told.leaves p);
        },
      )
  goes_on (Refused word) writes told =
      let agree = read_here a kinds pins contents told.0.parts e of follows shows told.0.spelled in
      let gives : (apply_body (body_of e.operation) e.arguments contents).0 ≡ refused word = sym (apply_is_local (body_of e.operation) e.arguments told.0.parts contents agree).0 ∙ told.0.gives in
      (gives, subst (ShowContents a kinds pins) (sym (refused_leaves (body_of e.operation) e.arguments contents word gives)) shows)
  goes_on (Failed failure) writes told = (tt, shows)

pub chained_are_legal : ChainedAreLegal
chained_are_legal a kinds opening last [] contents of chain shows told = (tt, subst (λ pins. ShowContents a kinds pins contents) (sym chain) shows)
chained_are_legal a kinds opening last (e ∷ es) contents of chain shows told =
    let t : IsTrueEntry a e = told.0 in
    let truth : IsTrueAt a (call_of e.number e.operation e.arguments e.pins) e.reply e.news = t (whole_here a kinds opening contents e of.0 chain.0 shows) in
    let one = goes_on a kinds opening contents e of.0 chain.0 shows e.reply chain.0.writes truth in
    let rest = chained_are_legal a kinds (pins_after opening e) last es (left_by e.reply (body_of e.operation) e.arguments contents) of.1 chain.1 one.1 told.1 in
    ((one.0, rest.0), rest.1)

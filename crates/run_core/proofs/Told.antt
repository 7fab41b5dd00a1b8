-- What was judged of what was seen holds of the bytes under the pins.
use Rattle.std.proofs.Common.{◌≡◌, ℕ, List, [], ◌∷◌, sym, ap, ◌∙◌, subst}
use Rattle.std.specs.Prelude.{slice_index}
use Rattle.std.specs.Int.{bit_at}
use Rattle.value_core.specs.declared.datum.Datum.{Datum}
use Rattle.value_core.specs.declared.kind.Kind.{Kind}
use Rattle.value_core.specs.Contents.{Contents}
use Rattle.decl_core.specs.declared.object.Operation.{Operation}
use Rattle.device_core.specs.Device.{Assignment}
use Rattle.apply_core.specs.Fits.{IsNamed}
use Rattle.known_core.specs.Wanted.{IsWanted, IsNextPage}
use Rattle.run_core.specs.declared.judge.Change.{Change}
use Rattle.page_core.specs.Given.{AreSpelled}
use Rattle.run_core.specs.Verdicts.{ReadAs}
use Rattle.run_core.specs.declared.judge.Verdict.{Verdict}
use Rattle.run_core.specs.declared.judge.Verdict.TheVariants.{Done, Refused, Needs, Damaged, Memory}
use Rattle.run_core.specs.Reads.{AreKnown}
use Rattle.run_core.specs.Judged.{JudgedOn, IsNextOf}
use Rattle.run_core.specs.Wholes.{IsWholeChange, AreWholeChanges}
use Rattle.page_core.specs.CallPins.{Call}
use Rattle.page_core.specs.Truths.{PinHolds}
use Rattle.run_core.specs.Seen.{IsSeen, JudgedBy}
use Rattle.run_core.proofs.SeenWholes.{wholes_under, whole_at, holds_whole}

module _ (a : Assignment) (call : Call) (masks : List ℕ) (read : List (List ℕ)) (seen : IsSeen a call masks read) where
  abbrev Whole : ℕ → List ℕ → Type 0
  Whole = ReadAs (wholes_under a call.pins read)

  -- what stands there of a part that the operation reads is under its pin
  held : (p : ℕ) (k : Kind) (bytes : List ℕ) → IsNamed call.operation p k → Whole p bytes → PinHolds a call.pins p bytes
  held p k bytes named is = let known = seen.known p k named in holds_whole a call.pins read p known.filled known.whole bytes known.there known.held is

  -- what was seen is what is known of it
  known_there : AreKnown masks call.operation read Whole
  known_there p k named =
      let h = seen.known p k named in
      record { filled = h.filled; there = h.there; whole = h.whole; held = whole_at a call.pins read p h.filled h.whole h.there h.held; known = h.known }

  spelled_under : (parts : List Contents) → AreSpelled Whole call.operation parts → AreSpelled (PinHolds a call.pins) call.operation parts
  spelled_under parts spelled p k named = let s = spelled p k named in (s.0, held p k s.0 named s.1, s.2)

  wholes_held : (changes wholes : List Change) → AreWholeChanges masks call.operation read Whole changes wholes → AreWholeChanges masks call.operation read (PinHolds a call.pins) changes wholes
  wholes_held [] [] made = tt
  wholes_held [] (whole ∷ wholes) made = absurd made
  wholes_held (change ∷ changes) [] made = absurd made
  wholes_held (change ∷ changes) (whole ∷ wholes) made =
      let m : IsWholeChange masks call.operation read Whole change whole = made.0 in (
        record { part = m.part; kind = m.kind; named = m.named; filled = m.filled; was_read = m.was_read; before = m.before; was = held change.part m.kind m.before m.named m.was; made = m.made },
        wholes_held changes wholes made.1,
      )

  by_verdict : (verdict : Verdict) → JudgedOn masks call.operation call.arguments read (wholes_under a call.pins read) verdict → JudgedBy a call masks read verdict
  by_verdict (Done reply changes) h = record {
    parts = h.parts;
    spelled = spelled_under h.parts h.spelled;
    gives = h.gives;
    leaves = record { wholes = h.leaves.wholes; made = wholes_held changes.items h.leaves.wholes h.leaves.made; are = h.leaves.are };
  }
  by_verdict (Refused word) h = record { parts = h.parts; spelled = spelled_under h.parts h.spelled; gives = h.gives }
  by_verdict (Needs p k) h = record { parts = h.parts; spelled = spelled_under h.parts h.spelled; element = h.element; comes = h.comes; page = h.page }
  by_verdict Damaged h = record { p = h.p; kind = h.kind; named = h.named; bytes = h.bytes; there = held h.p h.kind h.bytes h.named h.there; spell_none = h.spell_none }
  by_verdict Memory h = tt

  -- what was judged with these masks, of this operation on these arguments and bytes
  abbrev IsJudged : List ℕ → Operation → List Datum → List (List ℕ) → Verdict → Type 0
  IsJudged fit operation arguments got verdict = (whole : List (List ℕ)) → AreKnown fit operation got (ReadAs whole) → JudgedOn fit operation arguments got whole verdict

  pub told : (fit : List ℕ) (operation : Operation) (arguments : List Datum) (got : List (List ℕ)) (verdict : Verdict) → fit ≡ masks → operation ≡ call.operation → arguments ≡ call.arguments → got ≡ read → IsJudged fit operation arguments got verdict
      → JudgedBy a call masks read verdict
  told fit operation arguments got verdict masks_are same given got_is judged =
      let is : IsJudged masks call.operation call.arguments read verdict =
      subst (λ (m : List ℕ). IsJudged m call.operation call.arguments read verdict) masks_are
      (subst (λ (o : Operation). IsJudged fit o call.arguments read verdict) same
      (subst (λ (ds : List Datum). IsJudged fit operation ds read verdict) given
      (subst (λ (g : List (List ℕ)). IsJudged fit operation arguments g verdict) got_is judged))) in
      by_verdict verdict (is (wholes_under a call.pins read) known_there)

-- what is needed is the next page of these masks
pub next_of : (masks fit : List ℕ) (operation asked : Operation) (verdict : Verdict) (p k : ℕ) → operation ≡ asked → ((q : ℕ) → IsWanted operation q → slice_index fit q ≡ slice_index masks q) → verdict ≡ Needs p k → IsNextOf fit operation verdict → IsNextPage masks asked p k
next_of masks fit operation asked verdict p k same fits is next =
    let n : IsNextPage fit operation p k = subst (IsNextOf fit operation) is next in
    let here : IsNextPage masks operation p k = record { wanted = n.wanted; few = n.few; there = n.there; clear = ap (λ m. bit_at m k) (sym (fits p n.wanted)) ∙ n.clear } in
    subst (λ o. IsNextPage masks o p k) same here

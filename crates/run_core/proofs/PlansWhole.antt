-- A plan of what was seen is a plan of the bytes under the pins.
use Rattle.std.proofs.Common.{◌≡◌, ℕ, ◌+◌, ◌<◌, ◌≤◌, ◌⊎◌, inl, inr, true, List, [], ◌∷◌, length, Some, refl, sym, ap, ◌∙◌, subst, arith}
use Rattle.std.specs.Prelude.{slice_get, ◌==◌}
use Rattle.value_core.specs.declared.kind.Elem.TheVariants as elem
use Rattle.value_core.specs.declared.kind.Kind.{Kind}
use Rattle.value_core.specs.declared.kind.Kind.TheVariants as kind
use Rattle.value_core.specs.Contents.{Contents}
use Rattle.value_bytes.specs.Spelling.{Spells}
use Rattle.decl_core.specs.declared.object.Operation.{Operation}
use Rattle.decl_core.specs.Bodies.{body_of}
use Rattle.device_core.specs.declared.hand.Stamp.{Stamp}
use Rattle.device_core.specs.Device.{Assignment}
use Rattle.apply_core.specs.Fits.{IsNamed}
use Rattle.apply_core.specs.Pages.{page_bytes}
use Rattle.apply_core.proofs.PieceSpelled.{frame_is_due}
use Rattle.page_core.specs.declared.plan.PageWrite.{PageWrite}
use Rattle.page_core.specs.Bytes.{list_bytes, AreWhole, AreCutBy, split_by}
use Rattle.page_core.specs.Cut.{lengths, AreFull, IsPageSize}
use Rattle.page_core.specs.Laws.{PartRenewal, ArePlanned, one_part}
use Rattle.page_core.specs.PartPins.{pin_at}
use Rattle.page_core.specs.Plans.{Plans}
use Rattle.page_core.proofs.ListBytes.{some_same}
use Rattle.known_core.specs.Wanted.{IsFull}
use Rattle.run_core.specs.declared.judge.Change.{Change}
use Rattle.page_core.specs.Given.{AreSpelled}
use Rattle.run_core.specs.Written.{WritesInOrder, parts_changed}
use Rattle.run_core.specs.Reads.{pages_of, IsKnownAs}
use Rattle.run_core.specs.Wholes.{AreNewAs, IsWholeChange, AreWholeChanges}
use Rattle.run_core.proofs.Alike.{plans_of_wholes}
use Rattle.page_core.specs.CallPins.{Call}
use Rattle.run_core.specs.CallPlanned.{IsRenewalOf, AreRenewals, no_part, same, renewed}
use Rattle.page_core.specs.Truths.{PinHolds, PinsAreWhole}
use Rattle.run_core.specs.Seen.{IsSeen, IsPaged}
use Rattle.run_core.specs.SeenLaws.{PlansAreWhole}
use Rattle.run_core.proofs.SeenWholes.{wholes_under, whole_at, holds_once, are_read, list_long, same_pages}

-- the whole changes are of the same parts
parts_same : (masks : List ℕ) (operation : Operation) (read : List (List ℕ)) (at : ℕ → List ℕ → Type 0) (changes wholes : List Change) → AreWholeChanges masks operation read at changes wholes → parts_changed changes ≡ parts_changed wholes
parts_same masks operation read at [] [] made = refl
parts_same masks operation read at [] (whole ∷ wholes) made = absurd made
parts_same masks operation read at (change ∷ changes) [] made = absurd made
parts_same masks operation read at (change ∷ changes) (whole ∷ wholes) made =
    let first : change.part ≡ whole.part = sym made.0.part in
    let rest : parts_changed changes ≡ parts_changed wholes = parts_same masks operation read at changes wholes made.1 in
    λ i. first i ∷ rest i

-- few bytes are cut into pages of the least size
least_size : (count size : ℕ) → IsPageSize count size → count ≤ 4100 → size ≡ 1024
least_size count size (inl is) few = is.1
least_size count size (inr is) few = absurd (omega (arith, is.0, few))

-- the same plan, over whole bytes
record IsPlanThere (size place : ℕ) (olds : List Stamp) (before bytes after : List ℕ) (here : List (List ℕ)) (stamps : List Stamp) (writes : List PageWrite) (gone : List Stamp) : Type 0 where
  there : List (List ℕ)
  long : length after ≡ length bytes
  cut : AreCutBy size after there
  many : length there ≡ length here
  plan : Plans place olds (split_by (lengths olds) before) there stamps writes gone

module _ (size place : ℕ) (olds : List Stamp) (filled bytes before after : List ℕ) (here : List (List ℕ)) (stamps : List Stamp) (writes : List PageWrite) (gone : List Stamp) (cut : AreCutBy size bytes here) (plan : Plans place olds (split_by (lengths olds) filled) here stamps writes gone) where
  -- where all is known
  same_plan : filled ≡ before → after ≡ bytes → IsPlanThere size place olds before bytes after here stamps writes gone
  same_plan known new = record {
    there = here;
    long = ap length new;
    cut = subst (λ (b : List ℕ). AreCutBy size b here) (sym new) cut;
    many = refl;
    plan = subst (λ (b : List ℕ). Plans place olds (split_by (lengths olds) b) here stamps writes gone) known plan;
  }

  module _ (a : Assignment) (call : Call) (masks : List ℕ) (read : List (List ℕ)) (seen : IsSeen a call masks read) where
    there_of : (k : Kind) (p : ℕ) → IsNamed call.operation p k → (value : Contents) × Spells before k value → pin_at call.pins p ≡ Some olds → list_bytes a olds ≡ Some before → AreWhole a olds → IsPageSize (length bytes) size
        → IsKnownAs k (pages_of masks p) filled before → AreNewAs k (pages_of masks p) filled bytes before after → IsPlanThere size place olds before bytes after here stamps writes gone
    there_of (kind.Array n elem.Integer) p named spelled pinned held whole least known new = by_split (seen.split p (record { many = n; named = named })) where
      few : length before ≤ 4100
      few = let frame = frame_is_due n before spelled.0 spelled.1 in omega (arith, frame.0.long, frame.1)

      by_split : IsPaged call p ⊎ IsFull masks p → IsPlanThere size place olds before bytes after here stamps writes gone
      by_split (inl paged) =
          let is : size ≡ page_bytes = least_size (length bytes) size least (omega (arith, few, known.long, new.long)) in
          let full : AreFull page_bytes (lengths olds) = subst (λ (s : List Stamp). AreFull page_bytes (lengths s)) (some_same (sym paged.pinned ∙ pinned)) paged.full in
          let found = plans_of_wholes (pages_of masks p) filled bytes before after place olds here stamps writes gone known new full (list_long a olds before held whole) (subst (λ s. AreCutBy s bytes here) is cut) plan in
          record {
            there = found.0;
            long = omega (arith, known.long, new.long, new.long_whole);
            cut = subst (λ s. AreCutBy s after found.0) (sym is) found.1;
            many = found.2;
            plan = found.3;
          }
      by_split (inr full) =
          let each : (k : ℕ) → k < 8 → pages_of masks p k ≡ true = λ k less. ap (λ b. b == 1) (full k less) in
          same_plan
          (same_pages filled before (omega (arith, known.long)) (omega (arith, few, known.long)) (λ k less. sym (known.same k (each k less))))
          (same_pages after bytes (omega (arith, known.long, new.long, new.long_whole)) (omega (arith, few, new.long_whole)) (λ k less. new.known k (each k less)))
    there_of (kind.Array n elem.Text) p named spelled pinned held whole least known new = same_plan known new
    there_of (kind.Queue e) p named spelled pinned held whole least known new = same_plan known new
    there_of (kind.Table e) p named spelled pinned held whole least known new = same_plan known new

module _ (a : Assignment) (call : Call) (masks : List ℕ) (read : List (List ℕ)) (pins : PinsAreWhole a call) (seen : IsSeen a call masks read) (parts : List Contents) (spelled : AreSpelled (PinHolds a call.pins) call.operation parts) where
  -- one changed part
  record IsPartThere (change whole : Change) (part : PartRenewal) (place : ℕ) (stamps : List Stamp) (writes : List PageWrite) (gone : List Stamp) : Type 0 where
    one : PartRenewal
    renewal : IsRenewalOf call.pins (wholes_under a call.pins read) whole one
    many : length one.pages ≡ length part.pages
    plan : Plans place one.olds (split_by (lengths one.olds) one.before) one.pages stamps writes gone

  part_there : (change whole : Change) (part : PartRenewal) (place : ℕ) (stamps : List Stamp) (writes : List PageWrite) (gone : List Stamp) → IsWholeChange masks call.operation read (PinHolds a call.pins) change whole → IsRenewalOf call.pins read change part
      → Plans place part.olds (split_by (lengths part.olds) part.before) part.pages stamps writes gone → IsPartThere change whole part place stamps writes gone
  part_there change whole part place stamps writes gone made is plan =
      let p : ℕ = change.part in
      let known = seen.known p made.kind made.named in
      let held : PinHolds a call.pins p made.before = made.was in
      let olds : held.0 ≡ part.olds = some_same (sym held.1 ∙ is.pinned) in
      let list : list_bytes a part.olds ≡ Some made.before = subst (λ (s : List Stamp). list_bytes a s ≡ Some made.before) olds held.2 in
      let whole_list : AreWhole a part.olds = (pins p made.kind part.olds made.named is.pinned).whole in
      let spells = spelled p made.kind made.named in
      let first : known.filled ≡ part.before = some_same (sym known.there ∙ is.there) in
      let first_too : made.filled ≡ part.before = some_same (sym made.was_read ∙ is.there) in
      let before : known.whole ≡ made.before = holds_once a call.pins p known.whole made.before known.held held in
      let before_too : spells.0 ≡ made.before = holds_once a call.pins p spells.0 made.before spells.1 held in
      let is_known : IsKnownAs made.kind (pages_of masks p) part.before made.before =
      subst (λ (b : List ℕ). IsKnownAs made.kind (pages_of masks p) b made.before) first (subst (λ (b : List ℕ). IsKnownAs made.kind (pages_of masks p) known.filled b) before known.known) in
      let is_new : AreNewAs made.kind (pages_of masks p) part.before change.bytes made.before whole.bytes = subst (λ (b : List ℕ). AreNewAs made.kind (pages_of masks p) b change.bytes made.before whole.bytes) first_too made.made in
      let found = there_of is.size place part.olds part.before change.bytes made.before whole.bytes part.pages stamps writes gone (subst (λ (b : List ℕ). AreCutBy is.size b part.pages) is.after is.cut) plan a call masks read seen made.kind p made.named
      (spells.2.0, subst (λ (b : List ℕ). Spells b made.kind spells.2.0) before_too spells.2.2) is.pinned list whole_list is.least is_known is_new in
      record {
        one = record { olds = part.olds; before = made.before; after = whole.bytes; pages = found.there };
        renewal = record {
          pinned = ap (pin_at call.pins) made.part ∙ is.pinned;
          there = ap (slice_get (wholes_under a call.pins read)) made.part ∙ whole_at a call.pins read p made.filled made.before made.was_read held;
          after = refl;
          size = is.size;
          least = subst (λ n. IsPageSize n is.size) (sym found.long) is.least;
          cut = found.cut;
          some = omega (arith, is.some, found.many);
        };
        many = found.many;
        plan = found.plan;
      }

  -- all of them
  record AreThere (from place : ℕ) (wholes : List Change) (counts : List ℕ) (stamps : List Stamp) (writes : List PageWrite) (gone : List Stamp) : Type 0 where
    ones : List PartRenewal
    renewals : AreRenewals call.pins (wholes_under a call.pins read) from wholes ones counts
    plans : ArePlanned place ones stamps writes gone

  are_there : (from place : ℕ) (changes wholes : List Change) (before : List PartRenewal) (counts : List ℕ) (stamps : List Stamp) (writes : List PageWrite) (gone : List Stamp) → AreRenewals call.pins read from changes before counts → ArePlanned place before stamps writes gone
      → AreWholeChanges masks call.operation read (PinHolds a call.pins) changes wholes → AreThere from place wholes counts stamps writes gone
  are_there from place changes [] before counts stamps writes gone no_part plans made = record { ones = []; renewals = no_part; plans = plans }
  are_there from place changes (whole ∷ wholes) before counts stamps writes gone no_part plans made = absurd made
  are_there from place changes wholes before counts stamps writes gone (same changes1 before1 rest r) plans made =
      let g = are_there (from + 1) place changes1 wholes before1 rest stamps writes gone r plans made in
      record { ones = g.ones; renewals = same wholes g.ones rest g.renewals; plans = g.plans }
  are_there from place changes [] before counts stamps writes gone (renewed change part changes1 before1 rest count at is counted r) plans made = absurd made
  are_there from place changes (whole ∷ wholes) before counts stamps writes gone (renewed change part changes1 before1 rest count at is counted r) (one_part part1 before2 size first second first_writes second_writes first_gone second_gone cut plan behind) made =
      let o = part_there change whole part place first first_writes first_gone made.0 is plan in
      let g = are_there (from + 1) (place + length first) changes1 wholes before1 rest second second_writes second_gone r behind made.1 in
      record {
        ones = o.one ∷ g.ones;
        renewals = renewed whole o.one wholes g.ones rest count (made.0.part ∙ at) o.renewal (counted ∙ sym o.many) g.renewals;
        plans = one_part o.one g.ones o.renewal.size first second first_writes second_writes first_gone second_gone o.renewal.cut o.plan g.plans;
      }

pub plans_are_whole : PlansAreWhole
plans_are_whole a call masks read reply changes counts stamps writes gone pins needed seen order done planned =
    let left = done.leaves in
    let there = are_there a call masks read pins seen done.parts done.spelled 0 0 changes left.wholes planned.parts counts stamps writes gone planned.renewals planned.plans left.made in
    record {
      read = wholes_under a call.pins read;
      changes = left.wholes;
      known = are_read a call masks read pins seen;
      order = subst (WritesInOrder (body_of call.operation).statements 0) (parts_same masks call.operation read (PinHolds a call.pins) changes left.wholes left.made) order;
      given = record { parts = done.parts; spelled = done.spelled; gives = done.gives; leaves = left.are };
      planned = record { parts = there.ones; renewals = there.renewals; plans = there.plans };
    }

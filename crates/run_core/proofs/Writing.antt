-- What a run has sealed, with one file more, and when all of it is sealed.
use Rattle.std.proofs.Common.{◌≡◌, ℕ, ◌+◌, ◌≤◌, List, [], ◌∷◌, ◌++◌, length, Option, Some, refl, sym, ap, ◌∙◌, subst, arith}
use Rattle.std.specs.Prelude.{slice_get, slice_set}
use Rattle.value_core.specs.declared.datum.Datum.{Datum}
use Rattle.decl_core.specs.Bodies.{body_of}
use Rattle.decl_core.specs.Meaning.{apply_body}
use Rattle.device_core.specs.declared.hand.Stamp.{Stamp}
use Rattle.device_core.specs.Device.{Assignment, Holds}
use Rattle.apply_core.specs.declared.reply.Reply.TheVariants as replies
use Rattle.page_core.specs.declared.plan.PageWrite.{PageWrite}
use Rattle.page_core.specs.PartPins.{PartPin, pins_by}
use Rattle.page_core.specs.Renewed.{with_sealed, AreSealed}
use Rattle.page_core.proofs.ListBytes.{some_same}
use Rattle.run_core.specs.declared.judge.Change.{Change}
use Rattle.page_core.specs.Given.{IsDone}
use Rattle.run_core.specs.Given.{AreChanges}
use Rattle.run_core.specs.Written.{WritesInOrder, parts_changed}
use Rattle.run_core.specs.declared.plan.PagePlan.{PagePlan}
use Rattle.page_core.specs.CallPins.{Call}
use Rattle.page_core.specs.Laws.{PartRenewal, ArePlanned, one_part}
use Rattle.page_core.specs.Laws.{no_part as no_row}
use Rattle.run_core.specs.CallPlanned.{IsPlanned, AreRenewals, no_part, same, renewed}
use Rattle.run_core.specs.Read.{AreRead}
use Rattle.page_core.specs.Truths.{PinHolds, AreLeft, IsTrueAt}
use Rattle.run_core.specs.SeenLaws.{IsPlanOf}
use Rattle.run_core.proofs.Left.{new_pins_are_left, changed_are_read}
use Rattle.run_core.specs.Phases.{IsSealedSoFar, IsWritten, IsRenewedBy}

-- one file more is sealed
sealed_more : (a : Assignment) (writes : List PageWrite) (sealed : List Stamp) (write : PageWrite) (new : Stamp) → slice_get writes (length sealed) ≡ Some write → Holds a new write.bytes → AreSealed a writes sealed → AreSealed a writes (sealed ++ new ∷ [])
sealed_more a [] [] write new is holds sealed = absurd cc
sealed_more a [] (s ∷ more) write new is holds sealed = absurd sealed
sealed_more a (w ∷ writes) [] write new is holds sealed = (subst (λ (x : PageWrite). Holds a new x.bytes) (sym (some_same is)) holds, tt)
sealed_more a (w ∷ writes) (s ∷ more) write new is holds sealed = (sealed.0, sealed_more a writes more write new is holds sealed.1)

-- it stands in its place
placed_more : (stamps : List Stamp) (writes : List PageWrite) (sealed : List Stamp) (write : PageWrite) (new : Stamp) → slice_get writes (length sealed) ≡ Some write → with_sealed stamps writes (sealed ++ new ∷ []) ≡ slice_set (with_sealed stamps writes sealed) write.place new
placed_more stamps [] [] write new is = absurd cc
placed_more stamps [] (s ∷ more) write new is = absurd cc
placed_more stamps (w ∷ []) [] write new is = ap (λ (x : PageWrite). slice_set stamps x.place new) (some_same is)
placed_more stamps (w ∷ x ∷ writes) [] write new is = ap (λ (x : PageWrite). slice_set stamps x.place new) (some_same is)
placed_more stamps (w ∷ writes) (s ∷ more) write new is = placed_more (slice_set stamps w.place s) writes more write new is

-- a plan with one file more
pub record IsWithOne (pages after : PagePlan) (write : PageWrite) (new : Stamp) : Type 0 where
  pub next : slice_get pages.writes.items (length pages.sealed.items) ≡ Some write
  pub counts : after.counts ≡ pages.counts
  pub stamps : after.stamps.items ≡ slice_set pages.stamps.items write.place new
  pub writes : after.writes.items ≡ pages.writes.items
  pub gone : after.gone.items ≡ pages.gone.items
  pub sealed : after.sealed.items ≡ pages.sealed.items ++ new ∷ []

so_far_more : (pins : List PartPin) (read : List (List ℕ)) (changes : List Change) (pages after : PagePlan) (write : PageWrite) (new : Stamp) → IsWithOne pages after write new → IsSealedSoFar pins read changes pages → IsSealedSoFar pins read changes after
so_far_more pins read changes pages after write new one so = record {
  first = so.first;
  planned = subst (λ (cs : List ℕ). IsPlanned pins read changes cs so.first after.writes.items after.gone.items) (sym one.counts)
      (subst (λ (ws : List PageWrite). IsPlanned pins read changes pages.counts so.first ws after.gone.items) (sym one.writes)
      (subst (λ (g : List Stamp). IsPlanned pins read changes pages.counts so.first pages.writes.items g) (sym one.gone) so.planned));
  stamps = one.stamps ∙ ap (λ (s : List Stamp). slice_set s write.place new) so.stamps ∙ sym (placed_more so.first pages.writes.items pages.sealed.items write new one.next)
      ∙ ap (λ (s : List Stamp). with_sealed so.first pages.writes.items s) (sym one.sealed) ∙ ap (λ (ws : List PageWrite). with_sealed so.first ws after.sealed.items) (sym one.writes);
}

pub written_more : (a : Assignment) (call : Call) (reply : Option Datum) (pages after : PagePlan) (write : PageWrite) (new : Stamp) → IsWithOne pages after write new → Holds a new write.bytes → IsWritten a call reply pages → IsWritten a call reply after
written_more a call reply pages after write new one holds is = record {
  read = is.read;
  changes = is.changes;
  known = is.known;
  order = is.order;
  given = is.given;
  planned = so_far_more call.pins is.read is.changes pages after write new one is.planned;
  sealed = subst (λ (ws : List PageWrite). AreSealed a ws after.sealed.items) (sym one.writes)
      (subst (λ (s : List Stamp). AreSealed a pages.writes.items s) (sym one.sealed) (sealed_more a pages.writes.items pages.sealed.items write new one.next holds is.sealed));
}

-- no more are sealed than are written
few_sealed : (a : Assignment) (writes : List PageWrite) (sealed : List Stamp) → AreSealed a writes sealed → length sealed ≤ length writes
few_sealed a writes [] are = omega arith
few_sealed a [] (s ∷ sealed) are = absurd are
few_sealed a (w ∷ writes) (s ∷ sealed) are = omega (arith, few_sealed a writes sealed are.1)

-- once all pages are sealed the new page lists hold what the body left
pub all_left : (a : Assignment) (call : Call) (reply : Option Datum) (read : List (List ℕ)) (changes : List Change) (counts : List ℕ) (first : List Stamp) (writes : List PageWrite) (gone sealed : List Stamp) (news : List PartPin) → IsPlanned call.pins read changes counts first writes gone
    → WritesInOrder (body_of call.operation).statements 0 (parts_changed changes) → AreRead a call read → IsDone (PinHolds a call.pins) call.operation call.arguments reply (AreChanges changes) → AreSealed a writes sealed → length writes ≤ length sealed
    → news ≡ pins_by 0 counts (with_sealed first writes sealed) → IsTrueAt a call (replies.Done reply) news × IsRenewedBy a call (replies.Done reply) sealed news gone
all_left a call reply read changes counts first writes gone sealed news planned order known given are all news_are =
    let many : length sealed ≡ length writes = omega (arith, all, few_sealed a writes sealed are) in (
      record {
        parts = given.parts;
        spelled = given.spelled;
        gives = given.gives;
        leaves = subst (λ (n : List PartPin). AreLeft a n given.parts (apply_body (body_of call.operation) call.arguments given.parts).1) (sym news_are)
            (new_pins_are_left a call.pins read changes counts first writes gone sealed given.parts (apply_body (body_of call.operation) call.arguments given.parts).1 planned (changed_are_read a call read changes order known) are many given.leaves);
      },
      record {
        read = read;
        changes = changes;
        known = known;
        given = given;
        pins = record { counts = counts; stamps = first; writes = writes; planned = planned; all = many; news_are = news_are };
      },
    )

pub all_written : (a : Assignment) (call : Call) (reply : Option Datum) (pages : PagePlan) (news : List PartPin) (sealed gone : List Stamp) → length pages.writes.items ≤ length pages.sealed.items → news ≡ pins_by 0 pages.counts pages.stamps.items
    → sealed ≡ pages.sealed.items → gone ≡ pages.gone.items → IsWritten a call reply pages → IsTrueAt a call (replies.Done reply) news × IsRenewedBy a call (replies.Done reply) sealed news gone
all_written a call reply pages news sealed gone all news_are sealed_are gone_are is =
    let lists : news ≡ pins_by 0 pages.counts (with_sealed is.planned.first pages.writes.items sealed) =
    news_are ∙ ap (pins_by 0 pages.counts) is.planned.stamps ∙ ap (λ (s : List Stamp). pins_by 0 pages.counts (with_sealed is.planned.first pages.writes.items s)) (sym sealed_are) in
    all_left a call reply is.read is.changes pages.counts is.planned.first pages.writes.items gone sealed news
    (subst (λ (g : List Stamp). IsPlanned call.pins is.read is.changes pages.counts is.planned.first pages.writes.items g) (sym gone_are) is.planned.planned) is.order is.known is.given
    (subst (AreSealed a pages.writes.items) (sym sealed_are) is.sealed) (omega (arith, all, ap length sealed_are)) lists

-- nothing is sealed of a plan yet
pub written_first : (a : Assignment) (call : Call) (reply : Option Datum) (pages : PagePlan) → IsPlanOf a call reply pages.counts pages.stamps.items pages.writes.items pages.gone.items → pages.sealed.items ≡ [] → IsWritten a call reply pages
written_first a call reply pages plan none = record {
  read = plan.read;
  changes = plan.changes;
  known = plan.known;
  order = plan.order;
  given = plan.given;
  planned = record { first = pages.stamps.items; planned = plan.planned; stamps = sym (unsealed pages.stamps.items pages.writes.items) ∙ ap (with_sealed pages.stamps.items pages.writes.items) (sym none) };
  sealed = subst (AreSealed a pages.writes.items) (sym none) tt;
} where
  unsealed : (stamps : List Stamp) (writes : List PageWrite) → with_sealed stamps writes [] ≡ stamps
  unsealed stamps [] = refl
  unsealed stamps (w ∷ writes) = refl

-- nothing is written where nothing was changed
none_renewed : (pins : List PartPin) (read : List (List ℕ)) (from : ℕ) (changes : List Change) (parts : List PartRenewal) (counts : List ℕ) → AreRenewals pins read from changes parts counts → changes ≡ [] → parts ≡ []
none_renewed pins read from changes parts counts no_part none = refl
none_renewed pins read from changes parts counts (same changes1 parts1 rest r) none = none_renewed pins read (from + 1) changes parts rest r none
none_renewed pins read from changes parts counts (renewed change part changes1 parts1 rest count at is counted r) none = absurd cc

none_planned : (place : ℕ) (parts : List PartRenewal) (stamps : List Stamp) (writes : List PageWrite) (gone : List Stamp) → ArePlanned place parts stamps writes gone → parts ≡ [] → writes ≡ []
none_planned place parts stamps writes gone no_row none = refl
none_planned place parts stamps writes gone (one_part part rest size first second first_writes second_writes first_gone second_gone cut plan behind) none = absurd cc

pub none_written : (pins : List PartPin) (read : List (List ℕ)) (changes : List Change) (counts : List ℕ) (stamps : List Stamp) (writes : List PageWrite) (gone : List Stamp) → IsPlanned pins read changes counts stamps writes gone → changes ≡ [] → writes ≡ []
none_written pins read changes counts stamps writes gone p none = none_planned 0 p.parts stamps writes gone p.plans (none_renewed pins read 0 changes p.parts counts p.renewals none)

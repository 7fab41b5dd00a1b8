-- The steps of a run go by the rule of steps.
use Rattle.std.proofs.Common.{◌≡◌, ◌+◌, ◌<◌, ◌≤◌, inl, inr, ℕ, List, [], ◌∷◌, ◌++◌, length, Option, sym, ap, ◌∙◌, subst, arith, length-append}
use Rattle.std.specs.Prelude.{◌≢◌}
use Rattle.std.proofs.lemmas.Bool.{cases_lt}
use Rattle.value_core.specs.declared.datum.Datum.{Datum}
use Rattle.decl_core.specs.declared.object.Operation.{Operation}
use Rattle.device_core.specs.declared.hand.HandFault.{HandFault}
use Rattle.device_core.specs.declared.hand.Stamp.{Stamp}
use Rattle.apply_core.specs.declared.need.Need.TheVariants as needs
use Rattle.apply_core.specs.declared.reply.Reply.{Reply}
use Rattle.apply_core.specs.declared.reply.Reply.TheVariants as replies
use Rattle.page_core.specs.declared.plan.PageWrite.{PageWrite}
use Rattle.page_core.specs.CallPins.{Call, ReadsNone}
use Rattle.run_core.specs.Verdicts.{HasReads}
use Rattle.run_core.specs.declared.phase.More.{More}
use Rattle.run_core.specs.declared.phase.ReadingRun.{ReadingRun}
use Rattle.run_core.specs.declared.phase.Phase.{Phase}
use Rattle.run_core.specs.declared.phase.Phase.TheVariants.{Reading, Paging, Creating, Appending, Sealing, Ended}
use Rattle.run_core.specs.Phases.{ending_of, sealed_in, HasItsReads, IsSettled, failure_of}
use Rattle.run_core.specs.Steps.{Place, at_read, at_page, at_create, at_append, at_seal, at_end, place_in, need_at, sealed_at, Starts, with_none, IsJudged, changed, not_changed, Follows, reads_on, reads_next, reads_last, misses, pages_on, creates, appends, seals_on, seals_last, fails, stays}

pub reads_first : needs.Read ≢ needs.Done
reads_first e = absurd cc

pub creates_first : needs.Create ≢ needs.Done
creates_first e = absurd cc

pub appends_first : needs.Append ≢ needs.Done
appends_first e = absurd cc

pub seals_first : needs.Seal ≢ needs.Done
seals_first e = absurd cc

-- one that reads no part has ended
pub ends_there : (call : Call) (phase : Phase) → ReadsNone call 0 → IsSettled (ending_of phase) → sealed_in phase ≡ [] → Starts call (place_in phase)
ends_there call (Reading r) none settled empty = absurd settled
ends_there call (Paging m) none settled empty = absurd settled
ends_there call (Creating plan) none settled empty = absurd settled
ends_there call (Appending plan pen) none settled empty = absurd settled
ends_there call (Sealing plan pen) none settled empty = absurd settled
ends_there call (Ended reply left) none settled empty = subst (λ (s : List Stamp). Starts call (at_end reply s)) (sym empty) (with_none none settled)

-- a step that failed
pub failed_there : (call : Call) (place after : Place) (fault : HandFault) (sealed : List Stamp) → need_at place ≢ needs.Done → sealed ≡ sealed_at place → after ≡ at_end (replies.Failed (failure_of fault)) sealed → Follows call place after
failed_there call place after fault sealed busy same is = subst (Follows call place) (sym (is ∙ ap (at_end (replies.Failed (failure_of fault))) same)) (fails fault busy)

-- after a body is judged the first page is written, if there is one
pub judged_there : (call : Call) (known : List ℕ) (writes : List PageWrite) (sealed : List Stamp) (reply : Option Datum) (place : Place) → sealed ≡ []
    → (length sealed < length writes → place ≡ at_create writes sealed) → (length writes ≤ length sealed → place ≡ at_end (replies.Done reply) sealed) → IsJudged call known place
judged_there call known writes sealed reply place none more done = elim (cases_lt (length sealed) (length writes)) [
  | inl lt ↦ subst (IsJudged call known) (sym (more lt ∙ ap (at_create writes) none)) (changed (omega (arith, lt)))
  | inr ge ↦ subst (IsJudged call known) (sym (done ge ∙ ap (at_end (replies.Done reply)) none)) not_changed
]

pub ended_there : (call : Call) (known : List ℕ) (reply : Reply) (sealed : List Stamp) (place : Place) → sealed ≡ [] → place ≡ at_end reply sealed → IsJudged call known place
ended_there call known reply sealed place none is = subst (IsJudged call known) (sym (is ∙ ap (at_end reply) none)) not_changed

-- after a seal the next page is written, or all are
pub seal_on : (call : Call) (writes writes1 : List PageWrite) (sealed sealed1 : List Stamp) (new : Stamp) (reply : Option Datum) (place : Place) → writes1 ≡ writes → sealed1 ≡ sealed ++ new ∷ [] → length sealed < length writes
    → (length sealed1 < length writes1 → place ≡ at_create writes1 sealed1) → (length writes1 ≤ length sealed1 → place ≡ at_end (replies.Done reply) sealed1) → Follows call (at_seal writes sealed) place
seal_on call writes writes1 sealed sealed1 new reply place same is low more done =
    let count : length sealed1 ≡ length sealed + 1 = ap length is ∙ length-append sealed (new ∷ []) in
    let many : length writes1 ≡ length writes = ap length same in
    elim (cases_lt (length sealed1) (length writes1)) [
      | inl lt ↦ subst (Follows call (at_seal writes sealed)) (sym (more lt ∙ (ap (λ (w : List PageWrite). at_create w sealed1) same ∙ ap (at_create writes) is))) (seals_on new (omega (arith, count, many, lt)))
      | inr ge ↦ subst (Follows call (at_seal writes sealed)) (sym (done ge ∙ ap (at_end (replies.Done reply)) is)) (seals_last new (omega (arith, count, many, ge, low)))
    ]

-- a run that has ended reads no further page
pub ended_reads : (operation : Operation) (phase : Phase) (reply : Reply) (sealed : List Stamp) → place_in phase ≡ at_end reply sealed → HasItsReads operation phase
ended_reads operation phase reply sealed is = λ m paging. absurd (let e : at_page m.seen.known m.part m.page ≡ at_end reply sealed = sym (ap place_in paging) ∙ is in cc)

created_reads : (operation : Operation) (phase : Phase) (writes : List PageWrite) (sealed : List Stamp) → place_in phase ≡ at_create writes sealed → HasItsReads operation phase
created_reads operation phase writes sealed is = λ m paging. absurd (let e : at_page m.seen.known m.part m.page ≡ at_create writes sealed = sym (ap place_in paging) ∙ is in cc)

-- nor does one that writes
pub begun_reads : (operation : Operation) (phase : Phase) (writes : List PageWrite) (sealed : List Stamp) (reply : Reply) → (length sealed < length writes → place_in phase ≡ at_create writes sealed) → (length writes ≤ length sealed → place_in phase ≡ at_end reply sealed) → HasItsReads operation phase
begun_reads operation phase writes sealed reply more done = elim (cases_lt (length sealed) (length writes)) [
  | inl lt ↦ created_reads operation phase writes sealed (more lt)
  | inr ge ↦ ended_reads operation phase reply sealed (done ge)
]

-- of one that reads a further page there are bytes of each part
pub paging_reads : (operation : Operation) (m : More) → HasReads operation m.seen.read.items → HasItsReads operation (Paging m)
paging_reads operation m has = λ n same. subst (λ (x : More). HasReads operation x.seen.read.items) (ap (λ ph. more_in ph m) same) has where
  more_in : Phase → More → More
  more_in (Reading r) m = m
  more_in (Paging n) m = n
  more_in (Creating plan) m = m
  more_in (Appending plan pen) m = m
  more_in (Sealing plan pen) m = m
  more_in (Ended reply left) m = m

-- nor does one that reads a part
pub reading_reads : (operation : Operation) (r : ReadingRun) → HasItsReads operation (Reading r)
reading_reads operation r = λ m paging. absurd (let e : at_read r.part r.page ≡ at_page m.seen.known m.part m.page = ap place_in paging in cc)

-- a further page is not read there
abbrev pub ReadsNoPage : Place → Type 0
ReadsNoPage (at_read part page) = Unit {0}
ReadsNoPage (at_page known part page) = ⊥
ReadsNoPage (at_create writes sealed) = Unit {0}
ReadsNoPage (at_append writes sealed) = Unit {0}
ReadsNoPage (at_seal writes sealed) = Unit {0}
ReadsNoPage (at_end reply sealed) = Unit {0}

-- a file is written there
abbrev pub WritesFile : Place → Type 0
WritesFile (at_read part page) = ⊥
WritesFile (at_page known part page) = ⊥
WritesFile (at_create writes sealed) = Unit {0}
WritesFile (at_append writes sealed) = Unit {0}
WritesFile (at_seal writes sealed) = Unit {0}
WritesFile (at_end reply sealed) = ⊥

-- no page is read after a file is written
follows_no_page : (call : Call) (before after : Place) → WritesFile before → Follows call before after → ReadsNoPage after
follows_no_page call before after writes (reads_on pages pin short front) = absurd writes
follows_no_page call before after writes (reads_next last next) = absurd writes
follows_no_page call before after writes (reads_last known last nothing few judged) = absurd writes
follows_no_page call before after writes (misses front) = absurd writes
follows_no_page call before after writes (pages_on more one falls judged) = absurd writes
follows_no_page call before after writes creates = tt
follows_no_page call before after writes appends = tt
follows_no_page call before after writes (seals_on new low) = tt
follows_no_page call before after writes (seals_last new all) = tt
follows_no_page call before after writes (fails fault busy) = tt
follows_no_page call before after writes stays = absurd writes

pub written_reads : (call : Call) (before after : Phase) → WritesFile (place_in before) → Follows call (place_in before) (place_in after) → HasItsReads call.operation after
written_reads call before after writes follows = λ m paging. absurd (subst (λ ph. ReadsNoPage (place_in ph)) paging (follows_no_page call (place_in before) (place_in after) writes follows))

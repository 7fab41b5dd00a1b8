-- A run reads the pins of its call, and what can be read of its files.
use Rattle.std.proofs.Common.{◌≡◌, ℕ, ◌+◌, List, [], ◌∷◌, ◌++◌, Option, Some, None, refl, sym, subst}
use Rattle.std.specs.Prelude.{Result, Err}
use Rattle.decl_core.specs.Bodies.{body_of}
use Rattle.decl_core.specs.Touched.{Reads}
use Rattle.device_core.specs.declared.hand.HandFault.{HandFault}
use Rattle.device_core.specs.declared.hand.HandFault.TheVariants as faults
use Rattle.device_core.specs.declared.hand.Stamp.{Stamp}
use Rattle.apply_core.specs.declared.reply.Failure.TheVariants as failures
use Rattle.apply_core.specs.declared.reply.Reply.{Reply}
use Rattle.apply_core.specs.declared.reply.Reply.TheVariants as replies
use Rattle.page_core.specs.CallPins.{Call, IsNext}
use Rattle.run_core.specs.declared.phase.Phase.{Phase}
use Rattle.run_core.specs.Phases.{failure_of}
use Rattle.run_core.specs.Steps.{Place, at_read, at_page, at_create, at_append, at_seal, at_end, place_in, ReadIsServed, ReadsItsPart, PinsServed, AreServed, Starts, with_part, with_none, IsJudged, changed, not_changed, wants, Follows, reads_on, reads_next, reads_last, misses, pages_on, creates, appends, seals_on, seals_last, fails, stays}

next_part : (call : Call) (from part q : ℕ) → IsNext call from part → part ≡ q → (Reads (body_of call.operation).statements q → ⊥) → ⊥
next_part call from part q is same none = none (subst (Reads (body_of call.operation).statements) same is.read)

judged_reads : (call : Call) (known : List ℕ) (place : Place) → IsJudged call known place → ReadsItsPart call place
judged_reads call known place (changed some) part is none = is
judged_reads call known place not_changed part is none = is
judged_reads call known place (wants next) part is none = none (subst (Reads (body_of call.operation).statements) is next.wanted.named.named)

pub starts_reads : (call : Call) (place : Place) → Starts call place → ReadsItsPart call place
starts_reads call place (with_part {part = p} next) part is none = next_part call 0 p part next is none
starts_reads call place (with_none nothing settled) part is none = is

follows_reads : (call : Call) (before after : Place) → Follows call before after → ReadsItsPart call before → ReadsItsPart call after
follows_reads call before after (reads_on pages pin short front) was part is none = was part is none
follows_reads call before after (reads_next {part = p} {q = q} last next) was part is none = next_part call (p + 1) q part next is none
follows_reads call before after (reads_last known last nothing few judged) was part is none = judged_reads call known after judged part is none
follows_reads call before after (misses front) was part is none = is
follows_reads call before after (pages_on more one falls judged) was part is none = judged_reads call more after judged part is none
follows_reads call before after creates was part is none = is
follows_reads call before after appends was part is none = is
follows_reads call before after (seals_on new low) was part is none = is
follows_reads call before after (seals_last new all) was part is none = is
follows_reads call before after (fails fault busy) was part is none = is
follows_reads call before after stays was part is none = is

pub step_reads : (call : Call) (old now next new : Phase) → now ≡ old → new ≡ next → Follows call (place_in now) (place_in next) → ReadsItsPart call (place_in old) → ReadsItsPart call (place_in new)
step_reads call old now next new before after follows was =
    subst (λ ph. ReadsItsPart call (place_in ph)) (sym after) (follows_reads call (place_in now) (place_in next) follows (subst (λ ph. ReadsItsPart call (place_in ph)) (sym before) was))

-- where the pins of a call can be read, so can the page that it reads
pub read_is_served : (serves : Stamp → Type 0) (call : Call) (place : Place) {X : Type 0} → ReadsItsPart call place → PinsServed serves call → (ReadIsServed serves call place → X → ⊥) → X → ⊥
read_is_served serves call (at_read part page) its served rest x = its part refl (λ reads. rest (served part page reads) x)
read_is_served serves call (at_page known part page) its served rest x = its part refl (λ reads. rest (served part page reads) x)
read_is_served serves call (at_create writes sealed) its served rest x = rest tt x
read_is_served serves call (at_append writes sealed) its served rest x = rest tt x
read_is_served serves call (at_seal writes sealed) its served rest x = rest tt x
read_is_served serves call (at_end reply sealed) its served rest x = rest tt x

-- a run that failed for the device met a fault of the device
pub only_device : (fault : HandFault) → Some (replies.Failed (failure_of fault)) ≡ Some (replies.Failed failures.Device) → fault ≡ faults.Device
only_device faults.Device is = refl
only_device faults.Memory is = absurd cc

-- one that met want of memory failed for memory
pub memory_ends : (fault : HandFault) (ending : Option Reply) → ◌≡◌ {A = Result (Unit {0}) HandFault} (Err fault) (Err faults.Memory) → ending ≡ Some (replies.Failed (failure_of fault)) → ending ≡ Some (replies.Failed failures.Memory)
memory_ends faults.Device ending same is = absurd cc
memory_ends faults.Memory ending same is = is

-- what runs has not ended
pub running : {ending : Option Reply} {reply : Reply} → ending ≡ None → ending ≡ Some reply → ⊥
running none some = absurd cc

-- a step that leaves no file
pub no_files : (serves : Stamp → Type 0) (files : List Stamp) → files ≡ [] → AreServed serves files
no_files serves files none = subst (AreServed serves) (sym none) tt

-- files that could be read can be read where what could be read can be
files_still : (before after : Stamp → Type 0) (files : List Stamp) → ((s : Stamp) → before s → after s) → AreServed before files → AreServed after files
files_still before after [] still served = tt
files_still before after (file ∷ files) still served = (still file served.0, files_still before after files still served.1)

-- a step that seals no file
pub files_as_before : (before after : Stamp → Type 0) (files later : List Stamp) → later ≡ files → ((s : Stamp) → before s → after s) → AreServed before files → AreServed after later
files_as_before before after files later same still served = subst (AreServed after) (sym same) (files_still before after files still served)

one_behind : (after : Stamp → Type 0) (files : List Stamp) (new : Stamp) → AreServed after files → after new → AreServed after (files ++ new ∷ [])
one_behind after [] new served last = (last, tt)
one_behind after (first ∷ files) new served last = (served.0, one_behind after files new served.1 last)

-- a step that seals a file
pub files_and_one : (before after : Stamp → Type 0) (files later : List Stamp) (new : Stamp) → later ≡ files ++ new ∷ [] → ((s : Stamp) → before s → after s) → after new → AreServed before files → AreServed after later
files_and_one before after files later new same still last served = subst (AreServed after) (sym same) (one_behind after files new (files_still before after files still served) last)

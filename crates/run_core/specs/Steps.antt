-- The rule of steps: which device call a run makes, and where it stands after it.
use Rattle.std.specs.Prelude.{◌≡◌, ◌≢◌, ℕ, ◌+◌, ◌<◌, ◌≤◌, ◌⊎◌, List, [], ◌∷◌, ◌++◌, length, Option, Some, None}
use Rattle.std.specs.Prelude.{slice_get}
use Rattle.value_core.specs.declared.datum.Datum.{Datum}
use Rattle.decl_core.specs.Bodies.{body_of}
use Rattle.decl_core.specs.Touched.{Reads}
use Rattle.device_core.specs.declared.hand.HandFault.{HandFault}
use Rattle.device_core.specs.declared.hand.Stamp.{Stamp}
use Rattle.apply_core.specs.declared.reply.Failure.TheVariants as failures
use Rattle.apply_core.specs.declared.reply.Reply.{Reply}
use Rattle.apply_core.specs.declared.reply.Reply.TheVariants as replies
use Rattle.apply_core.specs.declared.need.Need.{Need}
use Rattle.apply_core.specs.declared.need.Need.TheVariants as needs
use Rattle.page_core.specs.declared.plan.PageWrite.{PageWrite}
use Rattle.page_core.specs.PartPins.{pin_at}
use Rattle.known_core.specs.Masks.{IsOneMore, unread}
use Rattle.known_core.specs.Wanted.{IsNextPage}
use Rattle.page_core.specs.CallPins.{Call, IsNext, ReadsNone}
use Rattle.run_core.specs.Seen.{IsFront}
use Rattle.run_core.specs.declared.phase.Phase.{Phase}
use Rattle.run_core.specs.declared.phase.Phase.TheVariants.{Reading, Paging, Creating, Appending, Sealing, Ended}
use Rattle.run_core.specs.Phases.{IsSettled, failure_of}

-- where a run stands
pub data Place : Type 0 where
  -- it reads the page of this place, counted from 0, of the pin of this part
  at_read : (part page : ℕ) → Place
  -- of all its parts it has read what it reads at first, these pages are known, and its body comes to this page of this
  -- part, counted from 0, which it reads
  at_page : (known : List ℕ) (part page : ℕ) → Place
  -- the files of the first writes are sealed, and it begins one for the next write
  at_create : (writes : List PageWrite) (sealed : List Stamp) → Place
  -- it adds the bytes of the next write
  at_append : (writes : List PageWrite) (sealed : List Stamp) → Place
  -- it seals the file of the next write
  at_seal : (writes : List PageWrite) (sealed : List Stamp) → Place
  -- it has ended
  at_end : (reply : Reply) (sealed : List Stamp) → Place

-- where a run is in this phase
abbrev pub place_in : Phase → Place
place_in (Reading r) = at_read r.part r.page
place_in (Paging m) = at_page m.seen.known m.part m.page
place_in (Creating plan) = at_create plan.pages.writes.items plan.pages.sealed.items
place_in (Appending plan pen) = at_append plan.pages.writes.items plan.pages.sealed.items
place_in (Sealing plan pen) = at_seal plan.pages.writes.items plan.pages.sealed.items
place_in (Ended reply left) = at_end reply left.sealed.items

-- the device call that is made there
abbrev pub need_at : Place → Need
need_at (at_read part page) = needs.Read
need_at (at_page known part page) = needs.Read
need_at (at_create writes sealed) = needs.Create
need_at (at_append writes sealed) = needs.Append
need_at (at_seal writes sealed) = needs.Seal
need_at (at_end reply sealed) = needs.Done

-- how a run has ended that stands there, if it has
abbrev pub ending_at : Place → Option Reply
ending_at (at_read part page) = None
ending_at (at_page known part page) = None
ending_at (at_create writes sealed) = None
ending_at (at_append writes sealed) = None
ending_at (at_seal writes sealed) = None
ending_at (at_end reply sealed) = Some reply

-- the files that it has sealed, in order
abbrev pub sealed_at : Place → List Stamp
sealed_at (at_read part page) = []
sealed_at (at_page known part page) = []
sealed_at (at_create writes sealed) = sealed
sealed_at (at_append writes sealed) = sealed
sealed_at (at_seal writes sealed) = sealed
sealed_at (at_end reply sealed) = sealed

-- each file that may be read there can be read: the page of this place of the part's pin
abbrev pub PageIsServed : (Stamp → Type 0) → Call → ℕ → ℕ → Type 0
PageIsServed serves call part page =
    (pages : List Stamp) (stamp : Stamp) → pin_at call.pins part ≡ Some pages → slice_get pages page ≡ Some stamp →
    serves stamp

abbrev pub ReadIsServed : (Stamp → Type 0) → Call → Place → Type 0
ReadIsServed serves call (at_read part page) = PageIsServed serves call part page
ReadIsServed serves call (at_page known part page) = PageIsServed serves call part page
ReadIsServed serves call (at_create writes sealed) = Unit {0}
ReadIsServed serves call (at_append writes sealed) = Unit {0}
ReadIsServed serves call (at_seal writes sealed) = Unit {0}
ReadIsServed serves call (at_end reply sealed) = Unit {0}

-- how a run ends whose call fails there for the device: a read may want memory before its call is made
abbrev pub FailsWith : Place → Option Reply → Type 0
FailsWith (at_read part page) ending =
    (ending ≡ Some (replies.Failed failures.Device)) ⊎ (ending ≡ Some (replies.Failed failures.Memory))
FailsWith (at_page known part page) ending =
    (ending ≡ Some (replies.Failed failures.Device)) ⊎ (ending ≡ Some (replies.Failed failures.Memory))
FailsWith (at_create writes sealed) ending = ending ≡ Some (replies.Failed failures.Device)
FailsWith (at_append writes sealed) ending = ending ≡ Some (replies.Failed failures.Device)
FailsWith (at_seal writes sealed) ending = ending ≡ Some (replies.Failed failures.Device)
FailsWith (at_end reply sealed) ending = Unit {0}

-- a page of this part is read there
abbrev pub IsReadAt : Place → ℕ → Type 0
IsReadAt (at_read p page) part = p ≡ part
IsReadAt (at_page known p page) part = p ≡ part
IsReadAt (at_create writes sealed) part = ⊥
IsReadAt (at_append writes sealed) part = ⊥
IsReadAt (at_seal writes sealed) part = ⊥
IsReadAt (at_end reply sealed) part = ⊥

-- what is read there is a page of a part that the call reads
abbrev pub ReadsItsPart : Call → Place → Type 0
ReadsItsPart call place = (part : ℕ) → IsReadAt place part → (Reads (body_of call.operation).statements part → ⊥) → ⊥

-- each page of the pins of the parts that a call reads can be read
abbrev pub PinsServed : (Stamp → Type 0) → Call → Type 0
PinsServed serves call =
    (part page : ℕ) → Reads (body_of call.operation).statements part → PageIsServed serves call part page

-- each of these files can be read
abbrev pub AreServed : (Stamp → Type 0) → List Stamp → Type 0
AreServed serves [] = Unit {0}
AreServed serves (stamp ∷ stamps) = serves stamp × AreServed serves stamps

-- a run begins at the first page of its first part, or it ends at once
pub data Starts (call : Call) : Place → Type 0 where
  with_part : {part : ℕ} → IsNext call 0 part → Starts call (at_read part 0)
  with_none : {reply : Reply} → ReadsNone call 0 → IsSettled (Some reply) → Starts call (at_end reply [])

-- After a body is judged on what is known, the pages of its changes are written; a call that writes none has ended; and
-- where the body comes to a page that is not known, this is read.
pub data IsJudged (call : Call) (known : List ℕ) : Place → Type 0 where
  changed : {writes : List PageWrite} → 0 < length writes → IsJudged call known (at_create writes [])
  not_changed : {reply : Reply} → IsJudged call known (at_end reply [])
  wants : {part page : ℕ} → IsNextPage known call.operation part page → IsJudged call known (at_page known part page)

-- this is the last page of a part that is read at first: of one that is read page by page the first one, of all else
-- the last one of its pin
pub record IsLastAtFirst (call : Call) (part page : ℕ) : Type 0 where
  pub pages : List Stamp
  pub pinned : pin_at call.pins part ≡ Some pages
  pub last : (page + 1 ≡ length pages) ⊎ IsFront call part page

-- where a run stands after a step
pub data Follows (call : Call) : Place → Place → Type 0 where
  reads_on : {part page : ℕ} (pages : List Stamp) → pin_at call.pins part ≡ Some pages → page + 1 < length pages →
      (IsFront call part page → ⊥) → Follows call (at_read part page) (at_read part (page + 1))
  reads_next : {part page q : ℕ} → IsLastAtFirst call part page → IsNext call (part + 1) q →
      Follows call (at_read part page) (at_read q 0)
  reads_last : {part page : ℕ} {after : Place} (known : List ℕ) → IsLastAtFirst call part page →
      ReadsNone call (part + 1) → unread known ≤ 128 → IsJudged call known after →
      Follows call (at_read part page) after
  misses : {part page : ℕ} → IsFront call part page →
      Follows call (at_read part page) (at_end (replies.Failed failures.Damaged) [])
  pages_on : {known : List ℕ} {part page : ℕ} {after : Place} (more : List ℕ) → IsOneMore known more part page →
      unread more + 1 ≡ unread known → IsJudged call more after → Follows call (at_page known part page) after
  creates : {writes : List PageWrite} {sealed : List Stamp} →
      Follows call (at_create writes sealed) (at_append writes sealed)
  appends : {writes : List PageWrite} {sealed : List Stamp} →
      Follows call (at_append writes sealed) (at_seal writes sealed)
  seals_on : {writes : List PageWrite} {sealed : List Stamp} (new : Stamp) → length sealed + 1 < length writes →
      Follows call (at_seal writes sealed) (at_create writes (sealed ++ new ∷ []))
  seals_last : {writes : List PageWrite} {sealed : List Stamp} {reply : Option Datum} (new : Stamp) →
      length sealed + 1 ≡ length writes → Follows call (at_seal writes sealed)
      (at_end (replies.Done reply) (sealed ++ new ∷ []))
  fails : {place : Place} (fault : HandFault) → need_at place ≢ needs.Done →
      Follows call place (at_end (replies.Failed (failure_of fault)) (sealed_at place))
  stays : {reply : Reply} {sealed : List Stamp} → Follows call (at_end reply sealed) (at_end reply sealed)

-- where a run may stand after some steps
pub data Leads (call : Call) : Place → Place → Type 0 where
  there : {place : Place} → Leads call place place
  onward : {first next last : Place} → Follows call first next → Leads call next last → Leads call first last

-- The device calls of a call that is run at once.
use Rattle.std.specs.Prelude.{◌≡◌, ℕ, ◌+◌, ◌≤◌, List, [], ◌∷◌, ◌++◌, length, Option, Some, None, Ok, Err}
use Rattle.device_core.specs.declared.hand.HandFault.{HandFault}
use Rattle.device_core.specs.declared.hand.Stamp.{Stamp}
use Rattle.device_core.specs.Made.{Made, reads}
use Rattle.apply_core.specs.declared.reply.Reply.{Reply}
use Rattle.apply_core.specs.declared.reply.Reply.TheVariants as replies
use Rattle.page_core.specs.declared.plan.PageWrite.{PageWrite}
use Rattle.page_core.specs.Calls.{AreMade, ReadInOrder, WritesPages}
use Rattle.page_core.specs.PartPins.{pin_at}
use Rattle.known_core.specs.Masks.{IsOneMore}
use Rattle.known_core.specs.Wanted.{IsNextPage}
use Rattle.page_core.specs.CallPins.{Call, IsNext}
use Rattle.run_core.specs.Seen.{IsPaged}
use Rattle.run_core.specs.Calling.{IsStampAt}
use Rattle.run_core.specs.Phases.{failure_of}

-- reads of a part at first: of the pages of its pin from the first one on, in order, and of the first one alone where
-- the part is read page by page
abbrev pub ReadsPart : Call → ℕ → List Made → Type 0
ReadsPart call part calls =
    (pages : List Stamp) × (pin_at call.pins part ≡ Some pages) × ReadInOrder pages calls
    × (IsPaged call part → length calls ≤ 1)

-- reads of the parts of a call from this one on, part by part in their order
pub data ReadsParts (call : Call) : ℕ → List Made → Type 0 where
  reads_none : (from : ℕ) → ReadsParts call from []
  reads_part : (from part : ℕ) (first rest : List Made) → IsNext call from part → ReadsPart call part first →
      ReadsParts call (part + 1) rest → ReadsParts call from (first ++ rest)

-- Reads of the pages that a body comes to, where these pages are known: each is of a page that is not known, and from
-- then on it is. One that failed is the last.
pub data ReadsMore (call : Call) : List ℕ → List Made → Type 0 where
  no_more : (known : List ℕ) → ReadsMore call known []
  one_more : (known grown : List ℕ) (part page : ℕ) (stamp : Stamp) (bytes : List ℕ) (rest : List Made) →
      IsNextPage known call.operation part page → IsStampAt call part page stamp → IsOneMore known grown part page →
      ReadsMore call grown rest → ReadsMore call known (reads stamp 0 bytes (Ok tt) ∷ rest)
  one_fails : (known : List ℕ) (part page : ℕ) (stamp : Stamp) (bytes : List ℕ) (fault : HandFault) →
      IsNextPage known call.operation part page → IsStampAt call part page stamp →
      ReadsMore call known (reads stamp 0 bytes (Err fault) ∷ [])

-- a call that met this fault, if any, failed for it
abbrev pub FailsFor : Option HandFault → Reply → Type 0
FailsFor None reply = Unit {0}
FailsFor (Some fault) reply = reply ≡ replies.Failed (failure_of fault)

-- writes of pages, each into a file of its own: these are all the files that they sealed, also where one failed
pub record WritesAll (reply : Reply) (sealed : List Stamp) (calls : List Made) : Type 0 where
  pub writes : List PageWrite
  pub fault : Option HandFault
  pub written : WritesPages writes calls sealed fault
  pub ended : FailsFor fault reply

-- what a call does that knows these pages of its parts: it reads others, and then it writes
pub record GoesOn (call : Call) (known : List ℕ) (reply : Reply) (sealed : List Stamp) (calls : List Made) : Type 0 where
  pub more : List Made
  pub last : List Made
  pub all : calls ≡ more ++ last
  pub on_demand : ReadsMore call known more
  pub writes : WritesAll reply sealed last

-- What a call does that is run at once: it reads its parts in order, then the pages that its body comes to, and then it
-- writes the pages that its body changed. The files that it sealed are these.
pub record RunsAtOnce (call : Call) (reply : Reply) (sealed : List Stamp) (calls : List Made) : Type 0 where
  pub first : List Made
  pub behind : List Made
  pub all : calls ≡ first ++ behind
  pub at_first : ReadsParts call 0 first
  pub known : List ℕ
  pub rest : GoesOn call known reply sealed behind

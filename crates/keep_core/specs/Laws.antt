-- The law of what is kept of an object at the end.
use Rattle.std.specs.Prelude.{◌≡◌, ℕ, List, length, IsTrue, Some, slice_get}
use Rattle.std.specs.FinMap.{get}
use Rattle.value_core.specs.Contents.{Contents}
use Rattle.value_bytes.specs.Spelling.{Spells}
use Rattle.decl_core.specs.declared.object.Part.{Part}
use Rattle.device_core.specs.Device.{Assignment}
use Rattle.device_core.specs.Papers.{Papers, part_key}
use Rattle.apply_core.specs.History.{IsLegal, leads_to}
use Rattle.page_core.specs.Lists.{Every}
use Rattle.board_core.specs.Chain.{ShowContents, history_of}
use Rattle.board_core.specs.Sound.{kinds_of}
use Rattle.office_core.specs.Slips.{IsTrueTold}
use Rattle.keep_core.specs.Kept.{AreStored}
use Rattle.page_core.specs.Opened.{ArePinned}
use Rattle.keep_core.specs.Ends.{Ended, IsAtEnd}
use Rattle.keep_core.specs.Opening.{values_of}

-- no two of these parts have one name
abbrev pub AreApart : List Part → Type 0
AreApart parts =
    (i j : ℕ) (p q : Part) → slice_get parts i ≡ Some p → slice_get parts j ≡ Some q → p.name ≡ q.name → i ≡ j

-- what stands under a part's name spells the value at the part's place
pub record HoldsPart (papers : Papers) (object : List ℕ) (part : Part) (place : ℕ)
    (contents : List Contents) : Type 0 where
  pub bytes : List ℕ
  pub there : get papers (part_key object part.name) ≡ Some bytes
  pub value : Contents
  pub at : slice_get contents place ≡ Some value
  pub spells : Spells bytes part.kind value

-- Where an object was closed, and each slip that its sessions left is true, its history is legal from what its opening
-- pins show; and where its parts were saved, each part's name holds what the history leads to.
abbrev pub KeptIsHistory : Type 0
KeptIsHistory = (a : Assignment) (e : Ended) (before papers : Papers) (contents : List Contents) →
    IsAtEnd e → IsTrue e.became.closed → Every (IsTrueTold a) e.slips →
    ShowContents a (kinds_of e.board.object) e.board.opening contents →
    IsLegal (history_of e.board.history) contents
    × (AreApart e.board.object.parts.items → IsTrue e.became.saved →
    AreStored (λ (b : Assignment). b ≡ a) e.board.object e.board.pins 0 (length e.board.object.parts.items)
    e.became.saved before papers →
    (place : ℕ) (part : Part) → slice_get e.board.object.parts.items place ≡ Some part →
    HoldsPart papers e.board.object.name part place (leads_to (history_of e.board.history) contents))

-- Where an object was closed, its pins at the opening were sealed with its opening values, and each slip that its
-- sessions left is true, its history is legal from these values; and where its parts were saved, each part's name holds
-- what the history leads to.
abbrev pub OpeningIsKept : Type 0
OpeningIsKept = (a : Assignment) (e : Ended) (parts : List Part) (before papers : Papers) →
    IsAtEnd e → IsTrue e.became.closed → Every (IsTrueTold a) e.slips →
    ArePinned a parts e.opening.pins (values_of e.opening) →
    ShowContents a (kinds_of e.board.object) e.board.opening (values_of e.opening)
    × IsLegal (history_of e.board.history) (values_of e.opening)
    × (AreApart e.board.object.parts.items → IsTrue e.became.saved →
    AreStored (λ (b : Assignment). b ≡ a) e.board.object e.board.pins 0 (length e.board.object.parts.items)
    e.became.saved before papers →
    (place : ℕ) (part : Part) → slice_get e.board.object.parts.items place ≡ Some part →
    HoldsPart papers e.board.object.name part place (leads_to (history_of e.board.history) (values_of e.opening)))

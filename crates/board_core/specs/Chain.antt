-- Entries that follow one another, and what they say of contents.
use Rattle.std.specs.Prelude.{◌≡◌, ◌≢◌, ℕ, List, [], ◌∷◌, length, map, slice_get, Some, None}
use Rattle.value_core.specs.declared.kind.Kind.{Kind}
use Rattle.value_core.specs.Contents.{Contents}
use Rattle.value_bytes.specs.Spelling.{Spells}
use Rattle.decl_core.specs.declared.object.Operation.{Operation}
use Rattle.decl_core.specs.Bodies.{body_of}
use Rattle.decl_core.specs.Touched.{Reads, Writes}
use Rattle.device_core.specs.declared.hand.Stamp.{Stamp}
use Rattle.device_core.specs.Device.{Assignment}
use Rattle.page_core.specs.Bytes.{list_bytes, AreWhole}
use Rattle.page_core.specs.PartPins.{PartPin, pin_at}
use Rattle.apply_core.specs.Fits.{IsNamed}
use Rattle.page_core.specs.CallPins.{call_of}
use Rattle.page_core.specs.Truths.{IsTrueOf}
use Rattle.apply_core.specs.History.{End, IsLegal, leads_to}
use Rattle.page_core.specs.Outcomes.{if_done}
use Rattle.page_core.specs.ObjectCalls.{Noted}
use Rattle.board_core.specs.Board.{published}
use Rattle.page_core.specs.Lists.{Every}

-- the page lists that an entry publishes: what it staged, if it was done
abbrev pub news_of : Noted → List PartPin
news_of e = if_done e.reply e.news

-- the pins after an entry
abbrev pub pins_after : List (List Stamp) → Noted → List (List Stamp)
pins_after pins e = published pins (news_of e)

-- an entry's pins are these pins on what its operation reads, and it publishes on what its operation writes alone
pub record Follows (pins : List (List Stamp)) (e : Noted) : Type 0 where
  pub reads : (p : ℕ) → Reads (body_of e.operation).statements p → pin_at e.pins p ≡ slice_get pins p
  pub writes : (p : ℕ) → pin_at (news_of e) p ≢ None → Writes (body_of e.operation).statements p

-- Entries are chained: each follows the pins so far, and the last pins are these.
abbrev pub IsChained : List (List Stamp) → List Noted → List (List Stamp) → Type 0
IsChained pins [] last = last ≡ pins
IsChained pins (e ∷ es) last = Follows pins e × IsChained (pins_after pins e) es last

-- each part that an operation names is a part of these kinds, and of the kind that the operation says
abbrev pub AreOf : List Kind → Operation → Type 0
AreOf kinds operation = (p : ℕ) (kind : Kind) → IsNamed operation p kind → slice_get kinds p ≡ Some kind

-- a page list is whole, and its bytes spell this value
pub record Shows (a : Assignment) (kind : Kind) (pages : List Stamp) (value : Contents) : Type 0 where
  pub whole : AreWhole a pages
  pub bytes : List ℕ
  pub there : list_bytes a pages ≡ Some bytes
  pub spells : Spells bytes kind value

-- the pins of the parts are whole, and their bytes spell these contents
pub record ShowContents (a : Assignment) (kinds : List Kind) (pins : List (List Stamp))
    (contents : List Contents) : Type 0 where
  pub pins_each : length pins ≡ length kinds
  pub contents_each : length contents ≡ length kinds
  pub each : (p : ℕ) (kind : Kind) → slice_get kinds p ≡ Some kind
      → (pages : List Stamp) × (value : Contents) × (slice_get pins p ≡ Some pages)
      × (slice_get contents p ≡ Some value) × Shows a kind pages value

-- what the history says of an entry: what its operation does, what it was given, and what it replied
abbrev pub end_of : Noted → End
end_of e = record { body = body_of e.operation; arguments = e.arguments; reply = e.reply }

-- the history that entries tell
abbrev pub history_of : List Noted → List End
history_of entries = map end_of entries

-- An entry is true of an assignment: by its pins, what it replied is true.
abbrev pub IsTrueEntry : Assignment → Noted → Type 0
IsTrueEntry a e = IsTrueOf a (call_of e.number e.operation e.arguments e.pins) e.reply e.news

-- Chained entries of which each is true are a legal history, and it leads to what the last pins spell.
abbrev pub ChainedAreLegal : Type 0
ChainedAreLegal =
    (a : Assignment) (kinds : List Kind) (opening last : List (List Stamp)) (entries : List Noted)
    (contents : List Contents) →
    Every (λ e. AreOf kinds e.operation) entries → IsChained opening entries last →
    ShowContents a kinds opening contents → Every (IsTrueEntry a) entries →
    IsLegal (history_of entries) contents × ShowContents a kinds last (leads_to (history_of entries) contents)

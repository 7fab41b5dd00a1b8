-- What is known of changes.
use Rattle.std.specs.Prelude.{◌≢◌, ℕ, ◌+◌, ◌<◌, ◌≤◌, List, [], ◌∷◌, None}
use Rattle.page_core.specs.PartPins.{PartPin, pin_at}
use Rattle.run_core.specs.declared.judge.Change.{Change}

-- their parts rise, from this one on, and stand before that one
abbrev pub AreWithin : ℕ → ℕ → List Change → Type 0
AreWithin from end [] = Unit {0}
AreWithin from end (change ∷ changes) =
    (from ≤ change.part) × (change.part < end) × AreWithin (change.part + 1) end changes

-- each is of a part that has a pin, and of which there are bytes
abbrev pub AreKnown : List PartPin → ℕ → List Change → Type 0
AreKnown pins count [] = Unit {0}
AreKnown pins count (change ∷ changes) =
    (pin_at pins change.part ≢ None) × (change.part < count) × AreKnown pins count changes

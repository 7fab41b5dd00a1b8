-- What is known of the changes of a body.
use Rattle.std.proofs.Common.{◌≢◌, ℕ, ◌+◌, ◌<◌, List, [], ◌∷◌, None}
use Rattle.decl_core.specs.Form.{Statements}
use Rattle.decl_core.specs.Touched.{Writes}
use Rattle.page_core.specs.PartPins.{PartPin, pin_at}
use Rattle.run_core.specs.declared.judge.Change.{Change}
use Rattle.run_core.specs.Written.{WritesInOrder, parts_changed}
use Rattle.run_core.specs.Changed.{AreWithin, AreKnown}

pub are_within : (all : Statements) (from end : ℕ) (changes : List Change) → WritesInOrder all from (parts_changed changes) → ((p : ℕ) → Writes all p → p < end) → AreWithin from end changes
are_within all from end [] order low = tt
are_within all from end (change ∷ changes) order low = (order.0, low change.part order.1, are_within all (change.part + 1) end changes order.2 low)

pub are_known : (all : Statements) (pins : List PartPin) (count from : ℕ) (changes : List Change) → WritesInOrder all from (parts_changed changes) → ((p : ℕ) → Writes all p → (pin_at pins p ≢ None) × (p < count)) → AreKnown pins count changes
are_known all pins count from [] order known = tt
are_known all pins count from (change ∷ changes) order known = let k = known change.part order.1 in (k.0, k.1, are_known all pins count (change.part + 1) changes order.2 known)

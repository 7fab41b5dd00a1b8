-- Calls by themselves.
use Rattle.std.specs.Prelude.{ℕ, List, ◌∷◌}
use Rattle.path_tree.specs.Trace.{Call, Event, Start, End}

-- a call that starts and ends with nothing between
abbrev pub fired : Call → List Event → List Event
fired call t = End call ∷ Start call ∷ t

-- the call of this number and operation
abbrev pub called : ℕ → ℕ → Call
called number op = record { number = number; operation = op }

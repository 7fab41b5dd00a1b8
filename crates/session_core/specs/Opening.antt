-- How a session goes on once it has asked for an object.
use Rattle.std.specs.Prelude.{◌≡◌, ℕ, List, Option, Some, Result, Ok, Err}
use Rattle.session_text.specs.declared.fault.HearFault.TheVariants as hears
use Rattle.session_core.specs.declared.entered.EnteredObject.{EnteredObject}
use Rattle.session_core.specs.declared.entered.NotEntered.{NotEntered}
use Rattle.session_core.specs.declared.entered.NotEntered.TheVariants.{Refused, Memory}
use Rattle.session_core.specs.declared.order.Named.{Named}
use Rattle.session_core.specs.Entering.{IsFound}
use Rattle.session_core.specs.declared.work.Goes.{Goes}
use Rattle.session_core.specs.declared.work.Goes.TheVariants.{On, Leaves}

-- The object that was opened is taken, with its seat, and the session goes on; where it was refused the session goes on
-- as it was; and where memory was refused it leaves, by that fault.
abbrev pub Takes : Result (EnteredObject × Option ℕ) NotEntered → Option EnteredObject → Option (ℕ × ℕ) → Option EnteredObject →
    Option (ℕ × ℕ) → Goes → Type 0
Takes (Ok found) old was new is goes =
    (goes ≡ On) × (new ≡ Some found.0) × (is ≡ Some (found.0.at, found.0.seat.session))
Takes (Err (Refused refusal)) old was new is goes = (goes ≡ On) × (new ≡ old) × (is ≡ was)
Takes (Err Memory) old was new is goes = (goes ≡ Leaves (Some hears.Memory)) × (new ≡ old) × (is ≡ was)

-- The same of an object of this name, asked for by a client of a name or none.
abbrev pub Enters : List Named → List ℕ → Option (List ℕ) → Option EnteredObject → Option (ℕ × ℕ) → Option EnteredObject →
    Option (ℕ × ℕ) → Goes → Type 0
Enters offices name client old was new is goes =
    (found : Result (EnteredObject × Option ℕ) NotEntered) × IsFound offices name client found
    × Takes found old was new is goes

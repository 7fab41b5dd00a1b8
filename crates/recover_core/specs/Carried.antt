-- The calls that waited when an epoch began.
use Rattle.std.specs.Prelude.{◌≡◌, ℕ, ◌+◌, ◌-◌, List, [], ◌∷◌, map, Option, Some, None, slice_get}
use Rattle.word_core.specs.Events.{Called}
use Rattle.live_core.specs.declared.front.CarriedCall.{CarriedCall}

-- the calls, without the numbers that were told
abbrev pub calls_of : List CarriedCall → List Called
calls_of all = map (λ c. record { number = c.number; session = c.session; operation = c.operation; arguments = c.arguments }) all

-- they have the numbers behind this one, in their order
abbrev pub AreCounted : ℕ → List CarriedCall → Type 0
AreCounted n [] = Unit {0}
AreCounted n (c ∷ all) = (c.number ≡ n + 1) × AreCounted (n + 1) all

abbrev pub told_or : ℕ → Option CarriedCall → ℕ
told_or other None = other
told_or other (Some c) = c.told

-- The number that the client of a call was told: of a call that waited when the epoch began the one that it had, of
-- each other one the base and its number in the epoch.
abbrev pub told_by : ℕ → List CarriedCall → ℕ → ℕ
told_by base carried number = told_or (base + number) (slice_get carried (number - 1))

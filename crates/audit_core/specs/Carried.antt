-- The calls that waited when an epoch began: they have the numbers from 1, in their order.
use Rattle.std.specs.Prelude.{◌≡◌, ◌-◌, List, map, Some, slice_get}
use Rattle.word_core.specs.Events.{Called}
use Rattle.audit_core.specs.declared.carried.WaitedCall.{WaitedCall}

abbrev pub carried_calls : List WaitedCall → List Called
carried_calls all = map (λ c. record { number = c.number; session = c.session; operation = c.operation; arguments = c.arguments }) all

-- where one of these has the number of a call, it is that call
abbrev pub IsTheOne : List Called → Called → Type 0
IsTheOne carried call = (c : Called) → slice_get carried (call.number - 1) ≡ Some c →
    (c.session ≡ call.session) × (c.operation ≡ call.operation) × (c.arguments ≡ call.arguments)

-- How many calls of an operation run.
use Rattle.std.proofs.Common.{◌≡◌, ℕ, ◌+◌, ◌≤◌, ◌⊎◌, inl, inr, ◌∙◌, List, [], ◌∷◌, arith}
use Rattle.std.specs.Prelude.{◌==◌, if◌then◌else◌}
use Rattle.std.proofs.lemmas.Bool.Decides.{nat_tests}
use Rattle.path_tree.specs.Path.{name}
use Rattle.path_tree.specs.Trace.{Call, Event, IsTrace, IsAmong, running_calls}
use Rattle.path_tree.specs.Counts.{active}
use Rattle.path_tree.proofs.CountLaws.{of_operation, started_or}

-- one more call of an operation
counted_one : (o op rest : ℕ) → o ≡ op → (if o == op then 1 else 0) + rest ≡ 1 + rest
counted_one o op rest h = grind (arith, nat_tests)

-- a call of an operation that is among some calls is one of its calls there
pub at_least_one : (op : ℕ) (c : Call) (calls : List Call) → IsAmong c calls → c.operation ≡ op → 1 ≤ of_operation op calls
at_least_one op c [] h is = absurd h
at_least_one op c (x ∷ calls) h is = elim h [
  | inl here ↦ omega (arith, counted_one x.operation op (of_operation op calls) (here.1 ∙ is))
  | inr later ↦ omega (arith, at_least_one op c calls later is)
]

-- two calls of an operation with different numbers are two of its calls
pub at_least_two : (op : ℕ) (c d : Call) (calls : List Call) → IsAmong c calls → IsAmong d calls → c.operation ≡ op → d.operation ≡ op →
    (c.number ≡ d.number) ⊎ (2 ≤ of_operation op calls)
at_least_two op c d [] h k is too = absurd h
at_least_two op c d (x ∷ calls) h k is too = elim h [
  | inl here ↦ elim k [
    | inl there ↦ inl (omega arith)
    | inr later ↦ inr (omega (arith, counted_one x.operation op (of_operation op calls) (here.1 ∙ is), at_least_one op d calls later too))
  ]
  | inr later ↦ elim k [
    | inl there ↦ inr (omega (arith, counted_one x.operation op (of_operation op calls) (there.1 ∙ too), at_least_one op c calls later is))
    | inr later_too ↦ elim (at_least_two op c d calls later later_too is too) [
      | inl same ↦ inl same
      | inr both ↦ inr (omega arith)
    ]
  ]
]

-- what is active of a name are its running calls
pub active_calls : (op : ℕ) (t : List Event) → IsTrace t → active (name op) t ≡ of_operation op (running_calls t)
active_calls op t trace = omega (arith, started_or op t trace)

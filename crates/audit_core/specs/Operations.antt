-- The operations of an object, by their names and places.
use Rattle.std.specs.Prelude.{ℕ, List, map, slice_index_or}
use Rattle.decl_core.specs.Form.{Body}
use Rattle.decl_core.specs.ObjectForm.{OperationForm}
use Rattle.word_core.specs.Events.{form_body, no_body}

abbrev pub operation_names : List OperationForm → List (List ℕ)
operation_names operations = map (λ o. o.name) operations

-- the body of the operation at a place
abbrev pub body_among : List OperationForm → ℕ → Body
body_among operations place = slice_index_or (map form_body operations) place no_body

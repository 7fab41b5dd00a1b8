-- What is to be called for a session that is gone.
use Rattle.std.specs.Prelude.{◌≡◌, ℕ, List, [], ◌∷◌, Some, slice_get}
use Rattle.value_core.specs.declared.datum.Datum.{Datum}
use Rattle.value_core.specs.declared.kind.Elem.{Elem}
use Rattle.decl_core.specs.HoldForm.{HoldForm}
use Rattle.decl_core.specs.ObjectForm.{OperationForm, ObjectForm}
use Rattle.guest_core.specs.Held.{HeldCall}

-- nothing, where nothing is taken
abbrev pub taken_by : List (List ℕ × Elem) → List Datum → List Datum
taken_by [] values = []
taken_by (p ∷ params) values = values

abbrev pub given_to : OperationForm → List Datum → List Datum
given_to o values = taken_by o.params values

-- the first operation that ends the hold at this place
pub record IsFirstUndo (holds : List HoldForm) (place op : ℕ) : Type 0 where
  pub rule : HoldForm
  pub held : slice_get holds place ≡ Some rule
  pub first : slice_get rule.until 0 ≡ Some op

-- that operation, with what the call is held with, or with nothing where it takes nothing
pub record IsUndoOf (o : ObjectForm) (holds : List HoldForm) (h : HeldCall) (op : ℕ) (arguments : List Datum) :
    Type 0 where
  pub ends : IsFirstUndo holds h.rule op
  pub form : OperationForm
  pub declared : slice_get o.operations op ≡ Some form
  pub given : arguments ≡ given_to form h.values

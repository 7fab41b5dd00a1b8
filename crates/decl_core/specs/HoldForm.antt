-- Which calls are held until others have ended, and what is called again and again. An operation is its number.
use Rattle.std.specs.Prelude.{◌≡◌, ◌≢◌, ℕ, ◌<◌, Bool, false, ◌==◌, List, [], ◌∷◌, ◌++◌, length, map, flat_map, slice_get}
use Rattle.std.specs.Prelude.{Option, Some, None, All}
use Rattle.std.specs.List.{list_any}
use Rattle.value_core.specs.declared.kind.Elem.{Elem}
use Rattle.decl_core.specs.ObjectForm.{OperationForm}

-- a call of this operation is held until a call of one of these has ended, by anybody or by who holds it
pub record HoldForm : Type 0 where
  pub op : ℕ
  pub until : List ℕ
  pub by_any : Bool

-- every so many seconds this operation is called
pub record EveryForm : Type 0 where
  pub seconds : ℕ
  pub op : ℕ

-- what an object says of clients that are gone and of time
pub record RulesForm : Type 0 where
  pub holds : List HoldForm
  pub everies : List EveryForm

abbrev pub rules_with : List HoldForm → List EveryForm → RulesForm
rules_with holds everies = record { holds = holds; everies = everies }

-- an object that says nothing of them
abbrev pub no_rules : RulesForm
no_rules = rules_with [] []

-- what an operation takes, and what it replies, if anything
pub record Signature : Type 0 where
  pub takes : List Elem
  pub replies : Option Elem

abbrev pub signature : List Elem → Option Elem → Signature
signature takes replies = record { takes = takes; replies = replies }

-- what an operation takes and replies
abbrev pub signature_of : OperationForm → Signature
signature_of o = signature (map (λ p. p.1) o.params) o.result

abbrev pub signatures_of : List OperationForm → List Signature
signatures_of operations = map signature_of operations

abbrev pub reply_sorts : Option Elem → List Elem
reply_sorts None = []
reply_sorts (Some e) = e ∷ []

-- what ends a hold takes nothing, or what the held call took, and behind it what it replied
abbrev pub Fits : Signature → Signature → Type 0
Fits held undo = undo.takes ≢ [] → undo.takes ≡ held.takes ++ reply_sorts held.replies

-- an operation that may end a hold of this one
pub record MayEnd (operations : List Signature) (op undo : ℕ) : Type 0 where
  pub known : undo < length operations
  pub fits : (h u : Signature) → slice_get operations op ≡ Some h → slice_get operations undo ≡ Some u → Fits h u

pub record IsHold (operations : List Signature) (h : HoldForm) : Type 0 where
  pub known : h.op < length operations
  pub ends : All (MayEnd operations h.op) h.until

-- the operations that holds name, those that end them, and those that are called again and again
abbrev pub named_in : List HoldForm → List ℕ
named_in holds = flat_map (λ h. h.op ∷ h.until) holds

abbrev pub ending_in : List HoldForm → List ℕ
ending_in holds = flat_map (λ h. h.until) holds

abbrev pub called_in : List EveryForm → List ℕ
called_in everies = map (λ e. e.op) everies

-- this operation is among these
abbrev pub is_one_of : List ℕ → ℕ → Bool
is_one_of ops op = list_any (λ o. o == op) ops

-- what is called again and again is a procedure that takes nothing, and ends no hold
pub record IsEvery (operations : List Signature) (holds : List HoldForm) (e : EveryForm) : Type 0 where
  pub bare : slice_get operations e.op ≡ Some (signature [] None)
  pub ends_none : is_one_of (ending_in holds) e.op ≡ false

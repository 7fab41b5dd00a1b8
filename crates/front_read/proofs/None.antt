-- Where no front stands.
use Rattle.std.proofs.Common.{◌≡◌, ℕ, List, ◌++◌}
use Rattle.value_core.specs.declared.kind.Kind.{Kind}
use Rattle.value_core.specs.Contents.{Contents}
use Rattle.decl_core.specs.ObjectForm.{ObjectForm}
use Rattle.live_core.specs.declared.past.PastRun.{PastRun}
use Rattle.live_core.specs.declared.front.CarriedCall.{CarriedCall}
use Rattle.live_core.specs.declared.front.NamedClient.{NamedClient}
use Rattle.live_core.specs.declared.front.KeptCall.{KeptCall}
use Rattle.live_core.specs.Front.{Opening}
use Rattle.front_read.specs.Parts.{AreParts}
use Rattle.front_read.specs.Read.{OnClients, OnCalls, OnBase, OnPast, BehindSource, BehindObject, OnFront}

-- a text ends with this rest
pub record IsCut (text rest : List ℕ) : Type 0 where
  pub before : List ℕ
  pub cut : text ≡ before ++ rest

-- no rows of these parts stand here
abbrev pub NoParts : List (List ℕ × Kind) → List ℕ → Type 0
NoParts parts text = (values : List Contents) (rest : List ℕ) → AreParts parts text values rest → ⊥

-- no rows from those of the clients on stand here, and so on
abbrev pub NoClients : ObjectForm → List ℕ → Type 0
NoClients o text =
    (clients : List NamedClient) (kept : List KeptCall) (rest : List ℕ) → OnClients o text clients kept rest → ⊥

abbrev pub NoCalls : ObjectForm → List ℕ → Type 0
NoCalls o text = (carried : List CarriedCall) (clients : List NamedClient) (kept : List KeptCall) (rest : List ℕ) →
    OnCalls o text carried clients kept rest → ⊥

abbrev pub NoBase : ObjectForm → List ℕ → Type 0
NoBase o text =
    (base : ℕ) (carried : List CarriedCall) (clients : List NamedClient) (kept : List KeptCall) (rest : List ℕ) →
    OnBase o text base carried clients kept rest → ⊥

abbrev pub NoPast : ObjectForm → List ℕ → Type 0
NoPast o text = (past : List PastRun) (base : ℕ) (carried : List CarriedCall) (clients : List NamedClient)
    (kept : List KeptCall) (rest : List ℕ) → OnPast o text past base carried clients kept rest → ⊥

abbrev pub NoneBehindSource : ObjectForm → List ℕ → Type 0
NoneBehindSource o text = (f : Opening) (rest : List ℕ) → BehindSource o text f rest → ⊥

abbrev pub NoneBehindObject : ObjectForm → List ℕ → Type 0
NoneBehindObject o text = (f : Opening) (rest : List ℕ) → BehindObject o text f rest → ⊥

abbrev pub NoFront : ObjectForm → List ℕ → Type 0
NoFront o text = (f : Opening) (rest : List ℕ) → OnFront o text f rest → ⊥

-- The front at the beginning of a text.
use Rattle.std.specs.Prelude.{◌≡◌, ℕ, false, List, codes, Result, MatchResult}
use Rattle.std.specs.Borrow.{Bor}
use Rattle.value_core.specs.Contents.{Contents}
use Rattle.decl_core.specs.ObjectForm.{ObjectForm}
use Rattle.live_core.specs.declared.front.Front.{Front}
use Rattle.live_core.specs.declared.past.PastRun.{PastRun}
use Rattle.live_core.specs.declared.front.CarriedCall.{CarriedCall}
use Rattle.live_core.specs.declared.front.NamedClient.{NamedClient}
use Rattle.live_core.specs.declared.front.KeptCall.{KeptCall}
use Rattle.live_core.specs.Front.{IsRun, IsCarried, IsClient, IsKept, IsKey, IsLong, Opening, opening_of}
use Rattle.live_core.specs.Text.{run_words, carried_words, client_words, kept_words, object_words, source_words}
use Rattle.live_core.specs.Text.{base_words}
use Rattle.front_read.specs.Text.{goes_on}
use Rattle.front_read.specs.Rows.{IsRow, AreRows}
use Rattle.front_read.specs.Parts.{AreParts}
use Rattle.front_read.specs.Fault.{StuckClients, StuckCalls, StuckBase, StuckPast, StuckSource, StuckObject, StuckFront}

-- from the rows of the clients on; behind them no row of a front stands
pub record OnClients (o : ObjectForm) (text : List ℕ) (clients : List NamedClient) (kept : List KeptCall)
    (rest : List ℕ) : Type 0 where
  pub mid : List ℕ
  pub clients_are : AreRows IsClient (codes "client") client_words text clients mid
  pub kept_are : AreRows (IsKept o) (codes "kept") (kept_words o) mid kept rest
  pub ends : goes_on rest ≡ false

-- from the rows of the waiting calls on
pub record OnCalls (o : ObjectForm) (text : List ℕ) (carried : List CarriedCall) (clients : List NamedClient)
    (kept : List KeptCall) (rest : List ℕ) : Type 0 where
  pub mid : List ℕ
  pub carried_are : AreRows (IsCarried o) (codes "carried") (carried_words o) text carried mid
  pub clients_on : OnClients o mid clients kept rest

-- from the row of the base on
pub record OnBase (o : ObjectForm) (text : List ℕ) (base : ℕ) (carried : List CarriedCall) (clients : List NamedClient)
    (kept : List KeptCall) (rest : List ℕ) : Type 0 where
  pub mid : List ℕ
  pub base_is : IsRow IsLong base_words text base mid
  pub calls_on : OnCalls o mid carried clients kept rest

-- from the rows of the past on
pub record OnPast (o : ObjectForm) (text : List ℕ) (past : List PastRun) (base : ℕ) (carried : List CarriedCall)
    (clients : List NamedClient) (kept : List KeptCall) (rest : List ℕ) : Type 0 where
  pub mid : List ℕ
  pub past_is : AreRows (IsRun o) (codes "past") (run_words o) text past mid
  pub base_on : OnBase o mid base carried clients kept rest

-- the rows of a front from those of the past on
abbrev pub BehindParts : ObjectForm → List ℕ → Opening → List ℕ → Type 0
BehindParts o text f rest = OnPast o text f.past f.base f.carried f.clients f.kept rest

-- from those of the parts on
pub record BehindSource (o : ObjectForm) (text : List ℕ) (f : Opening) (rest : List ℕ) : Type 0 where
  pub mid : List ℕ
  pub parts_are : AreParts o.parts text f.parts mid
  pub past_on : BehindParts o mid f rest

-- from that of the source on
pub record BehindObject (o : ObjectForm) (text : List ℕ) (f : Opening) (rest : List ℕ) : Type 0 where
  pub mid : List ℕ
  pub source_is : IsRow IsLong source_words text f.source mid
  pub parts_on : BehindSource o mid f rest

-- all rows, and no row of a front behind them
pub record OnFront (o : ObjectForm) (text : List ℕ) (f : Opening) (rest : List ℕ) : Type 0 where
  pub mid : List ℕ
  pub epoch_is : IsRow IsKey (object_words o.name) text f.epoch mid
  pub source_on : BehindObject o mid f rest

-- these rows were taken, or at a rest of the text nothing goes on
abbrev pub TakesClients : ObjectForm → List ℕ → Result (Bor (List ℕ)) (Bor (List ℕ)) → List NamedClient → List KeptCall →
    Type 0
TakesClients o text found clients kept =
    MatchResult found (λ rest. OnClients o text clients kept rest.now) (λ rest. StuckClients o text rest.now)

abbrev pub TakesCalls : ObjectForm → List ℕ → Result (Bor (List ℕ)) (Bor (List ℕ)) → List CarriedCall → List NamedClient →
    List KeptCall → Type 0
TakesCalls o text found carried clients kept = MatchResult found (λ rest. OnCalls o text carried clients kept rest.now)
    (λ rest. StuckCalls o text rest.now)

abbrev pub TakesBase : ObjectForm → List ℕ → Result (ℕ × Bor (List ℕ)) (Bor (List ℕ)) → List CarriedCall →
    List NamedClient → List KeptCall → Type 0
TakesBase o text found carried clients kept =
    MatchResult found (λ r. OnBase o text r.0 carried clients kept r.1.now)
    (λ rest. StuckBase o text rest.now)

abbrev pub TakesPast : ObjectForm → List ℕ → Result (ℕ × Bor (List ℕ)) (Bor (List ℕ)) → List PastRun →
    List CarriedCall → List NamedClient → List KeptCall → Type 0
TakesPast o text found past carried clients kept =
    MatchResult found (λ r. OnPast o text past r.0 carried clients kept r.1.now)
    (λ rest. StuckPast o text rest.now)

-- a front and what stands behind it, or what stands from the row on at which none goes on
abbrev pub AFront : Type 0
AFront = Result (Front × Bor (List ℕ)) (Bor (List ℕ))

-- a front of these numbers and parts was made, with what the rows from those of the past on tell
abbrev pub FrontWith : ObjectForm → ℕ → ℕ → List Contents → List ℕ → AFront → Type 0
FrontWith o epoch source parts text found = MatchResult found
    (λ r. BehindParts o text (opening_of r.0) r.1.now × (r.0.epoch ≡ epoch) × (r.0.source ≡ source)
    × (r.0.parts.items ≡ parts))
    (λ rest. StuckPast o text rest.now)

-- from those of the parts on
abbrev pub FrontOf : ObjectForm → ℕ → ℕ → List ℕ → AFront → Type 0
FrontOf o epoch source text found = MatchResult found
    (λ r. BehindSource o text (opening_of r.0) r.1.now × (r.0.epoch ≡ epoch) × (r.0.source ≡ source))
    (λ rest. StuckSource o text rest.now)

-- from that of the source on
abbrev pub FrontIn : ObjectForm → ℕ → List ℕ → AFront → Type 0
FrontIn o epoch text found = MatchResult found
    (λ r. BehindObject o text (opening_of r.0) r.1.now × (r.0.epoch ≡ epoch))
    (λ rest. StuckObject o text rest.now)

-- all of it
abbrev pub FrontAt : ObjectForm → List ℕ → AFront → Type 0
FrontAt o text found =
    MatchResult found (λ r. OnFront o text (opening_of r.0) r.1.now) (λ rest. StuckFront o text rest.now)

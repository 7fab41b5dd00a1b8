-- At which rest of a text no front goes on.
use Rattle.std.specs.Prelude.{◌≡◌, ℕ, suc, true, false, ◌⊎◌, List, [], ◌∷◌, ◌++◌, codes, Result, MatchResult}
use Rattle.std.specs.Borrow.{Bor}
use Rattle.value_core.specs.Runs.{NoLineFeed}
use Rattle.value_core.specs.declared.kind.Kind.{Kind}
use Rattle.value_core.specs.Contents.{Contents}
use Rattle.decl_core.specs.ObjectForm.{ObjectForm}
use Rattle.word_core.specs.Text.{part_words}
use Rattle.live_core.specs.declared.past.PastRun.{PastRun}
use Rattle.live_core.specs.declared.front.CarriedCall.{CarriedCall}
use Rattle.live_core.specs.declared.front.NamedClient.{NamedClient}
use Rattle.live_core.specs.declared.front.KeptCall.{KeptCall}
use Rattle.live_core.specs.Front.{IsRun, IsCarried, IsClient, IsKept, IsKey, IsLong, Opening, HasRows}
use Rattle.live_core.specs.Text.{run_words, carried_words, client_words, kept_words, object_words, source_words}
use Rattle.live_core.specs.Text.{base_words, front_text}
use Rattle.front_read.specs.Text.{goes_on, feeds_in}
use Rattle.front_read.specs.Rows.{IsRow, NoRow, AreRows, Breaks, has_verb}
use Rattle.front_read.specs.Parts.{IsValueOf, AreParts}

-- from the rows of the clients on: a row of one is broken, a row of a remembered call, or behind all rows one of a front
-- stands again
pub data StuckClients (o : ObjectForm) (text rest : List ℕ) : Type 0 where
  client_breaks : Breaks IsClient (codes "client") client_words text rest → StuckClients o text rest
  kept_breaks : (mid : List ℕ) (clients : List NamedClient) → AreRows IsClient (codes "client") client_words text clients mid
      → has_verb (codes "client") mid ≡ false → Breaks (IsKept o) (codes "kept") (kept_words o) mid rest
      → StuckClients o text rest
  row_again : (mid : List ℕ) (clients : List NamedClient) (kept : List KeptCall) →
      AreRows IsClient (codes "client") client_words text clients mid → has_verb (codes "client") mid ≡ false →
      AreRows (IsKept o) (codes "kept") (kept_words o) mid kept rest → has_verb (codes "kept") rest ≡ false →
      goes_on rest ≡ true → StuckClients o text rest

-- from the rows of the waiting calls on
pub data StuckCalls (o : ObjectForm) (text rest : List ℕ) : Type 0 where
  carried_breaks : Breaks (IsCarried o) (codes "carried") (carried_words o) text rest → StuckCalls o text rest
  clients_stuck : (mid : List ℕ) (carried : List CarriedCall) →
      AreRows (IsCarried o) (codes "carried") (carried_words o) text carried mid →
      has_verb (codes "carried") mid ≡ false → StuckClients o mid rest → StuckCalls o text rest

-- from the row of the base on
pub data StuckBase (o : ObjectForm) (text rest : List ℕ) : Type 0 where
  no_base : NoRow IsLong base_words text → rest ≡ text → StuckBase o text rest
  calls_stuck : (mid : List ℕ) (base : ℕ) → IsRow IsLong base_words text base mid → StuckCalls o mid rest →
      StuckBase o text rest

-- from the rows of the past on
pub data StuckPast (o : ObjectForm) (text rest : List ℕ) : Type 0 where
  past_breaks : Breaks (IsRun o) (codes "past") (run_words o) text rest → StuckPast o text rest
  base_stuck : (mid : List ℕ) (past : List PastRun) → AreRows (IsRun o) (codes "past") (run_words o) text past mid →
      has_verb (codes "past") mid ≡ false → StuckBase o mid rest → StuckPast o text rest

-- in the rows of these parts
abbrev pub StuckParts : List (List ℕ × Kind) → List ℕ → List ℕ → Type 0
StuckParts [] text rest = ⊥
StuckParts (part ∷ parts) text rest =
    (NoRow (IsValueOf part.1) (part_words part.0) text × (rest ≡ text))
    ⊎ ((value : Contents) × (mid : List ℕ) × IsRow (IsValueOf part.1) (part_words part.0) text value mid
    × StuckParts parts mid rest)

-- the rows of these parts were taken, or at a rest of the text nothing goes on
abbrev pub TakesParts : List (List ℕ × Kind) → List ℕ → List Contents → Result (Bor (List ℕ)) (Bor (List ℕ)) →
    List Contents → Type 0
TakesParts parts text old found new = MatchResult found
    (λ rest. (values : List Contents) × (new ≡ old ++ values) × AreParts parts text values rest.now)
    (λ rest. StuckParts parts text rest.now)

-- from the rows of the parts on
pub data StuckSource (o : ObjectForm) (text rest : List ℕ) : Type 0 where
  parts_stuck : StuckParts o.parts text rest → StuckSource o text rest
  past_stuck : (mid : List ℕ) (values : List Contents) → AreParts o.parts text values mid → StuckPast o mid rest →
      StuckSource o text rest

-- from the row of the source on
pub data StuckObject (o : ObjectForm) (text rest : List ℕ) : Type 0 where
  no_source : NoRow IsLong source_words text → rest ≡ text → StuckObject o text rest
  source_stuck : (mid : List ℕ) (source : ℕ) → IsRow IsLong source_words text source mid → StuckSource o mid rest →
      StuckObject o text rest

-- in all rows
pub data StuckFront (o : ObjectForm) (text rest : List ℕ) : Type 0 where
  no_object : NoRow IsKey (object_words o.name) text → rest ≡ text → StuckFront o text rest
  object_stuck : (mid : List ℕ) (epoch : ℕ) → IsRow IsKey (object_words o.name) text epoch mid → StuckObject o mid rest →
      StuckFront o text rest

-- some front begins so, where the object has one
abbrev pub IsBeginning : ObjectForm → List ℕ → Type 0
IsBeginning o before = (g : Opening) → HasRows o g → (f : Opening) × (tail : List ℕ) × HasRows o f
    × (front_text o f ≡ before ++ tail)

-- no front goes on with the line that stands next, where one stands there
abbrev pub NoneGoesOn : ObjectForm → List ℕ → List ℕ → Type 0
NoneGoesOn o before rest = (line behind tail : List ℕ) (f : Opening) → NoLineFeed line → rest ≡ line ++ 10 ∷ behind →
    HasRows o f → front_text o f ≡ before ++ (line ++ 10 ∷ tail) → ⊥

-- the line of this number, from 1, is the first of a text at which no front goes on
pub record IsFirstFault (o : ObjectForm) (text : List ℕ) (number : ℕ) : Type 0 where
  pub before : List ℕ
  pub rest : List ℕ
  pub cut : text ≡ before ++ rest
  pub counted : number ≡ suc (feeds_in before)
  pub begun : IsBeginning o before
  pub stops : NoneGoesOn o before rest

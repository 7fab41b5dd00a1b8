-- Seats that are given out under a name, and parked.
use Rattle.std.specs.Prelude.{◌≡◌, ◌≢◌, ℕ, ◌+◌, ◌<◌, ◌≤◌, ◌⊎◌, ◌++◌, ◌∷◌, [], List, true, false, slice_get, slice_set}
use Rattle.std.specs.Prelude.{Some, None, Result, Ok, Err}
use Rattle.page_core.specs.Lists.{Every}
use Rattle.board_core.specs.Board.{released, marked}
use Rattle.board_core.specs.Started.{Settles}
use Rattle.board_core.specs.Keys.{resumed}
use Rattle.board_core.specs.Answers.{runs_by}
use Rattle.office_core.specs.declared.client_seat.Seat.{Seat}
use Rattle.office_core.specs.declared.clients.Client.{Client}
use Rattle.office_core.specs.ClientSeats.{IsFresh}
use Rattle.office_core.specs.Clients.{IsOut}
use Rattle.office_core.specs.declared.named.NameFault.{NameFault}
use Rattle.office_core.specs.declared.named.NameFault.TheVariants.{InUse, SeatsFull, Memory}
use Rattle.office_core.specs.declared.named.ParkFault.{ParkFault}
use Rattle.office_core.specs.declared.named.ParkFault.TheVariants.{Stranger, Running}
use Rattle.office_core.specs.Insides.{InsideView}

-- a client of this name stands at this place
pub record IsAt (clients : List Client) (name : List ℕ) (k : ℕ) (c : Client) : Type 0 where
  pub there : slice_get clients k ≡ Some c
  pub named : c.name ≡ name

-- no client has this name
abbrev pub IsNew : InsideView → List ℕ → Type 0
IsNew r name = Every (λ (c : Client). c.name ≢ name) r.clients

-- the parked seat of this name is given out again, and its session is back
pub record IsGivenAgain (old : InsideView) (name : List ℕ) (seat : Seat) (new : InsideView) : Type 0 where
  pub place : ℕ
  pub client : Client
  pub at : IsAt old.clients name place client
  pub parked : client.seat ≡ Some seat
  pub board : new.board ≡ resumed old.board seat.session
  pub given : new.given ≡ old.given
  pub clients : new.clients ≡ slice_set old.clients place (record client { seat = None })

-- the next session is given out under this name
pub record IsGivenNew (old : InsideView) (name : List ℕ) (seat : Seat) (new : InsideView) : Type 0 where
  pub unknown : IsNew old name
  pub free : old.given < 1024
  pub fresh : IsFresh (old.given + 1) seat
  pub board : new.board ≡ old.board
  pub given : new.given ≡ old.given + 1
  pub clients : new.clients ≡ old.clients ++ (record { name = name; session = old.given + 1; seat = None }) ∷ []

-- What it answers to give a seat out under a name, and what that makes of the inside; a refusal, the first that
-- applies, changes nothing.
abbrev pub GivesNamed : InsideView → List ℕ → Result Seat NameFault → InsideView → Type 0
GivesNamed old name (Ok seat) new = IsGivenAgain old name seat new ⊎ IsGivenNew old name seat new
GivesNamed old name (Err InUse) new =
    ((k : ℕ) × (c : Client) × IsAt old.clients name k c × (c.seat ≡ None)) × (new ≡ old)
GivesNamed old name (Err SeatsFull) new = IsNew old name × (1024 ≤ old.given) × (new ≡ old)
GivesNamed old name (Err Memory) new = IsNew old name × (old.given < 1024) × (new ≡ old)

-- a seat is parked: no call of its session runs, the session leaves, and the seat lies with its name
pub record IsParked (old : InsideView) (seat : Seat) (new : InsideView) : Type 0 where
  pub place : ℕ
  pub client : Client
  pub there : slice_get old.clients place ≡ Some client
  pub out : IsOut seat.session client
  pub rests : runs_by old.board seat.session ≡ false
  pub board : Settles (marked (released old.board seat.session) seat.session) new.board
  pub given : new.given ≡ old.given
  pub clients : new.clients ≡ slice_set old.clients place (record client { seat = Some seat })

-- What it answers to park a seat, and what that makes of the inside; a refusal, the first that applies, hands the seat
-- back and changes nothing.
abbrev pub Parks : InsideView → Seat → Result (Unit {0}) (Seat × ParkFault) → InsideView → Type 0
Parks old seat (Ok done) new = IsParked old seat new
Parks old seat (Err (back, Stranger)) new =
    (back ≡ seat) × Every (λ (c : Client). IsOut seat.session c → ⊥) old.clients × (new ≡ old)
Parks old seat (Err (back, Running)) new =
    (back ≡ seat) × ((k : ℕ) × (c : Client) × (slice_get old.clients k ≡ Some c) × IsOut seat.session c)
    × (runs_by old.board seat.session ≡ true) × (new ≡ old)

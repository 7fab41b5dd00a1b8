-- Clients that come again: the seats that were given out under a name.
use Rattle.std.specs.Prelude.{◌≡◌, ◌≢◌, ℕ, ◌<◌, ◌≤◌, List, [], ◌∷◌, Option, Some, None, IfSome}
use Rattle.page_core.specs.Lists.{Every, EachPair}
use Rattle.office_core.specs.declared.client_seat.Seat.{Seat}
use Rattle.office_core.specs.declared.clients.Client.{Client}

-- the seat of a client is out, and of this session
pub record IsOut (session : ℕ) (c : Client) : Type 0 where
  pub of : c.session ≡ session
  pub out : c.seat ≡ None

-- a seat in front, where there is one
abbrev pub and_seat : Option Seat → List Seat → List Seat
and_seat None seats = seats
and_seat (Some seat) seats = seat ∷ seats

-- the seats that are parked
abbrev pub parked_of : List Client → List Seat
parked_of [] = []
parked_of (c ∷ clients) = and_seat c.seat (parked_of clients)

-- a client's session was given out, and a seat that it parked is of that session
pub record IsClient (given : ℕ) (c : Client) : Type 0 where
  pub within : (0 < c.session) × (c.session ≤ given)
  pub own : IfSome c.seat (λ (s : Seat). s.session ≡ c.session)

-- clients have names and sessions of their own
pub record AreClients (given : ℕ) (clients : List Client) : Type 0 where
  pub each : Every (IsClient given) clients
  pub names : EachPair (λ (c d : Client). c.name ≢ d.name) clients
  pub sessions : EachPair (λ (c d : Client). c.session < d.session) clients

-- Places of connections.
use Rattle.std.specs.Prelude.{◌≡◌, ℕ, ◌%◌, ◌==◌, Bool, false, Option, Some, None, List, [], length, slice_get, if◌then◌else◌}
use Rattle.client_core.specs.declared.client.ClientPlace.{ClientPlace}
use Rattle.client_core.specs.declared.client.OpenObject.{OpenObject}
use Rattle.client_core.specs.declared.clients.ClientPlaces.{ClientPlaces}

-- a connection is here, and has this place
abbrev pub is_here_in : Option ClientPlace → Bool
is_here_in None = false
is_here_in (Some client) = client.is_here

-- the connection of this number is here, and has this place
abbrev pub has_in : ℕ → Option ClientPlace → Bool
has_in who None = false
has_in who (Some client) = if client.is_here then client.who == who else false

-- what the one at the place has opened
abbrev pub opened_in : Option ClientPlace → Option OpenObject
opened_in None = None
opened_in (Some client) = client.opened

-- its lines that are held
abbrev pub held_in : Option ClientPlace → List ℕ
held_in None = []
held_in (Some client) = client.held.items

abbrev pub place_at : ClientPlaces → ℕ → Option ClientPlace
place_at clients place = slice_get clients.rows.items place

-- the place that the connection of a number has, where it is here
abbrev pub place_for : ClientPlaces → ℕ → ℕ
place_for clients who = who % length clients.rows.items

-- nothing is another but at this place
pub record Elsewhere (old new : ClientPlaces) (place : ℕ) : Type 0 where
  pub count : length new.rows.items ≡ length old.rows.items
  pub others : (k : ℕ) → (place == k) ≡ false → place_at new k ≡ place_at old k

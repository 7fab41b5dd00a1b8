-- What is known of clients.
use Rattle.std.specs.Prelude.{ℕ, List, Option, Some, None, map, option_map}
use Rattle.client_core.specs.declared.client.ClientPlace.{ClientPlace}
use Rattle.client_core.specs.declared.clients.ClientPlaces.{ClientPlaces}

-- the name of a client, the second in which it came, and that of its last call, or in which it came where it made none
pub record Person : Type 0 where
  pub name : Option (List ℕ)
  pub since : ℕ
  pub called : ℕ

abbrev pub person_of : ClientPlace → Person
person_of client = record { name = client.name; since = client.since; called = client.called }

-- the one at the place
abbrev pub person_in : Option ClientPlace → Option Person
person_in client = option_map person_of client

abbrev pub people_of : ClientPlaces → List Person
people_of clients = map person_of clients.rows.items

-- one that came in this second
abbrev pub newcomer : ℕ → Person
newcomer second = record { name = None; since = second; called = second }

-- nothing is known
abbrev pub stranger : Person
stranger = newcomer 0

-- it has this name, or none
abbrev pub named : Option (List ℕ) → Person → Person
named name person = record person { name = name }

-- its last call was taken in this second
abbrev pub called_at : ℕ → Person → Person
called_at second person = record person { called = second }

-- what is told of a person: nothing of nobody
abbrev pub name_in : Option Person → Option (List ℕ)
name_in None = None
name_in (Some person) = person.name

abbrev pub since_in : Option Person → ℕ
since_in None = 0
since_in (Some person) = person.since

abbrev pub called_in : Option Person → ℕ
called_in None = 0
called_in (Some person) = person.called

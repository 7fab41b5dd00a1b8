-- What is seen of a table.
use Rattle.std.specs.Prelude.{◌≡◌, ℕ, List, [], Some, None, slice_get}
use Rattle.live_core.specs.Scene.{Scene}
use Rattle.client_core.specs.declared.clients.ClientPlaces.{ClientPlaces}
use Rattle.client_core.specs.Custody.{Custodies}
use Rattle.client_core.specs.Views.{custodies_of}
use Rattle.client_core.specs.State.{Peer, State, peers_of}
use Rattle.table_core.specs.declared.table.Table.{Table}

abbrev pub state_of : Custodies → List Scene → ClientPlaces → State
state_of custody objects clients = record { objects = objects; peers = peers_of clients; custody = custody }

-- its objects with their clients, its places of connections, and what is held of its objects
abbrev pub seen : Table → State
seen t = state_of (custodies_of t.custody) t.objects.items t.clients

-- nobody has opened an object, and no line is held
abbrev pub IsQuiet : State → Type 0
IsQuiet s = (place : ℕ) (p : Peer) → slice_get s.peers place ≡ Some p → (p.opened ≡ None) × (p.held ≡ [])

-- nobody is there
abbrev pub NobodyIsThere : State → Type 0
NobodyIsThere s = (place : ℕ) (p : Peer) → slice_get s.peers place ≡ Some p → p.who ≡ None

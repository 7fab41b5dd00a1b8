-- A table as its clients know it.
use Rattle.std.specs.Prelude.{ℕ, zero, suc, ◌+◌, ◌-◌, ◌^◌, min, Bool, true, false, List, [], ◌∷◌, ◌++◌, Option, Some, None, drop, map, slice_get, slice_set, if◌then◌else◌}
use Rattle.client_core.specs.declared.client.ClientPlace.{ClientPlace}
use Rattle.client_core.specs.declared.client.OpenObject.{OpenObject}
use Rattle.client_core.specs.declared.clients.ClientPlaces.{ClientPlaces}
use Rattle.client_core.specs.Held.{is_not, waits_of, with_waits}
use Rattle.live_core.specs.Scene.{Scene}
use Rattle.client_core.specs.Custody.{Custodies}

-- A place of connections: which one is there, what it has opened, its lines that are held, each with its LF, and whether
-- the LF of the last of them did not come.
pub record Peer : Type 0 where
  pub who : Option ℕ
  pub opened : Option OpenObject
  pub held : List ℕ
  pub is_cut : Bool

-- each object with its clients, each place of connections, and what is held of each object
pub record State : Type 0 where
  pub objects : List Scene
  pub peers : List Peer
  pub custody : Custodies

-- nobody is there
abbrev pub nobody : Peer
nobody = record { who = None; opened = None; held = []; is_cut = false }

-- one that has just come
abbrev pub comer : ℕ → Peer
comer who = record { who = Some who; opened = None; held = []; is_cut = false }

-- whether the last line was cut off, where lines are held
abbrev pub cut_of : List ℕ → Bool → Bool
cut_of [] is_cut = false
cut_of (b ∷ held) is_cut = is_cut

-- what is seen of a place of a table
abbrev pub peer_of : ClientPlace → Peer
peer_of client = record {
  who = if client.is_here then Some client.who else None;
  opened = client.opened;
  held = drop client.done client.held.items;
  is_cut = cut_of (drop client.done client.held.items) client.is_cut;
}

abbrev pub peers_of : ClientPlaces → List Peer
peers_of clients = map peer_of clients.rows.items

-- the one at a place becomes this, and the others are as they were
abbrev pub change : List Peer → ℕ → (Peer → Peer) → List Peer
change [] place f = []
change (p ∷ peers) zero f = f p ∷ peers
change (p ∷ peers) (suc place) f = p ∷ change peers place f

-- what it has opened
abbrev pub opening : OpenObject → Peer → Peer
opening opened p = record p { opened = Some opened }

-- its call waits, or waits no more
abbrev pub waiting : Bool → Peer → Peer
waiting waits p = record p { opened = with_waits waits p.opened }

-- a line is held behind the others; its LF came, or not
abbrev pub holding : List ℕ → Bool → Peer → Peer
holding line is_whole p = record p { held = p.held ++ (line ++ 10 ∷ []); is_cut = is_not is_whole }

-- these of its lines are left
abbrev pub left_with : List ℕ → Peer → Peer
left_with held p = record p { held = held; is_cut = cut_of held p.is_cut }

abbrev pub who_in : Option Peer → Option ℕ
who_in None = None
who_in (Some p) = p.who

abbrev pub opened_in : Option Peer → Option OpenObject
opened_in None = None
opened_in (Some p) = p.opened

abbrev pub held_in : Option Peer → List ℕ
held_in None = []
held_in (Some p) = p.held

-- who is at a place, what it has opened, its lines that are held, and whether a call of it waits
abbrev pub who_at : State → ℕ → Option ℕ
who_at s place = who_in (slice_get s.peers place)

abbrev pub opened_at : State → ℕ → Option OpenObject
opened_at s place = opened_in (slice_get s.peers place)

abbrev pub held_at : State → ℕ → List ℕ
held_at s place = held_in (slice_get s.peers place)

abbrev pub waits_at : State → ℕ → Bool
waits_at s place = waits_of (opened_at s place)

-- the same, but for what is at one place, or for one object
abbrev pub changed : State → ℕ → (Peer → Peer) → State
changed s place f = record s { peers = change s.peers place f }

abbrev pub with_object : State → ℕ → Scene → State
with_object s at object = record s { objects = slice_set s.objects at object }

-- now this is held of the objects
abbrev pub with_custody : State → Custodies → State
with_custody s custody = record s { custody = custody }

abbrev pub one_text : Option ℕ → List ℕ → List (ℕ × List ℕ)
one_text None bytes = []
one_text (Some who) bytes = (who, bytes) ∷ []

-- what is told where a text is told to the one at a place: nothing where nobody is there
abbrev pub told_to : List Peer → ℕ → List ℕ → List (ℕ × List ℕ)
told_to peers place bytes = one_text (who_in (slice_get peers place)) bytes

-- one call more of it waits, of which this number was told
abbrev pub counted : ℕ → OpenObject → OpenObject
counted told opened = record opened { waits = true; calls = min (opened.calls + 1) (2 ^ 64 - 1); told = told }

-- the session by which it makes calls under keys, where its client has a name
abbrev pub session_by : OpenObject → Option ℕ
session_by opened = if opened.is_named then Some opened.session else None

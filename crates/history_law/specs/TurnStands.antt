-- Where a talk stands in a state, and what of it is done behind a line.
use Rattle.std.specs.Prelude.{◌≡◌, ◌%◌, ℕ, Bool, true, false, List, [], ◌∷◌, ◌++◌, Option, Some, None, length, slice_get}
use Rattle.value_core.specs.Runs.{NoLineFeed}
use Rattle.decl_core.specs.ObjectForm.{ObjectForm}
use Rattle.apply_core.specs.History.{End}
use Rattle.word_core.specs.Events.{Called, history_of}
use Rattle.audit_core.specs.Steps.{happened_of}
use Rattle.live_core.specs.Scene.{Scene}
use Rattle.client_core.specs.declared.client.OpenObject.{OpenObject}
use Rattle.client_core.specs.Held.{is_whole_before, waits_of}
use Rattle.keep_loop.specs.Turns.{Turn}
use Rattle.keep_loop.specs.declared.served.LineEnd.{LineEnd}
use Rattle.client_core.specs.Deeds.{Texts}
use Rattle.client_core.specs.Gone.{Settles}
use Rattle.client_core.specs.State.{Peer, State, who_in}
use Rattle.history_law.specs.Said.{Account, AllWent}
use Rattle.history_law.specs.Asker.{HasSaid}
use Rattle.history_law.specs.Awaits.{Awaits, Pool, waits_in}
use Rattle.history_law.specs.Talk.{Line, Talk, Part, Wanted, Course, lines_of, texts_of, ends_of, AllKept, ArePicked, IsWanted, texts_to}
use Rattle.history_law.specs.Talk.Talk.{Away, Here}

-- bytes are these lines, each with its LF; that of the last may not have come
abbrev pub AreHeld : Bool → List ℕ → List Line → Type 0
AreHeld is_cut held [] = held ≡ []
AreHeld is_cut held (l ∷ lines) =
    (behind : List ℕ) × NoLineFeed l.text × (held ≡ l.text ++ 10 ∷ behind) × (l.is_whole ≡ is_whole_before is_cut behind) × AreHeld is_cut behind lines

-- each call there of the session that one has opened is the one that is wanted
abbrev pub Wants : List Scene → Pool → OpenObject → Wanted → Type 0
Wants objects pool o w = (call : Called) → pool o.object call → call.session ≡ o.session → IsWanted objects o.object w call

-- a call of one that has opened this waits, which is wanted; or none does
abbrev pub IsWaiting : List Scene → Pool → Option OpenObject → Option Wanted → Type 0
IsWaiting objects pool opened None = waits_of opened ≡ false
IsWaiting objects pool opened (Some w) = (o : OpenObject) × (opened ≡ Some o) × (o.waits ≡ true) × (o.told ≡ w.number) × Wants objects pool o w

-- a connection is at a place, with what it holds and waits for; or it is not there
abbrev pub IsAt : ℕ → List Scene → Pool → Option Peer → Talk → Type 0
IsAt c objects pool x Away = who_in x ≡ Some c → ⊥
IsAt c objects pool x (Here waits held) = (p : Peer) × (x ≡ Some p) × (p.who ≡ Some c) × AreHeld p.is_cut p.held held × IsWaiting objects pool p.opened waits

-- The talk of a connection stands so: it is at its place, and nowhere else; or it is not there.
pub record Stands (c n : ℕ) (objects : List Scene) (pool : Pool) (peers : List Peer) (t : Talk) : Type 0 where
  pub size : length peers ≡ n
  pub only : (place : ℕ) (p : Peer) → slice_get peers place ≡ Some p → p.who ≡ Some c → place ≡ c % n
  pub is_at : IsAt c objects pool (slice_get peers (c % n)) t

abbrev pub StandsIn : ℕ → ℕ → State → Talk → Type 0
StandsIn c n s t = Stands c n s.objects (waits_in s.objects) s.peers t

-- Of a talk that stood so these lines were heard, and the texts that are told to its connection are those of its parts. The
-- calls that ended are the ones that were wanted, and their ends are picked of these.
pub record Voiced (c : ℕ) (objects : List Scene) (ends : ObjectForm → ℕ → List End) (said : Texts) (stands_so : Talk → Type 0) (t : Talk) (lines : List (List ℕ × LineEnd)) : Type 0 where
  pub parts : List Part
  pub now : Talk
  pub course : Course parts t now
  pub stands : stands_so now
  pub heard : lines_of parts ≡ lines
  pub texts : texts_of parts ≡ texts_to c said
  pub kept : AllKept objects parts
  pub picked : (o : ObjectForm) (j : ℕ) → ArePicked (ends_of o j parts) (ends o j)

-- the ends of what happened
abbrev pub ends_by : Account → ObjectForm → ℕ → List End
ends_by account o j = history_of o (happened_of (account j))

-- What is done is in order: this happened, and in each talk, wherever it stood, what is told to its connection goes on there.
pub record IsInOrder (old : State) (said added : Texts) (new : State) : Type 0 where
  pub account : Account
  pub went : AllWent old.objects added account new.objects
  pub each : (c n : ℕ) (t : Talk) → StandsIn c n old t → Voiced c old.objects (ends_by account) said (StandsIn c n new) t []

-- So is all that a turn does behind what it was asked for: held lines, and what is called for those that are gone; where each
-- that waits does so for a call that it asked for.
abbrev pub SettlesInOrder : Type 0
SettlesInOrder =
    (turns : List Turn) (past : Texts) (old new : State) (said added : Texts) → Awaits (HasSaid turns) past old.objects old.peers → Settles old said added new →
    IsInOrder old said added new

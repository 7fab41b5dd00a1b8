-- Who waits for which call, and which lines asked for it.
use Rattle.std.specs.Prelude.{◌≡◌, ◌⊎◌, ℕ, Bool, true, List, [], ◌∷◌, ◌++◌, Option, Some, None, slice_get}
use Rattle.std.specs.Global.{Vec}
use Rattle.value_core.specs.declared.datum.Datum.{Datum}
use Rattle.decl_core.specs.declared.object.Object.{Object}
use Rattle.decl_core.specs.ObjectMap.{object_of}
use Rattle.value_core.specs.Runs.{NoLineFeed}
use Rattle.word_core.specs.Events.{Called}
use Rattle.word_core.specs.Text.{operation_name}
use Rattle.session_text.specs.Lines.{accepted_text}
use Rattle.live_core.specs.Hall.{Told, IsHeld}
use Rattle.live_core.specs.Scene.{Scene, told_of}
use Rattle.client_core.specs.declared.ask.Ask.TheVariants as asks
use Rattle.client_core.specs.declared.client.OpenObject.{OpenObject}
use Rattle.client_core.specs.Asks.{Asks}
use Rattle.client_core.specs.Held.{is_whole_before}
use Rattle.client_core.specs.Deeds.{Texts}
use Rattle.client_core.specs.State.{Peer, opened_in}

-- it is one of these
abbrev pub IsElementOf : {X : Type 0} → X → List X → Type 0
IsElementOf x [] = ⊥
IsElementOf x (y ∷ ys) = (y ≡ x) ⊎ IsElementOf x ys

-- lines that were heard: of which connection, without a CR, and whether an LF stood behind
abbrev pub Lines : Type 1
Lines = ℕ → List ℕ → Bool → Type 0

-- the one that is there said this line
abbrev pub SaidBy : Lines → Option ℕ → List ℕ → Bool → Type 0
SaidBy heard None line is_whole = ⊥
SaidBy heard (Some who) line is_whole = heard who line is_whole

-- A line of a connection asked to open this object, by its name.
pub record HasOpened (heard : Lines) (who : ℕ) (object : Object) : Type 0 where
  pub line : List ℕ
  pub is_whole : Bool
  pub is_heard : heard who line is_whole
  pub had_opened : Bool
  pub client : Option (List ℕ)
  pub asks_so : Asks had_opened is_whole line (asks.Open object.name client)

-- A line of a connection asked for this call of an object that it had opened: for its operation, by name, with its arguments.
pub record HasAsked (heard : Lines) (who : ℕ) (object : Object) (call : Called) : Type 0 where
  pub opened : HasOpened heard who object
  pub line : List ℕ
  pub is_heard : heard who line true
  pub key : Option ℕ
  pub arguments : Vec Datum
  pub asks_so : Asks true true line (asks.Call key (operation_name (object_of object) call.operation) arguments)
  pub arguments_are : call.arguments ≡ arguments.items

-- bytes are lines that were said, each with its LF; that of the last may not have come
pub data AreHeard (said : List ℕ → Bool → Type 0) (is_cut : Bool) : List ℕ → Type 0 where
  none : AreHeard said is_cut []
  more : {held : List ℕ} (line behind : List ℕ) → NoLineFeed line → said line (is_whole_before is_cut behind) →
      held ≡ line ++ 10 ∷ behind → AreHeard said is_cut behind → AreHeard said is_cut held

-- which calls of the object at a place are there
abbrev pub Pool : Type 1
Pool = ℕ → Called → Type 0

-- those that wait
abbrev pub waits_in : List Scene → Pool
waits_in objects at call = (object : Scene) × (slice_get objects at ≡ Some object) × IsElementOf call object.hall.waiting

-- the one that is there asked for what it has opened
pub record IsOpenedBy (heard : Lines) (objects : List Scene) (who : Option ℕ) (opened : OpenObject) : Type 0 where
  pub here : ℕ
  pub who_is : who ≡ Some here
  pub object : Scene
  pub there : slice_get objects opened.object ≡ Some object
  pub asked : HasOpened heard here object.hall.object

-- The one that is there waits: for a call of its session of the object that it has opened, of which its number was told to it,
-- and for which a line of it asked.
pub record IsAwaited (heard : Lines) (past : Texts) (objects : List Scene) (pool : Pool) (who : Option ℕ) (opened : OpenObject) : Type 0 where
  pub here : ℕ
  pub who_is : who ≡ Some here
  pub object : Scene
  pub there : slice_get objects opened.object ≡ Some object
  pub call : Called
  pub is_there : pool opened.object call
  pub session_is : call.session ≡ opened.session
  pub told_is : told_of object call.number ≡ opened.told
  pub asked : HasAsked heard here object.hall.object call
  pub accepted : IsElementOf (here, accepted_text opened.told) past

-- of one place of connections: what is held are lines that it said; a line asked for what it has opened; and it waits so
pub record IsSeated (heard : Lines) (past : Texts) (objects : List Scene) (pool : Pool) (p : Peer) : Type 0 where
  pub held : AreHeard (SaidBy heard p.who) p.is_cut p.held
  pub opened : (o : OpenObject) → p.opened ≡ Some o → IsOpenedBy heard objects p.who o
  pub waits : (o : OpenObject) → p.opened ≡ Some o → o.waits ≡ true → IsAwaited heard past objects pool p.who o

abbrev pub AllSeated : Lines → Texts → List Scene → Pool → List Peer → Type 0
AllSeated heard past objects pool peers =
    (place : ℕ) (p : Peer) → slice_get peers place ≡ Some p → IsSeated heard past objects pool p

-- no two wait by one session of one object
abbrev pub AreAlone : List Peer → Type 0
AreAlone peers =
    (place other : ℕ) (o u : OpenObject) → opened_in (slice_get peers place) ≡ Some o → opened_in (slice_get peers other) ≡ Some u →
    o.waits ≡ true → u.waits ≡ true → o.object ≡ u.object → o.session ≡ u.session → place ≡ other

-- something stands behind each object
abbrev pub AllHeld : List Scene → Type 0
AllHeld objects = (j : ℕ) (object : Scene) → slice_get objects j ≡ Some object → (t : Told) × IsHeld object.hall t

-- Each that waits does so for a call that it asked for: by the lines that were heard, and what was told.
pub record Awaits (heard : Lines) (past : Texts) (objects : List Scene) (peers : List Peer) : Type 0 where
  pub held : AllHeld objects
  pub alone : AreAlone peers
  pub seated : AllSeated heard past objects (waits_in objects) peers

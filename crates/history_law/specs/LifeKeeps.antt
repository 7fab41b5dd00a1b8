-- What an object keeps, so that each line of a front of it says something by itself.
use Rattle.std.specs.Prelude.{◌≡◌, ℕ, ◌<◌, ◌≤◌, List, Option, Some, length, map}
use Rattle.value_core.specs.Datum.{elem_of}
use Rattle.decl_core.specs.ObjectForm.{ObjectForm}
use Rattle.decl_core.specs.RefusalWord.{IsRefusalWord}
use Rattle.apply_core.specs.declared.reply.Reply.{Reply}
use Rattle.apply_core.specs.declared.reply.Reply.TheVariants.{Refused}
use Rattle.word_core.specs.Events.{body_at}
use Rattle.live_core.specs.Front.{Every, IsLong}
use Rattle.guest_core.specs.declared.guest.Guest.{Guest}
use Rattle.guest_core.specs.declared.kept.Asked.{Asked}
use Rattle.guest_core.specs.declared.kept.RememberedCall.{RememberedCall}
use Rattle.guest_core.specs.Guests.{Guests}
use Rattle.guest_core.specs.Keys.{Keys}
use Rattle.live_core.specs.Scene.{Scene}
use Rattle.keep_loop.specs.Turns.{Turn, Runs}
use Rattle.table_core.specs.Moves.{Gives}
use Rattle.table_core.specs.declared.table.Table.{Table}
use Rattle.history_law.specs.Kept.{Stood}

-- a client asked for an operation of the object, with arguments that fit it
pub record AskedFits (o : ObjectForm) (a : Asked) : Type 0 where
  pub known : a.operation < length o.operations
  pub fit : map elem_of a.arguments ≡ (body_at o a.operation).params

-- where a call was refused, that was by a word by which bodies refuse
abbrev pub IsWorded : Option Reply → Type 0
IsWorded reply = (word : List ℕ) → reply ≡ Some (Refused word) → IsRefusalWord word

-- a call that is remembered was asked so, and ended so
pub record KeptWell (o : ObjectForm) (k : RememberedCall) : Type 0 where
  pub asked : AskedFits o k.asked
  pub worded : IsWorded k.reply

-- The key of a client's next call is above those of all that are remembered of it, which are from 1 on; and each call that it
-- asked was such.
pub record KeysKeep (o : ObjectForm) (w : Keys) : Type 0 where
  pub counted : length w.kept < w.next
  pub kept : Every (KeptWell o) w.kept
  pub asked : (a : Asked) → w.asked ≡ Some a → AskedFits o a

-- so it is of each client
abbrev pub GuestsKeep : ObjectForm → Guests → Type 0
GuestsKeep o v = Every (λ (g : Guest). KeysKeep o g.keys) v.guests

-- So it is of an object, and the numbers by which it tells of calls, and of its epoch, have 64 bits.
pub record Keeps (o : ObjectForm) (s : Scene) : Type 0 where
  pub guests : GuestsKeep o s.guests
  pub carried : Every IsLong s.carried
  pub base : IsLong s.base
  pub epoch : (1 ≤ s.epoch) × IsLong s.epoch

-- An object at a place of a table stands, and keeps that.
pub record KeepsAt (t : Table) (j : ℕ) (o : ObjectForm) : Type 0 where
  pub stood : Stood t j o
  pub keeps : Keeps o stood.scene

-- So it does at the end of turns in which it has begun any number of epochs.
abbrev pub ObjectsKeep : Type 0
ObjectsKeep = (first last : Table) (turns : List Turn) (j : ℕ) (o : ObjectForm) → Runs Gives first turns last → KeepsAt first j o → KeepsAt last j o

-- Lines that are held.
use Rattle.std.specs.Prelude.{◌≡◌, ◌+◌, ℕ, Bool, true, false, Option, Some, None, List, [], ◌∷◌, ◌++◌, length, drop}
use Rattle.std.specs.Prelude.{Result, IfOk, option_map, slice_get}
use Rattle.std.specs.declared.alloc.AllocError.{AllocError}
use Rattle.value_core.specs.Runs.{NoLineFeed}
use Rattle.client_core.specs.declared.ask.Ask.{Ask}
use Rattle.client_core.specs.declared.client.ClientPlace.{ClientPlace}
use Rattle.client_core.specs.declared.client.OpenObject.{OpenObject}
use Rattle.client_core.specs.declared.clients.ClientPlaces.{ClientPlaces}
use Rattle.client_core.specs.Asks.{Asks}
use Rattle.client_core.specs.People.{Person, person_in}
use Rattle.client_core.specs.Places.{has_in, is_here_in, opened_in}

abbrev pub is_not : Bool → Bool
is_not true = false
is_not false = true

abbrev pub waits_of : Option OpenObject → Bool
waits_of None = false
waits_of (Some opened) = opened.waits

-- a call of the one at the place waits
abbrev pub waits_in : Option ClientPlace → Bool
waits_in client = waits_of (opened_in client)

abbrev pub is_some : {X : Type 0} → Option X → Bool
is_some None = false
is_some (Some x) = true

-- the held lines that are not done, each with its LF
abbrev pub rest_in : Option ClientPlace → List ℕ
rest_in None = []
rest_in (Some client) = drop client.done client.held.items

-- the last of them may have been cut off: its LF did not come
abbrev pub is_cut_in : Option ClientPlace → Bool
is_cut_in None = false
is_cut_in (Some client) = client.is_cut

-- the same, where its call waits or not
abbrev pub with_waits : Bool → Option OpenObject → Option OpenObject
with_waits waits None = None
with_waits waits (Some opened) = Some (record opened { waits = waits })

-- a text begins with this line, and goes on behind its LF
abbrev pub IsFirstLine : List ℕ → List ℕ → List ℕ → Type 0
IsFirstLine text line behind = NoLineFeed line × (text ≡ line ++ 10 ∷ behind)

-- a line had its LF, where these stand behind it: it was not cut off, or is not the last one
abbrev pub is_whole_before : Bool → List ℕ → Bool
is_whole_before true [] = false
is_whole_before true (byte ∷ bytes) = true
is_whole_before false behind = true

-- the same connection is at a place, of the same client, with what it has opened and its held lines
pub record IsSame (old new : Option ClientPlace) : Type 0 where
  pub here : is_here_in new ≡ is_here_in old
  pub who : (who : ℕ) → has_in who new ≡ has_in who old
  pub opened : opened_in new ≡ opened_in old
  pub rest : rest_in new ≡ rest_in old
  pub cut : is_cut_in new ≡ is_cut_in old
  pub person : person_in new ≡ person_in old

-- the same connections, of the same clients, with what they have opened and their held lines
pub record AreSameRows (old new : List ClientPlace) : Type 0 where
  pub count : length new ≡ length old
  pub each : (k : ℕ) → IsSame (slice_get old k) (slice_get new k)

-- nothing changes but in which order held lines are done
abbrev pub AreSame : ClientPlaces → ClientPlaces → Type 0
AreSame old new = AreSameRows old.rows.items new.rows.items

-- a line was held behind those that are there, with its LF; it had one, or not
pub record IsHeld (line : List ℕ) (is_whole : Bool) (old new : Option ClientPlace) : Type 0 where
  pub here : is_here_in new ≡ is_here_in old
  pub who : (who : ℕ) → has_in who new ≡ has_in who old
  pub opened : opened_in new ≡ opened_in old
  pub rest : rest_in new ≡ rest_in old ++ (line ++ 10 ∷ [])
  pub cut : is_cut_in new ≡ is_not is_whole
  pub person : person_in new ≡ person_in old

-- the first of its held lines, so many bytes, are held no more
pub record IsPassed (count : ℕ) (old new : Option ClientPlace) : Type 0 where
  pub here : is_here_in new ≡ is_here_in old
  pub who : (who : ℕ) → has_in who new ≡ has_in who old
  pub opened : opened_in new ≡ opened_in old
  pub rest : rest_in new ≡ drop count (rest_in old)
  pub cut : is_cut_in new ≡ is_cut_in old
  pub person : person_in new ≡ person_in old

-- it has opened this
pub record HasOpened (what : OpenObject) (old new : Option ClientPlace) : Type 0 where
  pub here : is_here_in new ≡ is_here_in old
  pub who : (who : ℕ) → has_in who new ≡ has_in who old
  pub opened : opened_in new ≡ Some what
  pub rest : rest_in new ≡ rest_in old
  pub cut : is_cut_in new ≡ is_cut_in old
  pub person : person_in new ≡ person_in old

-- its call waits, or waits no more
pub record IsSetTo (waits : Bool) (old new : Option ClientPlace) : Type 0 where
  pub here : is_here_in new ≡ is_here_in old
  pub who : (who : ℕ) → has_in who new ≡ has_in who old
  pub opened : opened_in new ≡ with_waits waits (opened_in old)
  pub rest : rest_in new ≡ rest_in old
  pub cut : is_cut_in new ≡ is_cut_in old
  pub person : person_in new ≡ person_in old

-- the same, but for what is known of its client
pub record ChangesPerson (change : Person → Person) (old new : Option ClientPlace) : Type 0 where
  pub here : is_here_in new ≡ is_here_in old
  pub who : (who : ℕ) → has_in who new ≡ has_in who old
  pub opened : opened_in new ≡ opened_in old
  pub rest : rest_in new ≡ rest_in old
  pub cut : is_cut_in new ≡ is_cut_in old
  pub person : person_in new ≡ option_map change (person_in old)

-- what the first held line asks for, of a connection that has opened an object or none, and its bytes with the LF
pub record IsAsked (client : Option ClientPlace) (count : ℕ) (asked : Result Ask AllocError) : Type 0 where
  pub line : List ℕ
  pub behind : List ℕ
  pub first : IsFirstLine (rest_in client) line behind
  pub counted : count ≡ length line + 1
  pub asks : IfOk asked (Asks (is_some (opened_in client)) (is_whole_before (is_cut_in client) behind) line)

-- the same, and it is held no more
pub record IsTaken (old new : Option ClientPlace) (asked : Result Ask AllocError) : Type 0 where
  pub count : ℕ
  pub asks : IsAsked old count asked
  pub passed : IsPassed count old new

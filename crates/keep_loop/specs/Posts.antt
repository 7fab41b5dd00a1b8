-- What is owed to connections and to journals.
use Rattle.std.specs.Prelude.{◌≡◌, ◌⊎◌, ◌<◌, ◌%◌, ℕ, Bool, true, false, List, [], ◌++◌, Option, Some, None, slice_get, length, drop, if◌then◌else◌, ◌==◌}
use Rattle.keep_loop.specs.Texts.{text_at, to}
use Rattle.keep_loop.specs.Turns.{Asked, Gives}
use Rattle.keep_loop.specs.declared.post.ConnectionPlace.{ConnectionPlace}
use Rattle.keep_loop.specs.declared.post.Post.{Post}
use Rattle.keep_loop.specs.declared.post.Stage.{Stage}
use Rattle.keep_loop.specs.declared.post.Stage.TheVariants.{Gone, Hears, Quits, Left}

abbrev pub stage_in : ℕ → Option ConnectionPlace → Stage
stage_in c None = Gone
stage_in c (Some place) = if place.who == c then place.stage else Gone

abbrev pub stage_at : Option ConnectionPlace → Stage
stage_at None = Gone
stage_at (Some place) = place.stage

abbrev pub owed_in : Option ConnectionPlace → List ℕ
owed_in None = []
owed_in (Some place) = place.owed.items

-- the same, where the one at the place is now so far
abbrev pub staged : ℕ → Stage → Option ConnectionPlace → Stage
staged c stage None = Gone
staged c stage (Some place) = if place.who == c then stage else Gone

-- the place of a connection of this number
abbrev pub place_at : List ConnectionPlace → ℕ → Option ConnectionPlace
place_at places c = slice_get places (c % length places)

-- how far a connection is
abbrev pub stage_of : List ConnectionPlace → ℕ → Stage
stage_of places c = stage_in c (place_at places c)

abbrev pub is_here_in : Stage → Bool
is_here_in Gone = false
is_here_in Hears = true
is_here_in Quits = true
is_here_in Left = true

abbrev pub hears_in : Stage → Bool
hears_in Gone = false
hears_in Hears = true
hears_in Quits = false
hears_in Left = false

-- a connection has come, and is not closed
abbrev pub is_here : List ConnectionPlace → ℕ → Bool
is_here places c = is_here_in (stage_of places c)

-- its lines are heard
abbrev pub hears : List ConnectionPlace → ℕ → Bool
hears places c = hears_in (stage_of places c)

-- what is owed to a connection that is there
abbrev pub owed_to : List ConnectionPlace → ℕ → List ℕ
owed_to places c = owed_in (place_at places c)

-- to each connection that is there is owed what is said to it, to each journal what is added to it, and nothing else
-- changes but that some may be heard no more
pub record Tells (old new : Post) (said added : List (ℕ × List ℕ)) : Type 0 where
  pub places : length new.places.items ≡ length old.places.items
  pub journals : length new.lines.items ≡ length old.lines.items
  pub here : (c : ℕ) → is_here new.places.items c ≡ is_here old.places.items c
  pub hears : (c : ℕ) → hears new.places.items c ≡ true → hears old.places.items c ≡ true
  pub owed : (c : ℕ) → is_here old.places.items c ≡ true → owed_to new.places.items c ≡ owed_to old.places.items c ++ to c said
  pub lines : (j : ℕ) → j < length old.lines.items → text_at new.lines.items j ≡ text_at old.lines.items j ++ to j added

-- a connection comes, to which nothing is owed. Another may lose its place, and nothing else changes
pub record Opens (old new : Post) (who : ℕ) : Type 0 where
  pub places : length new.places.items ≡ length old.places.items
  pub lines : new.lines ≡ old.lines
  pub here : (c : ℕ) → is_here new.places.items c ≡ true → (who ≡ c) ⊎ (is_here old.places.items c ≡ true)
  pub hears : (c : ℕ) → hears new.places.items c ≡ true
      → (who ≡ c) ⊎ ((hears old.places.items c ≡ true) × (((who % length old.places.items) == (c % length old.places.items)) ≡ false))
  pub owed : owed_to new.places.items who ≡ []
  pub others : (c : ℕ) → is_here new.places.items c ≡ true → (who ≡ c) ⊎ (owed_to new.places.items c ≡ owed_to old.places.items c)

-- some connections are there no more, and nothing else changes
pub record Closes (old new : Post) : Type 0 where
  pub places : length new.places.items ≡ length old.places.items
  pub lines : new.lines ≡ old.lines
  pub here : (c : ℕ) → is_here new.places.items c ≡ true → is_here old.places.items c ≡ true
  pub hears : (c : ℕ) → hears new.places.items c ≡ true → hears old.places.items c ≡ true
  pub owed : (c : ℕ) → owed_to new.places.items c ≡ owed_to old.places.items c

-- a connection is owed its first bytes no more, and nothing else changes
pub record Writes (old new : Post) (who n : ℕ) : Type 0 where
  pub places : length new.places.items ≡ length old.places.items
  pub lines : new.lines ≡ old.lines
  pub stages : (c : ℕ) → stage_of new.places.items c ≡ stage_of old.places.items c
  pub owed : (c : ℕ) → is_here old.places.items c ≡ true
      → owed_to new.places.items c ≡ (if who == c then drop n (owed_to old.places.items c) else owed_to old.places.items c)

-- what is asked of an object is done, and told
pub record Does {S : Type 0} (gives : Gives S) (old : S) (asked : Asked) (new : S) (before after : Post) : Type 0 where
  pub said : List (ℕ × List ℕ)
  pub added : List (ℕ × List ℕ)
  pub step : gives old asked said added new
  pub tells : Tells before after said added

-- What a turn adds to the journals of objects.
use Rattle.std.specs.Prelude.{◌≡◌, ℕ, List, ◌++◌, length, slice_get, slice_set, Some}
use Rattle.live_core.specs.Fronts.{IsNextFront}
use Rattle.live_core.specs.Scene.{Scene}
use Rattle.live_core.specs.HostedSteps.{Steps, BeginsBy}
use Rattle.keep_loop.specs.Texts.{to}
use Rattle.client_core.specs.Custody.{held_lines_in}
use Rattle.client_core.specs.State.{State}

-- each object goes by such steps, and the lines that are added to its journal are those of them
pub record Moves (old : List Scene) (added : List (ℕ × List ℕ)) (new : List Scene) : Type 0 where
  pub count : length new ≡ length old
  pub steps : (j : ℕ) (h k : Scene) → slice_get old j ≡ Some h → slice_get new j ≡ Some k → Steps h (to j added) k

-- a text is a front that stands for the next epoch of the object at this place
pub record IsFrontAt (objects : List Scene) (journal : ℕ) (front : List ℕ) : Type 0 where
  pub object : Scene
  pub there : slice_get objects journal ≡ Some object
  pub stands : IsNextFront object front

-- one object begins an epoch more by a front, and the others stay as they are
pub record Begins (old : List Scene) (journal : ℕ) (front : List ℕ) (new : List Scene) : Type 0 where
  pub before : Scene
  pub after : Scene
  pub there : slice_get old journal ≡ Some before
  pub begun : BeginsBy before front after
  pub left : new ≡ slice_set old journal after

-- the lines of what is held of the object at a place
abbrev pub held_lines_at : State → ℕ → List ℕ
held_lines_at s journal = held_lines_in s.custody journal (slice_get s.objects journal)

-- A text stands for the next epoch of the object at a place: a front, and behind that the lines of what is held.
pub record FrontsHeld (s : State) (journal : ℕ) (text : List ℕ) : Type 0 where
  pub front : List ℕ
  pub told : text ≡ front ++ held_lines_at s journal
  pub stands : IsFrontAt s.objects journal front

-- one object begins an epoch more by such a text, and what is held stays
pub record BeginsHeld (old : State) (journal : ℕ) (text : List ℕ) (new : State) : Type 0 where
  pub fronts : FrontsHeld old journal text
  pub begins : Begins old.objects journal fronts.front new.objects
  pub peers : new.peers ≡ old.peers
  pub custody : new.custody ≡ old.custody

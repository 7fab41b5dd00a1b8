-- Separation does not depend on which operation is named first.
use Rattle.std.proofs.Common.{◌≡◌, ℕ, ◌⊎◌, inl, inr, Bool, true}
use Rattle.path_tree.specs.Path.{Path, Paths, name, list, sequence, bound, burst, two, more}
use Rattle.path_tree.specs.Names.{names, some_names}
use Rattle.decl_core.specs.ObjectForm.{ObjectForm}
use Rattle.decl_core.specs.Separates.{StandApart, MeetOpenly, SomeMeetOpenly, Separates}
use Rattle.decl_core.specs.Exclusive.{SeparatedBy, AreSeparated}

apart_swapped : (f g : ℕ → Bool) (a b : ℕ) → StandApart f g a b → StandApart f g b a
apart_swapped f g a b (inl one) = inr one
apart_swapped f g a b (inr other) = inl other

mutual
  pub open_swapped : (e : Path) (a b : ℕ) → MeetOpenly e a b → MeetOpenly e b a
  open_swapped (name op) a b h = (h.1, h.0)
  open_swapped (list ms) a b h = some_open_swapped ms a b h
  open_swapped (sequence ms) a b h = some_open_swapped ms a b h
  open_swapped (bound n e) a b h = open_swapped e a b h
  open_swapped (burst e) a b h = h

  some_open_swapped : (ms : Paths) (a b : ℕ) → SomeMeetOpenly ms a b → SomeMeetOpenly ms b a
  some_open_swapped (two x y) a b (inl here) = inl (open_swapped x a b here)
  some_open_swapped (two x y) a b (inr (inl there)) = inr (inl (open_swapped y a b there))
  some_open_swapped (two x y) a b (inr (inr apart)) = inr (inr (apart_swapped (names x) (names y) a b apart))
  some_open_swapped (more x rest) a b (inl here) = inl (open_swapped x a b here)
  some_open_swapped (more x rest) a b (inr (inl there)) = inr (inl (some_open_swapped rest a b there))
  some_open_swapped (more x rest) a b (inr (inr apart)) = inr (inr (apart_swapped (names x) (some_names rest) a b apart))

pub separates_swapped : (e : Path) (k a b : ℕ) → Separates e k a b → Separates e k b a
separates_swapped e k a b h = (h.0, h.1, open_swapped h.0 a b h.2)

pub separated_by_swapped : (o : ObjectForm) (path node i j : ℕ) → SeparatedBy o path node i j → SeparatedBy o path node j i
separated_by_swapped o path node i j h = (h.0, h.1, h.2, h.3, separates_swapped h.1 node i j h.4)

pub are_separated_swapped : (o : ObjectForm) (i j : ℕ) → AreSeparated o i j → AreSeparated o j i
are_separated_swapped o i j h = (h.0, h.1, separated_by_swapped o h.0 h.1 i j h.2)

-- The names that were seen, from left to right.
use Rattle.std.proofs.Common.{◌≡◌, ℕ, List, [], ◌∷◌, ◌++◌, false, refl}
use Rattle.path_tree.specs.Path.{Path, Paths, name, list, sequence, bound, burst, two, more}
use Rattle.path_tree.specs.Parts.{SomePaths, one, several, put, as_list, as_sequence}
use Rattle.path_tree.specs.Reading.{was_seen}

-- what was seen when a path has been read
abbrev mutual
  pub seen_after : Path → List ℕ → List ℕ
  seen_after (name o) seen = seen ++ o ∷ []
  seen_after (list ms) seen = seen_after_all ms seen
  seen_after (sequence ms) seen = seen_after_all ms seen
  seen_after (bound n e) seen = seen_after e seen
  seen_after (burst e) seen = seen_after e seen

  pub seen_after_all : Paths → List ℕ → List ℕ
  seen_after_all (two a b) seen = seen_after b (seen_after a seen)
  seen_after_all (more a rest) seen = seen_after_all rest (seen_after a seen)

-- no name was seen before it is read
abbrev mutual
  pub IsNew : Path → List ℕ → Type 0
  IsNew (name o) seen = was_seen seen o ≡ false
  IsNew (list ms) seen = AllNew ms seen
  IsNew (sequence ms) seen = AllNew ms seen
  IsNew (bound n e) seen = IsNew e seen
  IsNew (burst e) seen = IsNew e seen

  pub AllNew : Paths → List ℕ → Type 0
  AllNew (two a b) seen = IsNew a seen × IsNew b (seen_after a seen)
  AllNew (more a rest) seen = IsNew a seen × AllNew rest (seen_after a seen)

abbrev pub seen_after_parts : SomePaths → List ℕ → List ℕ
seen_after_parts (one e) seen = seen_after e seen
seen_after_parts (several ms) seen = seen_after_all ms seen

abbrev pub PartsNew : SomePaths → List ℕ → Type 0
PartsNew (one e) seen = IsNew e seen
PartsNew (several ms) seen = AllNew ms seen

pub put_new : (a : Path) (p : SomePaths) (seen : List ℕ) → AllNew (put a p) seen → IsNew a seen × PartsNew p (seen_after a seen)
put_new a (one b) seen h = h
put_new a (several ms) seen h = h

pub new_put : (a : Path) (p : SomePaths) (seen : List ℕ) → IsNew a seen → PartsNew p (seen_after a seen) → AllNew (put a p) seen
new_put a (one b) seen h k = (h, k)
new_put a (several ms) seen h k = (h, k)

pub put_seen : (a : Path) (p : SomePaths) (seen : List ℕ) → seen_after_all (put a p) seen ≡ seen_after_parts p (seen_after a seen)
put_seen a (one b) seen = refl
put_seen a (several ms) seen = refl

pub list_new : (p : SomePaths) (seen : List ℕ) → IsNew (as_list p) seen → PartsNew p seen
list_new (one e) seen h = h
list_new (several ms) seen h = h

pub new_list : (p : SomePaths) (seen : List ℕ) → PartsNew p seen → IsNew (as_list p) seen
new_list (one e) seen h = h
new_list (several ms) seen h = h

pub list_seen : (p : SomePaths) (seen : List ℕ) → seen_after (as_list p) seen ≡ seen_after_parts p seen
list_seen (one e) seen = refl
list_seen (several ms) seen = refl

pub sequence_new : (p : SomePaths) (seen : List ℕ) → IsNew (as_sequence p) seen → PartsNew p seen
sequence_new (one e) seen h = h
sequence_new (several ms) seen h = h

pub new_sequence : (p : SomePaths) (seen : List ℕ) → PartsNew p seen → IsNew (as_sequence p) seen
new_sequence (one e) seen h = h
new_sequence (several ms) seen h = h

pub sequence_seen : (p : SomePaths) (seen : List ℕ) → seen_after (as_sequence p) seen ≡ seen_after_parts p seen
sequence_seen (one e) seen = refl
sequence_seen (several ms) seen = refl

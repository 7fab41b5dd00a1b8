-- The members that a list or a sequence of the grammar has: one or more.
use Rattle.path_tree.specs.declared.parts.Parts.{Parts}
use Rattle.path_tree.specs.declared.parts.Parts.TheVariants as members
use Rattle.path_tree.specs.Path.{Path, Paths, list, sequence, two, more, path_of, paths_of}

pub data SomePaths : Type 0 where
  one : Path → SomePaths
  several : Paths → SomePaths

abbrev pub parts_of : Parts → SomePaths
parts_of (members.One e) = one (path_of e)
parts_of (members.Several ms) = several (paths_of ms)

-- a member more, at the front
abbrev pub put : Path → SomePaths → Paths
put a (one b) = two a b
put a (several ms) = more a ms

-- a list of one member is that member
abbrev pub as_list : SomePaths → Path
as_list (one e) = e
as_list (several ms) = list ms

-- a sequence of one member is that member
abbrev pub as_sequence : SomePaths → Path
as_sequence (one e) = e
as_sequence (several ms) = sequence ms

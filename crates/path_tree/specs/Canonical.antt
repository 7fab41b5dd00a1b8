-- The canonical text of a path.
use Rattle.std.specs.Prelude.{◌≡◌, ℕ, ◌<◌, List, [], ◌∷◌, ◌++◌, length, codes, decimal, slice_index_or}
use Rattle.path_tree.specs.declared.token.Symbol.TheVariants.{Path as PathWord, End}
use Rattle.path_tree.specs.Lexeme.{Lexeme, symbol}
use Rattle.path_tree.specs.Path.{Path, Paths, name, list, sequence, bound, burst, two, more}
use Rattle.path_tree.specs.Grammar.{ListText, last_seq, seq_and, SeqText, last_item, item_and, ItemText, operation}
use Rattle.path_tree.specs.Grammar.{limited, in_burst, in_group, Limit, a_number, a_constant, list_lexemes}

-- the name of the operation of this number
abbrev pub name_of : List (List ℕ) → ℕ → List ℕ
name_of names op = slice_index_or names op []

-- the text of a path that has parentheses only where the tree needs them
abbrev mutual
  pub list_text : List (List ℕ) → Path → ListText
  list_text names (name op) = last_seq (last_item (operation (name_of names op)))
  list_text names (list ms) = list_texts names ms
  list_text names (sequence ms) = last_seq (seq_texts names ms)
  list_text names (bound n e) = last_seq (last_item (limited (a_number n) (list_text names e)))
  list_text names (burst e) = last_seq (last_item (in_burst (list_text names e)))

  -- a member of a list
  pub seq_text : List (List ℕ) → Path → SeqText
  seq_text names (name op) = last_item (operation (name_of names op))
  seq_text names (list ms) = last_item (in_group (list_texts names ms))
  seq_text names (sequence ms) = seq_texts names ms
  seq_text names (bound n e) = last_item (limited (a_number n) (list_text names e))
  seq_text names (burst e) = last_item (in_burst (list_text names e))

  -- a member of a sequence
  pub item_text : List (List ℕ) → Path → ItemText
  item_text names (name op) = operation (name_of names op)
  item_text names (list ms) = in_group (list_texts names ms)
  item_text names (sequence ms) = in_group (last_seq (seq_texts names ms))
  item_text names (bound n e) = limited (a_number n) (list_text names e)
  item_text names (burst e) = in_burst (list_text names e)

  pub list_texts : List (List ℕ) → Paths → ListText
  list_texts names (two a b) = seq_and (seq_text names a) (last_seq (seq_text names b))
  list_texts names (more a rest) = seq_and (seq_text names a) (list_texts names rest)

  pub seq_texts : List (List ℕ) → Paths → SeqText
  seq_texts names (two a b) = item_and (item_text names a) (last_item (item_text names b))
  seq_texts names (more a rest) = item_and (item_text names a) (seq_texts names rest)

-- how a limit is written: a number in decimal digits
abbrev pub limit_bytes : Limit → List ℕ
limit_bytes (a_number n) = decimal n
limit_bytes (a_constant bytes) = bytes

-- how a text is written: a comma or a semicolon has one space behind it, and no other space stands anywhere
abbrev mutual
  pub list_bytes : ListText → List ℕ
  list_bytes (last_seq s) = seq_bytes s
  list_bytes (seq_and s l) = seq_bytes s ++ codes ", " ++ list_bytes l

  pub seq_bytes : SeqText → List ℕ
  seq_bytes (last_item i) = item_bytes i
  seq_bytes (item_and i s) = item_bytes i ++ codes "; " ++ seq_bytes s

  pub item_bytes : ItemText → List ℕ
  item_bytes (operation bytes) = bytes
  item_bytes (limited n l) = limit_bytes n ++ codes ":(" ++ list_bytes l ++ codes ")"
  item_bytes (in_burst l) = codes "[" ++ list_bytes l ++ codes "]"
  item_bytes (in_group l) = codes "(" ++ list_bytes l ++ codes ")"

-- the canonical text of a path, as lexemes and as bytes
abbrev pub canonical_lexemes : List (List ℕ) → Path → List Lexeme
canonical_lexemes names e = symbol PathWord ∷ (list_lexemes (list_text names e) ++ symbol End ∷ [])

abbrev pub canonical_bytes : List (List ℕ) → Path → List ℕ
canonical_bytes names e = codes "path " ++ list_bytes (list_text names e) ++ codes " end"

-- no two operations have one name
abbrev pub AreDistinct : List (List ℕ) → Type 0
AreDistinct names = (j k : ℕ) → j < length names → k < length names → name_of names j ≡ name_of names k → j ≡ k

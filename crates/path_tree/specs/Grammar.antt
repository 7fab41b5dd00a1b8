-- What a path is, by the productions of its grammar.
use Rattle.std.specs.Prelude.{◌≡◌, ℕ, ◌-◌, ◌<◌, ◌≤◌, List, [], ◌∷◌, ◌++◌, Option, Some, drop, length, unwrap_or}
use Rattle.path_tree.specs.declared.token.Symbol.TheVariants.{Comma, Semicolon, Colon, OpenParen, CloseParen}
use Rattle.path_tree.specs.declared.token.Symbol.TheVariants.{OpenBracket, CloseBracket, Path as PathWord, End}
use Rattle.path_tree.specs.Path.{Path, name, bound, burst}
use Rattle.path_tree.specs.Names.{NamesOnce}
use Rattle.path_tree.specs.Limits.{node_count}
use Rattle.path_tree.specs.Parts.{SomePaths, one, several, put, as_list, as_sequence}
use Rattle.path_tree.specs.Lexeme.{Lexeme, symbol, number, identifier}
use Rattle.path_tree.specs.Known.{Known, place_of, value_of}

-- bound = number | name of a constant
pub data Limit : Type 0 where
  a_number : ℕ → Limit
  a_constant : List ℕ → Limit

mutual
  -- list = seq { "," seq }
  pub data ListText : Type 0 where
    last_seq : SeqText → ListText
    seq_and : SeqText → ListText → ListText

  -- seq = item { ";" item }
  pub data SeqText : Type 0 where
    last_item : ItemText → SeqText
    item_and : ItemText → SeqText → SeqText

  -- item = name | bound ":" "(" list ")" | "[" list "]" | "(" list ")"
  pub data ItemText : Type 0 where
    operation : List ℕ → ItemText
    limited : Limit → ListText → ItemText
    in_burst : ListText → ItemText
    in_group : ListText → ItemText

abbrev pub limit_lexeme : Limit → Lexeme
limit_lexeme (a_number n) = number n
limit_lexeme (a_constant bytes) = identifier bytes

-- the lexemes of a text
abbrev mutual
  pub list_lexemes : ListText → List Lexeme
  list_lexemes (last_seq s) = seq_lexemes s
  list_lexemes (seq_and s l) = seq_lexemes s ++ symbol Comma ∷ list_lexemes l

  pub seq_lexemes : SeqText → List Lexeme
  seq_lexemes (last_item i) = item_lexemes i
  seq_lexemes (item_and i s) = item_lexemes i ++ symbol Semicolon ∷ seq_lexemes s

  pub item_lexemes : ItemText → List Lexeme
  item_lexemes (operation bytes) = identifier bytes ∷ []
  item_lexemes (limited n l) =
      limit_lexeme n ∷ symbol Colon ∷ symbol OpenParen ∷ (list_lexemes l ++ symbol CloseParen ∷ [])
  item_lexemes (in_burst l) = symbol OpenBracket ∷ (list_lexemes l ++ symbol CloseBracket ∷ [])
  item_lexemes (in_group l) = symbol OpenParen ∷ (list_lexemes l ++ symbol CloseParen ∷ [])

-- the value of a limit; a name that is no constant has none
abbrev pub limit_value : Known → Limit → Option ℕ
limit_value known (a_number n) = Some n
limit_value known (a_constant bytes) = value_of known.constants bytes

-- the tree of a text
abbrev mutual
  pub list_parts : Known → ListText → SomePaths
  list_parts known (last_seq s) = one (as_sequence (seq_parts known s))
  list_parts known (seq_and s l) = several (put (as_sequence (seq_parts known s)) (list_parts known l))

  pub seq_parts : Known → SeqText → SomePaths
  seq_parts known (last_item i) = one (item_tree known i)
  seq_parts known (item_and i s) = several (put (item_tree known i) (seq_parts known s))

  pub item_tree : Known → ItemText → Path
  item_tree known (operation bytes) = name (unwrap_or (place_of known.operations bytes) 0)
  item_tree known (limited n l) = bound (unwrap_or (limit_value known n) 0) (as_list (list_parts known l))
  item_tree known (in_burst l) = burst (as_list (list_parts known l))
  item_tree known (in_group l) = as_list (list_parts known l)

abbrev pub list_tree : Known → ListText → Path
list_tree known l = as_list (list_parts known l)

-- a limit that is allowed
abbrev pub IsLimit : Known → Limit → Type 0
IsLimit known n = (value : ℕ) × (limit_value known n ≡ Some value) × (1 ≤ value) × (value ≤ 65535)

-- names are known, limits are allowed, and no more than so many levels are nested
abbrev mutual
  pub ListFits : Known → ListText → ℕ → Type 0
  ListFits known (last_seq s) depth = SeqFits known s depth
  ListFits known (seq_and s l) depth = SeqFits known s depth × ListFits known l depth

  pub SeqFits : Known → SeqText → ℕ → Type 0
  SeqFits known (last_item i) depth = ItemFits known i depth
  SeqFits known (item_and i s) depth = ItemFits known i depth × SeqFits known s depth

  pub ItemFits : Known → ItemText → ℕ → Type 0
  ItemFits known (operation bytes) depth = (op : ℕ) × (place_of known.operations bytes ≡ Some op)
  ItemFits known (limited n l) depth = IsLimit known n × (0 < depth) × ListFits known l (depth - 1)
  ItemFits known (in_burst l) depth = (0 < depth) × ListFits known l (depth - 1)
  ItemFits known (in_group l) depth = (0 < depth) × ListFits known l (depth - 1)

-- a path of the grammar stands from one place to the other, and this is its tree
pub record IsPathAt (known : Known) (ws : List Lexeme) (from : ℕ) (tree : Path) (to : ℕ) : Type 0 where
  pub text : ListText
  pub stands : drop from ws ≡ symbol PathWord ∷ (list_lexemes text ++ symbol End ∷ drop to ws)
  pub within : to ≤ length ws
  pub fits : ListFits known text 32
  pub is : tree ≡ list_tree known text
  pub once : NamesOnce tree
  pub few : node_count tree ≤ 256

-- The answer to `list`.
use Rattle.std.specs.Prelude.{ℕ, ◌+◌, List, [], ◌∷◌, ◌++◌, Option, Some, None, map, flat_map, length, codes, decimal}
use Rattle.value_core.specs.declared.kind.Elem.{Elem}
use Rattle.value_core.specs.declared.kind.Elem.TheVariants as elem
use Rattle.decl_core.specs.ObjectForm.{OperationForm, ObjectForm}
use Rattle.word_core.specs.Words.{Word, bare, line_of}

abbrev pub sort_word : Elem → List ℕ
sort_word elem.Integer = codes "integer"
sort_word elem.Text = codes "text"

-- `NAME:KIND`
abbrev pub typed_word : List ℕ → Elem → Word
typed_word name sort = bare (name ++ codes ":" ++ sort_word sort)

-- `list L`
abbrev pub list_line : ℕ → List ℕ
list_line lines = line_of (bare (codes "list") ∷ bare (decimal lines) ∷ [])

-- `object NAME`
abbrev pub object_line : List ℕ → List ℕ
object_line name = line_of (bare (codes "object") ∷ bare name ∷ [])

-- `procedure OP`, or `function OP:KIND` with the kind of its reply
abbrev pub head_words : List ℕ → Option Elem → List Word
head_words name None = bare (codes "procedure") ∷ bare name ∷ []
head_words name (Some sort) = bare (codes "function") ∷ typed_word name sort ∷ []

abbrev pub front_words : OperationForm → List Word
front_words o = head_words o.name o.result

-- `.. NAME:KIND ..`
abbrev pub operation_line : OperationForm → List ℕ
operation_line o = line_of (front_words o ++ map (λ p. typed_word p.0 p.1) o.params)

abbrev pub operations_text : ObjectForm → List ℕ
operations_text o = flat_map operation_line o.operations

-- how many there are, and their lines
abbrev pub open_count : Option ObjectForm → ℕ
open_count None = 0
open_count (Some o) = length o.operations

abbrev pub open_text : Option ObjectForm → List ℕ
open_text None = []
open_text (Some o) = operations_text o

-- The whole of it: the names of all objects, and the operations of the one that is open, if one is.
abbrev pub list_text : List (List ℕ) → Option ObjectForm → List ℕ
list_text names opened =
    list_line (length names + open_count opened) ++ flat_map object_line names ++ open_text opened

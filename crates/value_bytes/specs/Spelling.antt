-- The bytes of a value.
use Rattle.std.specs.Prelude.{◌≡◌, ◌≤◌, ℕ, List, ◌∷◌, ◌++◌, length, All, Option, Some, None}
use Rattle.std.specs.declared.cmp.Ordering.TheVariants.{Less}
use Rattle.std.specs.List.{flat_map}
use Rattle.std.specs.Int.{w16, w32, to_be_bytes}
use Rattle.std.specs.FinMap as map
use Rattle.value_core.specs.declared.datum.Datum.{Datum}
use Rattle.value_core.specs.declared.datum.Datum.TheVariants as datum
use Rattle.value_core.specs.declared.kind.Elem.{Elem}
use Rattle.value_core.specs.declared.kind.Elem.TheVariants as elem
use Rattle.value_core.specs.declared.kind.Kind.{Kind}
use Rattle.value_core.specs.declared.kind.Kind.TheVariants as kind
use Rattle.value_core.specs.declared.format.Format.{Format}
use Rattle.value_core.specs.declared.format.Format.TheVariants.{Second}
use Rattle.value_core.specs.Limits.{most_elements}
use Rattle.value_bytes.specs.Format.{number_of, spelled_length}
use Rattle.value_core.specs.Contents.{Contents, array, queue, table, kind_of, IsContentsIn, IsRowIn}
use Rattle.value_core.specs.Datum.{IsElementIn}
use Rattle.value_core.specs.TextOrder.{text_cmp}

-- a text is its length, and its bytes
abbrev pub spelled_text_in : Format → List ℕ → List ℕ
spelled_text_in f t = spelled_length f (length t) ++ t

-- an integer is four bytes, the highest first
abbrev pub spelled_datum_in : Format → Datum → List ℕ
spelled_datum_in f (datum.Integer n) = to_be_bytes w32 n
spelled_datum_in f (datum.Text t) = spelled_text_in f t

-- an element of a table is its key, and what stands under it
abbrev pub spelled_row_in : Format → List ℕ × Datum → List ℕ
spelled_row_in f row = spelled_text_in f row.0 ++ spelled_datum_in f row.1

-- the byte of a kind
abbrev pub code_of : Kind → ℕ
code_of (kind.Array n elem.Integer) = 1
code_of (kind.Array n elem.Text) = 2
code_of (kind.Queue elem.Integer) = 3
code_of (kind.Queue elem.Text) = 4
code_of (kind.Table elem.Integer) = 5
code_of (kind.Table elem.Text) = 6

-- the format, the kind, and the number of elements in two bytes, the highest first
abbrev pub header_in : Format → Kind → ℕ → List ℕ
header_in f k count = number_of f ∷ code_of k ∷ to_be_bytes w16 count

-- the numbers of elements that a value of this kind can have
abbrev pub IsCountOf : Kind → ℕ → Type 0
IsCountOf (kind.Array n e) count = (count ≡ n) × (count ≤ most_elements)
IsCountOf (kind.Queue e) count = count ≤ most_elements
IsCountOf (kind.Table e) count = count ≤ most_elements

-- at the front of these bytes stands the header of a value of this kind
abbrev pub BeginsAsIn : Format → Kind → List ℕ → Type 0
BeginsAsIn f k bytes = (count : ℕ) × (rest : List ℕ) × IsCountOf k count × (bytes ≡ header_in f k count ++ rest)

-- the bytes of a value in a format: the header, and its elements, a table's in the order of their keys
abbrev pub spelling_in : Format → Contents → List ℕ
spelling_in f (array e xs) = header_in f (kind.Array (length xs) e) (length xs) ++ flat_map (spelled_datum_in f) xs
spelling_in f (queue e xs) = header_in f (kind.Queue e) (length xs) ++ flat_map (spelled_datum_in f) xs
spelling_in f (table e m) = header_in f (kind.Table e) (map.len m) ++ flat_map (spelled_row_in f) (map.entries m)

-- these bytes are so many elements of one sort, one after another
pub record SpellElements (f : Format) (bytes : List ℕ) (e : Elem) (count : ℕ) (xs : List Datum) : Type 0 where
  pub each : All (IsElementIn f e) xs
  pub many : length xs ≡ count
  pub spelled : bytes ≡ flat_map (spelled_datum_in f) xs

-- a key comes after the one before it, if there is one
abbrev pub IsAfter : Option (List ℕ) → List ℕ → Type 0
IsAfter None key = Unit {0}
IsAfter (Some last) key = text_cmp last key ≡ Less

-- these bytes are so many rows of a table, keys rising
pub record SpellRows (f : Format) (bytes : List ℕ) (e : Elem) (count : ℕ) (m : map.FinMap text_cmp Datum) : Type 0 where
  pub each : All (IsRowIn f e) (map.entries m)
  pub many : map.len m ≡ count
  pub spelled : bytes ≡ flat_map (spelled_row_in f) (map.entries m)

-- these bytes are the spelling of this value in a format, in this kind
pub record SpellsIn (f : Format) (bytes : List ℕ) (k : Kind) (value : Contents) : Type 0 where
  pub kind : kind_of value ≡ k
  pub contents : IsContentsIn f value
  pub spelled : bytes ≡ spelling_in f value

-- the spelling in the second format, which is written: of a text,
abbrev pub spelled_text : List ℕ → List ℕ
spelled_text = spelled_text_in Second

-- an integer or a text,
abbrev pub spelled_datum : Datum → List ℕ
spelled_datum = spelled_datum_in Second

-- an element of a table,
abbrev pub spelled_row : List ℕ × Datum → List ℕ
spelled_row = spelled_row_in Second

-- the header,
abbrev pub header : Kind → ℕ → List ℕ
header = header_in Second

-- whether it stands at the front,
abbrev pub BeginsAs : Kind → List ℕ → Type 0
BeginsAs = BeginsAsIn Second

-- the bytes of a value,
abbrev pub spelling : Contents → List ℕ
spelling = spelling_in Second

-- and whether these bytes are its spelling, in this kind
abbrev pub Spells : List ℕ → Kind → Contents → Type 0
Spells = SpellsIn Second

-- these bytes are the spelling of this value in one of the formats, in this kind: their first byte tells in which
abbrev pub SpellsInSome : List ℕ → Kind → Contents → Type 0
SpellsInSome bytes k value = (f : Format) × SpellsIn f bytes k value

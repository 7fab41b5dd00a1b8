-- What bytes of the second format tell, read from their front.
use Rattle.std.specs.Prelude.{◌≡◌, ℕ, zero, suc, Bool, true, false, List, [], ◌∷◌, Option, Some, None, take, drop}
use Rattle.std.specs.Int.{w16, w32, from_be_bytes}
use Rattle.std.specs.FinMap as map
use Rattle.value_core.specs.declared.datum.Datum.{Datum}
use Rattle.value_core.specs.declared.datum.Datum.TheVariants as datum
use Rattle.value_core.specs.declared.kind.Elem.{Elem}
use Rattle.value_core.specs.declared.kind.Elem.TheVariants as elem
use Rattle.value_core.specs.declared.kind.Kind.{Kind}
use Rattle.value_core.specs.declared.kind.Kind.TheVariants as kind
use Rattle.value_core.specs.Contents.{Contents, array, queue, table}
use Rattle.value_bytes.specs.Spelling.{Spells}

-- the number in the first two bytes
abbrev pub number_there : List ℕ → ℕ
number_there bytes = from_be_bytes w16 (take 2 bytes)

-- the text there, and what is behind it
abbrev pub text_there : List ℕ → List ℕ
text_there bytes = take (number_there bytes) (drop 2 bytes)

abbrev pub behind_text : List ℕ → List ℕ
behind_text bytes = drop (number_there bytes) (drop 2 bytes)

-- the element of this sort there, and what is behind it
abbrev pub datum_there : Elem → List ℕ → Datum
datum_there elem.Integer bytes = datum.Integer (from_be_bytes w32 (take 4 bytes))
datum_there elem.Text bytes = datum.Text (text_there bytes)

abbrev pub behind_datum : Elem → List ℕ → List ℕ
behind_datum elem.Integer bytes = drop 4 bytes
behind_datum elem.Text bytes = behind_text bytes

-- so many elements
abbrev pub data_there : Elem → ℕ → List ℕ → List Datum
data_there e zero bytes = []
data_there e (suc n) bytes = datum_there e bytes ∷ data_there e n (behind_datum e bytes)

-- so many rows, each a key and what stands under it
abbrev pub rows_there : Elem → ℕ → List ℕ → List (List ℕ × Datum)
rows_there e zero bytes = []
rows_there e (suc n) bytes =
    (text_there bytes, datum_there e (behind_text bytes)) ∷ rows_there e n (behind_datum e (behind_text bytes))

-- the value of this kind, where the bytes spell one
abbrev pub contents_there : Kind → List ℕ → Contents
contents_there (kind.Array n e) bytes = array e (data_there e n (drop 4 bytes))
contents_there (kind.Queue e) bytes = queue e (data_there e (number_there (drop 2 bytes)) (drop 4 bytes))
contents_there (kind.Table e) bytes =
    table e (map.from_sorted (rows_there e (number_there (drop 2 bytes)) (drop 4 bytes)))

-- bytes tell the value that they spell
abbrev pub BytesTell : Type 0
BytesTell = (bytes : List ℕ) (k : Kind) (value : Contents) → Spells bytes k value → contents_there k bytes ≡ value

-- the key of the row before, if there is one
abbrev pub last_key : Bool → List ℕ → Option (List ℕ)
last_key true key = None
last_key false key = Some key

-- A code of contents, by which a proof tells them apart.
use Rattle.std.specs.Prelude.{◌≡◌, ℕ, Bool, true, false, List, ◌⊎◌, refl}
use Rattle.std.proofs.Common.{inl, inr}
use Rattle.std.specs.Coded.{Coded, code_by, coded×, coded⊎, coded_ℕ, coded_list, coded_bool}
use Rattle.std.specs.FinMap as map
use Rattle.value_core.specs.declared.datum.Datum.{Datum}
use Rattle.value_core.specs.declared.datum.Datum.TheVariants as datum
use Rattle.value_core.specs.declared.kind.Elem.{Elem}
use Rattle.value_core.specs.declared.kind.Elem.TheVariants as elem
use Rattle.value_core.specs.TextOrder.{text_cmp}
use Rattle.value_core.specs.Contents.{Contents, array, queue, table}

-- an element's sort as a bit, and back
abbrev pub elem_bit : Elem → Bool
elem_bit elem.Integer = true
elem_bit elem.Text = false

abbrev pub bit_elem : Bool → Elem
bit_elem true = elem.Integer
bit_elem false = elem.Text

pub bit_elem_bit : (e : Elem) → bit_elem (elem_bit e) ≡ e
bit_elem_bit elem.Integer = refl
bit_elem_bit elem.Text = refl

abbrev pub elem_code : Coded Elem
elem_code = code_by Bool coded_bool elem_bit bit_elem bit_elem_bit

-- a datum as a number or a list, and back
abbrev pub datum_parts : Datum → ℕ ⊎ List ℕ
datum_parts (datum.Integer n) = inl n
datum_parts (datum.Text t) = inr t

abbrev pub parts_datum : ℕ ⊎ List ℕ → Datum
parts_datum (inl n) = datum.Integer n
parts_datum (inr t) = datum.Text t

pub parts_datum_parts : (d : Datum) → parts_datum (datum_parts d) ≡ d
parts_datum_parts (datum.Integer n) = refl
parts_datum_parts (datum.Text t) = refl

abbrev pub datum_code : Coded Datum
datum_code = code_by (ℕ ⊎ List ℕ) (coded⊎ coded_ℕ (coded_list coded_ℕ)) datum_parts parts_datum parts_datum_parts

-- contents as one of three pairs, and back
abbrev pub Parts : Type 0
Parts = (Elem × List Datum) ⊎ ((Elem × List Datum) ⊎ (Elem × map.FinMap text_cmp Datum))

abbrev pub contents_parts : Contents → Parts
contents_parts (array e xs) = inl (e, xs)
contents_parts (queue e xs) = inr (inl (e, xs))
contents_parts (table e m) = inr (inr (e, m))

abbrev pub parts_contents : Parts → Contents
parts_contents (inl p) = array p.0 p.1
parts_contents (inr (inl p)) = queue p.0 p.1
parts_contents (inr (inr p)) = table p.0 p.1

pub parts_contents_parts : (c : Contents) → parts_contents (contents_parts c) ≡ c
parts_contents_parts (array e xs) = refl
parts_contents_parts (queue e xs) = refl
parts_contents_parts (table e m) = refl

abbrev pub contents_code : Coded Contents
contents_code =
    code_by Parts (coded⊎ (coded× elem_code (coded_list datum_code))
    (coded⊎ (coded× elem_code (coded_list datum_code)) (coded× elem_code (map.code (coded_list coded_ℕ) datum_code))))
    contents_parts parts_contents parts_contents_parts

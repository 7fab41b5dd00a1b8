-- Bodies that are done, step by step.
use Rattle.std.proofs.Common.{◌≡◌, true, [], ◌∷◌, Some, None, codes, refl}
use Rattle.value_core.specs.declared.datum.Datum.{Datum}
use Rattle.value_core.specs.TextOrder.{text_cmp}
use Rattle.value_core.specs.declared.datum.Datum.TheVariants as datum
use Rattle.value_core.specs.declared.kind.Elem.TheVariants as elem
use Rattle.std.specs.FinMap as map
use Rattle.value_core.specs.Contents.{array, queue, table}
use Rattle.decl_core.specs.Footprint.{reads_of, writes_of}
use Rattle.decl_core.specs.Form.{has, choose, refuse, store, text_from, a_text, argument, element, oldest, integer_from, number, add, an_integer, set_element, set_result, append, take, nothing, first_and, Body}
use Rattle.decl_core.specs.Meaning.{done, refused, apply_body}

-- entry procedure deposit(x : integer); begin append(box, x) end
abbrev deposit : Body
deposit = record { params = elem.Integer ∷ []; result = None; statements = first_and (append 0 (an_integer (integer_from (argument 0)))) nothing }

-- entry function remove : integer; begin remove := first(box); take(box) end
abbrev remove : Body
remove = record { params = []; result = Some elem.Integer; statements = first_and (set_result (an_integer (integer_from (oldest 0)))) (first_and (take 0) nothing) }

-- entry procedure bump(x : integer); begin v[0] := v[0] + x end
abbrev bump : Body
bump = record { params = elem.Integer ∷ []; result = None; statements = first_and (set_element 0 (number 0) (an_integer (add (integer_from (element 0 (number 0))) (integer_from (argument 0))))) nothing }

pub deposited : apply_body deposit (datum.Integer 4 ∷ []) (queue elem.Integer (datum.Integer 3 ∷ []) ∷ []) ≡ (done None, queue elem.Integer (datum.Integer 3 ∷ datum.Integer 4 ∷ []) ∷ [])
deposited = refl

pub removed : apply_body remove [] (queue elem.Integer (datum.Integer 3 ∷ datum.Integer 4 ∷ []) ∷ []) ≡ (done (Some (datum.Integer 3)), queue elem.Integer (datum.Integer 4 ∷ []) ∷ [])
removed = refl

pub none_to_remove : apply_body remove [] (queue elem.Integer [] ∷ []) ≡ (refused (codes "empty"), queue elem.Integer [] ∷ [])
none_to_remove = refl

pub bumped : apply_body bump (datum.Integer 2 ∷ []) (array elem.Integer (datum.Integer 5 ∷ []) ∷ []) ≡ (done None, array elem.Integer (datum.Integer 7 ∷ []) ∷ [])
bumped = refl

pub out_of_range : apply_body bump (datum.Integer 1 ∷ []) (array elem.Integer (datum.Integer 4294967295 ∷ []) ∷ []) ≡ (refused (codes "range"), array elem.Integer (datum.Integer 4294967295 ∷ []) ∷ [])
out_of_range = refl

-- entry procedure write(k, x : text); begin if has(t, k) then refuse('taken') else store(t, k, x) end
abbrev write : Body
write = record { params = elem.Text ∷ elem.Text ∷ []; result = None; statements = first_and (choose (has 0 (text_from (argument 0))) (refuse (codes "taken")) (store 0 (text_from (argument 0)) (a_text (text_from (argument 1))))) nothing }

pub written_twice : (m : map.FinMap text_cmp Datum) → map.contains_key m (codes "b") ≡ true → apply_body write (datum.Text (codes "b") ∷ datum.Text (codes "y") ∷ []) (table elem.Text m ∷ []) ≡ (refused (codes "taken"), table elem.Text m ∷ [])
written_twice m taken = rw taken refl

pub bump_reads_and_writes : (reads_of bump ≡ 1) × (writes_of bump ≡ 1)
bump_reads_and_writes = (refl, refl)

pub size_writes_nothing : writes_of (record { params = []; result = Some elem.Integer; statements = first_and (set_result (an_integer (integer_from (oldest 2)))) nothing }) ≡ 0
size_writes_nothing = refl

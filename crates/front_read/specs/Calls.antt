-- Calls, as words tell them.
use Rattle.std.specs.Prelude.{◌≡◌, ℕ, List, Option, Some, MatchOption, map}
use Rattle.std.specs.Global.{Vec}
use Rattle.path_tree.specs.Known.{place_of}
use Rattle.value_core.specs.declared.datum.Datum.{Datum}
use Rattle.value_core.specs.Datum.{elem_of}
use Rattle.decl_core.specs.ObjectForm.{ObjectForm}
use Rattle.word_core.specs.Events.{body_at}
use Rattle.word_core.specs.Words.{Word}
use Rattle.live_core.specs.Front.{IsOperation, IsCall}
use Rattle.live_core.specs.Text.{call_words}

-- the place of the first operation of a name
abbrev pub operation_in : ObjectForm → List ℕ → Option ℕ
operation_in o name = place_of (map (λ f. f.name) o.operations) name

-- a call: the place of its operation, and its arguments
abbrev pub IsAsked : ObjectForm → ℕ × List Datum → Type 0
IsAsked o asked = IsCall o asked.0 asked.1

abbrev pub asked_words : ObjectForm → ℕ × List Datum → List Word
asked_words o asked = call_words o asked.0 asked.1

abbrev pub asked_of : ℕ × Vec Datum → ℕ × List Datum
asked_of asked = (asked.0, asked.1.items)

-- the operation of a name that takes such arguments
abbrev pub FindsBy : ObjectForm → List ℕ → List Datum → Option ℕ → Type 0
FindsBy o name arguments found = MatchOption found
    ((op : ℕ) → operation_in o name ≡ Some op → map elem_of arguments ≡ (body_at o op).params → ⊥)
    (λ op. (operation_in o name ≡ Some op) × IsOperation o op × (map elem_of arguments ≡ (body_at o op).params))

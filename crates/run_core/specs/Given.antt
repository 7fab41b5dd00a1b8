-- What a body changed: the new bytes of the parts, and what they spell.
use Rattle.std.specs.Prelude.{◌≡◌, ◌≢◌, ℕ, ◌==◌, if◌then◌else◌, List, [], ◌∷◌, Option, Some, None, slice_get}
use Rattle.value_core.specs.Contents.{Contents, kind_of}
use Rattle.value_bytes.specs.Spelling.{Spells}
use Rattle.run_core.specs.declared.judge.Change.{Change}

-- the new bytes of a part, where it has some
abbrev pub bytes_for : List Change → ℕ → Option (List ℕ)
bytes_for [] p = None
bytes_for (change ∷ rest) p = if change.part == p then Some change.bytes else bytes_for rest p

-- a part without new bytes is as it was; another one holds another value, which its new bytes spell
abbrev pub IsChanged : Option Contents → Option Contents → Option (List ℕ) → Type 0
IsChanged before after None = after ≡ before
IsChanged before after (Some bytes) =
    (value : Contents) × (after ≡ Some value) × (before ≢ Some value) × Spells bytes (kind_of value) value

abbrev pub AreChanges : List Change → List Contents → List Contents → Type 0
AreChanges changes before after = (p : ℕ) → IsChanged (slice_get before p) (slice_get after p) (bytes_for changes p)

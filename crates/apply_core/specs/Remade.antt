-- The bytes of a value with a change in it.
use Rattle.std.specs.Prelude.{◌≡◌, ℕ, List, Result, Ok, Err, IsOk}
use Rattle.std.specs.Global.{Vec}
use Rattle.value_core.specs.declared.kind.Kind.{Kind}
use Rattle.value_core.specs.declared.refusal.Refusal.{Refusal}
use Rattle.value_core.specs.declared.refusal.GrowFault.{GrowFault}
use Rattle.value_core.specs.declared.refusal.GrowFault.TheVariants.{Refused, Memory}
use Rattle.value_core.specs.Contents.{Contents}
use Rattle.value_bytes.specs.Spelling.{Spells}

-- these bytes spell what an operation leaves
abbrev pub SpellNew : Kind → List ℕ → Result Contents Refusal → Type 0
SpellNew k bytes meaning = (new : Contents) × (meaning ≡ Ok new) × Spells bytes k new

-- an operation is done, and these bytes spell what it leaves; or it is refused, or, where it would be done, wants memory
abbrev pub Remade : Kind → Result (Vec ℕ) GrowFault → Result Contents Refusal → Type 0
Remade k (Ok bytes) meaning = SpellNew k bytes.items meaning
Remade k (Err (Refused word)) meaning = meaning ≡ Err word
Remade k (Err Memory) meaning = IsOk meaning

-- an operation is done; or it is refused, or, where it would be done, wants memory, and then nothing changes
abbrev pub Turned : Result (Unit {0}) GrowFault → Result Contents Refusal → Contents → Contents → Type 0
Turned (Ok u) meaning old new = meaning ≡ Ok new
Turned (Err (Refused word)) meaning old new = (meaning ≡ Err word) × (new ≡ old)
Turned (Err Memory) meaning old new = IsOk meaning × (new ≡ old)

-- The room that the layouts of the bytes of a value have.
use Rattle.std.specs.Prelude.{ℕ, List}
use Rattle.value_core.specs.Limits.{most_text_bytes}
use Rattle.value_core.specs.Plain.{IsTextUpTo}
use Rattle.value_core.specs.declared.format.Format.{Format}
use Rattle.value_core.specs.declared.format.Format.TheVariants.{First, Second}

-- the most bytes of a text
abbrev pub most_text : Format → ℕ
most_text First = 255
most_text Second = most_text_bytes

-- a text for which a format has room
abbrev pub IsTextIn : Format → List ℕ → Type 0
IsTextIn f = IsTextUpTo (most_text f)

-- What an integer and a text are.
use Rattle.std.specs.Prelude.{◌≡◌, ◌<◌, ◌^◌, []}
use Rattle.value_core.specs.declared.datum.Datum.{Datum}
use Rattle.value_core.specs.declared.datum.Datum.TheVariants as datum
use Rattle.value_core.specs.declared.kind.Elem.{Elem}
use Rattle.value_core.specs.declared.kind.Elem.TheVariants as elem
use Rattle.value_core.specs.declared.format.Format.{Format}
use Rattle.value_core.specs.declared.format.Format.TheVariants.{Second}
use Rattle.value_core.specs.Format.{IsTextIn}

-- whether it is an integer or a text
abbrev pub elem_of : Datum → Elem
elem_of (datum.Integer n) = elem.Integer
elem_of (datum.Text t) = elem.Text

-- the integer 0, or the text without a byte
abbrev pub zero_of : Elem → Datum
zero_of elem.Integer = datum.Integer 0
zero_of elem.Text = datum.Text []

-- what a format has room for: an integer below 2^32, or a text that is short enough
abbrev pub IsDatumIn : Format → Datum → Type 0
IsDatumIn f (datum.Integer n) = n < 2 ^ 32
IsDatumIn f (datum.Text t) = IsTextIn f t

-- an integer is below 2^32, a text has at most 1,000 bytes from 32 to 126
abbrev pub IsDatum : Datum → Type 0
IsDatum = IsDatumIn Second

-- an element of this sort, for which a format has room
pub record IsElementIn (f : Format) (e : Elem) (d : Datum) : Type 0 where
  pub sort : elem_of d ≡ e
  pub datum : IsDatumIn f d

-- an element of this sort
abbrev pub IsElement : Elem → Datum → Type 0
IsElement = IsElementIn Second

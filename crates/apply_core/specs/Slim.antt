-- What stands for data.
use Rattle.value_core.specs.declared.datum.Datum.{Datum}
use Rattle.value_core.specs.declared.datum.Datum.TheVariants.{Integer, Text}
use Rattle.apply_core.specs.declared.slim.Slim.{Slim}
use Rattle.apply_core.specs.declared.slim.Slim.TheVariants as slims

abbrev pub datum_of : Slim → Datum
datum_of (slims.Integer number) = Integer number
datum_of (slims.Text row) = Text row

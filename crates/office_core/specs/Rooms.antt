-- When there is room for a slip.
use Rattle.std.specs.Prelude.{◌≡◌, ◌≤◌, List, vec_capacity}
use Rattle.value_core.specs.Limits.{most_text_bytes}
use Rattle.value_core.specs.declared.datum.Datum.{Datum}
use Rattle.office_core.specs.declared.room.SlipRoom.{SlipRoom}

-- there is memory for the slip of a call with these arguments: they lie there, and there is room for the longest reply
pub record IsMade (args : List Datum) (room : SlipRoom) : Type 0 where
  pub arguments : room.args ≡ args
  pub reply : most_text_bytes ≤ vec_capacity room.reply

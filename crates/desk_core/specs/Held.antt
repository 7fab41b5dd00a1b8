-- What a program holds of a board.
use Rattle.std.specs.Prelude.{All, Some, None}
use Rattle.value_core.specs.Datum.{IsDatum}
use Rattle.decl_core.specs.ObjectMap.{object_of}
use Rattle.apply_core.specs.declared.reply.Reply.{Reply}
use Rattle.apply_core.specs.declared.reply.Reply.TheVariants.{Done, Refused, Failed}
use Rattle.word_core.specs.TraceLaws.{HasNames}
use Rattle.page_core.specs.Lists.{Every}
use Rattle.board_core.specs.Board.{Board}

-- what a function replied is an integer below 2^32, or a text that is short enough
abbrev pub TellsDatum : Reply → Type 0
TellsDatum (Done None) = Unit {0}
TellsDatum (Done (Some datum)) = IsDatum datum
TellsDatum (Refused word) = Unit {0}
TellsDatum (Failed failure) = Unit {0}

-- lines can tell of a board: its object has names, the arguments of its calls are such data, and so is what functions
-- replied
pub record CanBeTold (b : Board) : Type 0 where
  pub names : HasNames (object_of b.object)
  pub arguments : Every (λ c. All IsDatum c.arguments) b.calls
  pub replies : Every (λ e. TellsDatum e.reply) b.history

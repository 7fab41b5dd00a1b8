-- What is told of calls that were made before.
use Rattle.std.specs.Prelude.{◌≡◌, ℕ}
use Rattle.apply_core.specs.declared.reply.Reply.{Reply}
use Rattle.page_core.specs.Lists.{Among}
use Rattle.page_core.specs.ObjectCalls.{Noted}
use Rattle.board_core.specs.Board.{Board}
use Rattle.board_core.specs.Sound.{IsSound}

-- the history of some sound board has an entry of this number, with this reply
abbrev pub WasNoted : ℕ → Reply → Type 0
WasNoted n reply = (b : Board) × IsSound b × ((e : Noted) × Among e b.history × (e.number ≡ n) × (e.reply ≡ reply))

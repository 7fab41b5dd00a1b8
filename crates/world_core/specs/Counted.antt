-- Counters of what happened on a board.
use Rattle.std.specs.Prelude.{ℕ, length, take}
use Rattle.path_count.specs.State.{State}
use Rattle.path_count.specs.Stands.{StandsFor}
use Rattle.board_core.specs.Board.{Board, path_trace, paths_of, past_of}

-- they stand for the first events of its trace
abbrev pub StandsAfter : Board → ℕ → State → Type 0
StandsAfter b place c =
    StandsFor c (length b.object.operations.items) (paths_of b) (path_trace b.calls (take place b.trace))

-- they stand for all of it
abbrev pub HasCounted : Board → State → Type 0
HasCounted b c = StandsFor c (length b.object.operations.items) (paths_of b) (past_of b)

-- Laws of the traces of desks.
use Rattle.std.specs.Prelude.{List, length}
use Rattle.value_core.specs.Contents.{Contents}
use Rattle.decl_core.specs.ObjectMap.{object_of}
use Rattle.apply_core.specs.History.{IsLegal}
use Rattle.word_core.specs.Text.{trace_text}
use Rattle.board_core.specs.Board.{Board}
use Rattle.board_core.specs.Sound.{IsSound}
use Rattle.board_core.specs.Chain.{history_of}
use Rattle.desk_core.specs.Told.{lines_told}
use Rattle.audit_core.specs.Verdicts.{IsLegalTrace}
use Rattle.audit_core.specs.Laws.{AreOpening}
use Rattle.desk_core.specs.Held.{CanBeTold}

-- the text of a desk's trace is a legal trace, where the history of its entries is legal from the opening contents
abbrev pub DeskTextIsLegal : Type 0
DeskTextIsLegal =
    (b : Board) (opening : List Contents) → IsSound b → CanBeTold b →
    AreOpening (object_of b.object) opening → IsLegal (history_of b.history) opening
    → IsLegalTrace (object_of b.object) (trace_text (object_of b.object) opening (lines_told b)) (length b.history)

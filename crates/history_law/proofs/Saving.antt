-- The trace that is saved is legal.
use Rattle.keep_core.specs.Opening.{values_of}
use Rattle.keep_core.proofs.Law.{opening_is_legal}
use Rattle.history_law.proofs.Telling.{desk_text_is_legal}
use Rattle.history_law.specs.SavedLaws.{SavedTraceIsLegal}
use Rattle.history_law.proofs.Showing.{shown_opening}

pub saved_trace_is_legal : SavedTraceIsLegal
saved_trace_is_legal a e parts ended closed hold pinned =
    let is = opening_is_legal a e parts ended closed hold pinned in
    desk_text_is_legal e.board (values_of e.opening) ended.sound ended.held (shown_opening a e.board.object e.board.opening (values_of e.opening) is.0) is.1

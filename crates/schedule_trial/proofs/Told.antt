-- One thing more that was seen.
use Rattle.std.proofs.Common.{◌≡◌, List, [], ◌∷◌, ◌++◌, refl}
use Rattle.keep_loop.specs.Seen.{Happened}
use Rattle.schedule_trial.specs.declared.rows.EventRow.{EventRow}
use Rattle.schedule_trial.specs.Told.{event_of, behind}

pub behind_push : (before : List Happened) (rows : List EventRow) (row : EventRow) →
    behind before (rows ++ row ∷ []) ≡ event_of row.kind row.number row.bytes.items ∷ behind before rows
behind_push before [] row = refl
behind_push before (r ∷ rows) row = behind_push (event_of r.kind r.number r.bytes.items ∷ before) rows row

-- What the rows of a fake say that was seen.
use Rattle.std.specs.Prelude.{ℕ, Option, None, Some, List, [], ◌∷◌}
use Rattle.std.specs.Global.{Vec}
use Rattle.keep_loop.specs.Seen.{Happened}
use Rattle.keep_loop.specs.Seen.Happened.{Came, Ended, Broke, Wrote, Noticed, Added, Stored, Changed}
use Rattle.keep_loop.specs.declared.served.Note.TheVariants.{Joins, Leaves, Ticks, Ends}
use Rattle.schedule_trial.specs.declared.rows.EventKind.{EventKind}
use Rattle.schedule_trial.specs.declared.rows.EventKind.TheVariants as kinds
use Rattle.schedule_trial.specs.declared.rows.EventRow.{EventRow}

-- what happened, of a kind, to the one of a number, with these bytes
abbrev pub event_of : EventKind → ℕ → List ℕ → Happened
event_of kinds.Came number bytes = Came number bytes
event_of kinds.Ended number bytes = Ended number
event_of kinds.Broke number bytes = Broke number
event_of kinds.Wrote number bytes = Wrote number bytes
event_of kinds.Joins number bytes = Noticed (Joins number)
event_of kinds.Leaves number bytes = Noticed (Leaves number)
event_of kinds.Ticks number bytes = Noticed (Ticks number)
event_of kinds.Ends number bytes = Noticed Ends
event_of kinds.Added number bytes = Added number bytes
event_of kinds.Stored number bytes = Stored number
event_of kinds.Changed number bytes = Changed number bytes

-- what happened behind these, the newest first
abbrev pub behind : List Happened → List EventRow → List Happened
behind before [] = before
behind before (row ∷ rows) = behind (event_of row.kind row.number row.bytes.items ∷ before) rows

-- all that was seen, where it is known
abbrev pub seen_of : Option (Vec EventRow) → Option (List Happened)
seen_of None = None
seen_of (Some rows) = Some (behind [] rows.items)

-- Who is gone and holds something, and when a call is due.
use Rattle.std.specs.Prelude.{◌≡◌, ◌==◌, ℕ, zero, suc, ◌+◌, ◌-◌, ◌^◌, Bool, true, false, List, [], ◌∷◌, min, not, if◌then◌else◌}
use Rattle.std.specs.List.{filter}
use Rattle.apply_core.specs.declared.reply.Reply.{Reply}
use Rattle.apply_core.specs.declared.reply.Reply.TheVariants.{Done, Refused, Failed}
use Rattle.client_core.specs.declared.holder.Holder.{Holder}
use Rattle.client_core.specs.declared.holder.WhenDue.{WhenDue}
use Rattle.client_core.specs.declared.holder.WhenDue.TheVariants.{Now, At, Waits}

-- who is gone but for this session
abbrev pub without : ℕ → List Holder → List Holder
without session gone = filter (λ (g : Holder). not (g.session == session)) gone

-- each of these became one, as a relation says, in their order
abbrev pub Each : (Holder → Holder → Type 0) → List Holder → List Holder → Type 0
Each R [] new = new ≡ []
Each R (g ∷ old) new = (h : Holder) × (rest : List Holder) × R g h × Each R old rest × (new ≡ h ∷ rest)

-- seconds are counted up to the greatest number of 64 bits
abbrev pub later : ℕ → ℕ → ℕ
later second by = min (second + by) (2 ^ 64 - 1)

-- When a call is due for a session that goes in this second: at once where its client has no name; else once it was away
-- for so many seconds.
abbrev pub due_from : Bool → ℕ → ℕ → WhenDue
due_from false second away = Now
due_from true second zero = Now
due_from true second (suc more) = At (later (later second (suc more)) 1)

-- a call is due then, where it is this session
abbrev pub due_then : ℕ → WhenDue → Holder → Holder
due_then session when g = if g.session == session then record g { when = when } else g

-- So many seconds behind the first call that was refused the next one is made; behind each further one twice as many, up
-- to a minute.
abbrev pub first_pause : ℕ
first_pause = 1

abbrev pub longer : ℕ → ℕ
longer pause = min (pause + pause) 60

-- a call is due again behind the pause
abbrev pub again : ℕ → Holder → Holder
again second g = record g { when = At (later second g.pause); pause = longer g.pause }

-- A call that was made for a session has ended in this second: where it was done the next one is due now, and pauses begin
-- anew; else it is due again.
abbrev pub ended_with : ℕ → Reply → Holder → Holder
ended_with second (Done d) g = record g { when = Now; pause = first_pause }
ended_with second (Refused word) g = again second g
ended_with second (Failed failure) g = again second g

-- while none is due, none was made
abbrev pub ended_at : WhenDue → ℕ → Reply → Holder → Holder
ended_at Now second reply g = ended_with second reply g
ended_at (At due) second reply g = g
ended_at Waits second reply g = ended_with second reply g

abbrev pub ended_for : ℕ → ℕ → Reply → Holder → Holder
ended_for session second reply g = if g.session == session then ended_at g.when second reply g else g

-- the first pauses of one whose calls are all refused
abbrev pub pauses : ℕ → ℕ → List ℕ
pauses zero pause = []
pauses (suc more) pause = pause ∷ pauses more (longer pause)

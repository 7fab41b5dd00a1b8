-- What a session hears.
use Rattle.std.specs.Prelude.{◌≡◌, ◌⊎◌, ℕ, [], Bool, true, false, Option, Some, None, IsTrue, ◌↔◌, string_bytes}
use Rattle.session_text.specs.Table.{Takes, TakesLast}
use Rattle.session_text.specs.declared.line.LineRefusal.TheVariants.{BadLine}
use Rattle.session_text.specs.declared.session.Action.{Action}
use Rattle.session_text.specs.declared.session.Action.TheVariants as actions
use Rattle.session_text.specs.declared.fault.HearFault.{HearFault}
use Rattle.session_text.specs.declared.fault.HearFault.TheVariants as faults
use Rattle.session_text.specs.declared.reader.NextLine.{NextLine}
use Rattle.session_text.specs.declared.reader.NextLine.TheVariants as nexts
use Rattle.session_text.specs.declared.ear.Heard.{Heard}
use Rattle.session_text.specs.declared.ear.Heard.TheVariants as heards
use Rattle.session_text.specs.HearLines.{Unread, Tells, Brings}
use Rattle.session_text.specs.Hearing.{Hearing}

-- what is done for the line that came next, by whether an object is opened
abbrev pub IsDoneFor : Bool → Option NextLine → Action → Type 0
IsDoneFor is_open None action = ⊥
IsDoneFor is_open (Some (nexts.Line text)) action = Takes is_open (string_bytes text) action
IsDoneFor is_open (Some (nexts.Rest text)) action = TakesLast is_open (string_bytes text) action
IsDoneFor is_open (Some nexts.NoText) action = action ≡ actions.Answer BadLine
IsDoneFor is_open (Some nexts.End) action = ⊥
IsDoneFor is_open (Some nexts.LineTooLong) action = ⊥
IsDoneFor is_open (Some nexts.Memory) action = ⊥

-- what is heard where this came next: the end is told with its cause, and only a want of memory has
-- none that is said here
abbrev pub IsHeardOf : Bool → Option NextLine → Heard → Type 0
IsHeardOf is_open next (heards.Action action) = IsDoneFor is_open next action
IsHeardOf is_open next heards.Nothing = next ≡ None
IsHeardOf is_open next heards.LineTooLong = next ≡ Some nexts.LineTooLong
IsHeardOf is_open next (heards.End None) = next ≡ Some nexts.End
IsHeardOf is_open next (heards.End (Some fault)) = fault ≡ faults.Memory

-- the session is to end, behind its calls
abbrev pub IsQuit : Heard → Type 0
IsQuit (heards.Action action) = action ≡ actions.Quit
IsQuit heards.Nothing = ⊥
IsQuit heards.LineTooLong = ⊥
IsQuit (heards.End fault) = ⊥

-- how the hearing has ended once this was heard, if it has
abbrev pub end_by : Heard → Option (Option HearFault)
end_by (heards.Action action) = None
end_by heards.Nothing = None
end_by heards.LineTooLong = Some (Some faults.LineTooLong)
end_by (heards.End fault) = Some fault

-- what is heard behind `quit`: nothing until the input ends, and then that end
abbrev pub IsHushed : Bool → Heard → Type 0
IsHushed true heard = heard ≡ heards.End None
IsHushed false heard = heard ≡ heards.Nothing

-- What is heard next. Once the hearing has ended it is that end, again and again. Behind `quit` no line is heard. Else
-- it is what the next line asks for, and the bytes of that line go.
abbrev pub Hears : Hearing → Heard → Hearing → Type 0
Hears s heard t =
    ((fault : Option HearFault) × (s.end ≡ Some fault) × (heard ≡ heards.End fault) × (t ≡ s))
    ⊎ ((s.end ≡ None) × (s.quits ≡ true) × IsHushed s.lines.ended heard × (t ≡ record s { end = end_by heard }))
    ⊎ ((s.end ≡ None) × (s.quits ≡ false) × ((next : Option NextLine) × Tells s.lines next t.lines
    × IsHeardOf s.is_open next heard)
    × (t ≡ record s { lines = t.lines; quits = t.quits; end = end_by heard }) × (IsTrue t.quits ↔ IsQuit heard))

-- the end that a read brings, or that there was
abbrev pub end_met : Option (Option HearFault) → Option HearFault → Option (Option HearFault)
end_met end None = end
end_met end (Some fault) = Some (Some fault)

-- behind `quit` what is read is let go
abbrev pub let_go : Bool → Unread → Unread
let_go true lines = record lines { bytes = [] }
let_go false lines = lines

-- one read, and its fault, if it met one
abbrev pub ReadsOnce : Hearing → Hearing → Type 0
ReadsOnce s t =
    (found : Option HearFault) × (lines : Unread) × Brings s.lines found lines
    × (t ≡ record s { lines = let_go s.quits lines; end = end_met s.end found })

-- nothing more is heard, by this fault or none
abbrev pub ended_by : Option HearFault → Hearing → Hearing
ended_by fault s = record s { end = Some fault }

-- an object was opened, at this place and for this session
abbrev pub opened_at : ℕ × ℕ → Hearing → Hearing
opened_at at s = record s { is_open = true; opened = Some at }

-- a change of what is heard where the first thread has the reading side, and nothing where it has not
abbrev pub each : (Hearing → Hearing) → Option Hearing → Option Hearing
each f None = None
each f (Some s) = Some (f s)

abbrev pub HearsIn : Option Hearing → Option Heard → Option Hearing → Type 0
HearsIn None heard t = (heard ≡ None) × (t ≡ None)
HearsIn (Some s) None t = ⊥
HearsIn (Some s) (Some heard) None = ⊥
HearsIn (Some s) (Some heard) (Some t) = Hears s heard t

abbrev pub ReadsIn : Option Hearing → Option Hearing → Type 0
ReadsIn None t = t ≡ None
ReadsIn (Some s) None = ⊥
ReadsIn (Some s) (Some t) = ReadsOnce s t

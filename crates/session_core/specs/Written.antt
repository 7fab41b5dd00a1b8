-- What a session has written.
use Rattle.std.specs.Prelude.{⊤, ◌≡◌, ◌⊎◌, ℕ, List, [], ◌∷◌, ◌++◌, take, Option, Some, None, Bool, true, false}
use Rattle.std.specs.List.{flat_map}
use Rattle.std.specs.Io.KnownBytes.{Appends}
use Rattle.apply_core.specs.declared.reply.Reply.{Reply}
use Rattle.page_core.specs.Lists.{Every}
use Rattle.office_core.specs.Slips.{Told}
use Rattle.session_text.specs.Requests.{Request}
use Rattle.session_text.specs.Answers.{Said, opened, ended, repeated, told, said_text, MayAnswer}
use Rattle.session_core.specs.declared.note.ReplyNote.{ReplyNote}
use Rattle.session_core.specs.declared.output.Health.{Health}
use Rattle.session_core.specs.declared.output.Health.TheVariants.{Fine, NoMemory, Mixed, Broken}
use Rattle.session_core.specs.declared.stage.SessionStage.{SessionStage}
use Rattle.session_core.specs.declared.stage.SessionStage.TheVariants.{Free}
use Rattle.session_core.specs.declared.fault.SessionFault.{SessionFault}
use Rattle.session_core.specs.declared.fault.SessionFault.TheVariants as faults
use Rattle.session_text.specs.declared.fault.HearFault.{HearFault}
use Rattle.session_text.specs.declared.fault.HearFault.TheVariants as hears
use Rattle.session_core.specs.Dialogue.{IsDialogue, IsDialogueSoFar, IsWholeDialogue}
use Rattle.session_core.specs.Notes.{note_at}

-- the note of a line: its number and reply, where it is the last line of a receipt
abbrev pub note_of : Said → List ReplyNote
note_of (opened name next) = []
note_of (ended n reply) = note_at n reply ∷ []
note_of (repeated n reply) = []
note_of (told line) = []

abbrev pub notes_of : List Said → List ReplyNote
notes_of said = flat_map note_of said

-- lines one after another
abbrev pub lines_text : List Said → List ℕ
lines_text said = flat_map said_text said

-- whole lines were sent, and others are held back: a dialogue that has come to here; these are their notes
abbrev pub IsWhole : Option (List ℕ) → Option (List ℕ) → List ℕ → List ReplyNote → SessionStage → Type 0
IsWhole start now held notes at =
    (sent : List Said) × (kept : List Said) × (notes_of sent ++ notes_of kept ≡ notes)
    × IsDialogue Free (sent ++ kept) at × Appends start now (lines_text sent) × (held ≡ lines_text kept)

-- whole lines of a dialogue were sent, then a front of one more, and others were lost; these are their notes
abbrev pub IsCut : Option (List ℕ) → Option (List ℕ) → List ReplyNote → Type 0
IsCut start now notes =
    (sent : List Said) × (last : Said) × (lost : List Said) × (count : ℕ)
    × (notes_of sent ++ notes_of (last ∷ lost) ≡ notes) × IsDialogueSoFar (sent ++ last ∷ lost)
    × Appends start now (lines_text sent ++ take count (said_text last))

-- a front of the text of a dialogue was sent
abbrev pub IsFront : Option (List ℕ) → Option (List ℕ) → Type 0
IsFront start now =
    (said : List Said) × (count : ℕ) × IsDialogueSoFar said × Appends start now (take count (lines_text said))

-- what was sent since the start, with the lines held back and these notes, and where they have come to
abbrev pub IsWritten : Option (List ℕ) → Option (List ℕ) → List ℕ → Health → List ReplyNote → SessionStage → Type 0
IsWritten start now held Fine notes at = IsWhole start now held notes at
IsWritten start now held NoMemory notes at = IsWhole start now held notes at
IsWritten start now held Mixed notes at = IsFront start now
IsWritten start now held Broken notes at = IsCut start now notes

-- what was sent when no more is said: where all is fine each line was, and no call is open
abbrev pub IsSaid : Option (List ℕ) → Option (List ℕ) → Health → List ReplyNote → Type 0
IsSaid start now Fine notes =
    (sent : List Said) × (notes_of sent ≡ notes) × IsWholeDialogue sent × Appends start now (lines_text sent)
IsSaid start now NoMemory notes = (held : List ℕ) × (at : SessionStage) × IsWhole start now held notes at
IsSaid start now Mixed notes = IsFront start now
IsSaid start now Broken notes = IsCut start now notes

-- nothing more is sent
abbrev pub IsStopped : Health → Type 0
IsStopped Fine = ⊥
IsStopped NoMemory = ⊥
IsStopped Mixed = ⊤
IsStopped Broken = ⊤

-- these are whole lines that lead from here to there, with these notes
abbrev pub IsHeld : List ℕ → List ReplyNote → SessionStage → SessionStage → Type 0
IsHeld held notes first at =
    (kept : List Said) × (notes_of kept ≡ notes) × IsDialogue first kept at × (held ≡ lines_text kept)

-- no more lines are begun: one was lost, or may not stand where it was said
abbrev pub IsSilent : Bool → Bool → Type 0
IsSilent lost mixed = (lost ≡ true) ⊎ (mixed ≡ true)

-- what adding a line to those held back does
abbrev pub Adds : List ℕ → List ℕ → List ReplyNote → List ReplyNote → Said → Bool → Type 0
Adds old new notes more line true = (new ≡ old ++ said_text line) × (more ≡ notes ++ note_of line)
Adds old new notes more line false = (new ≡ old) × (more ≡ notes)

-- what handing lines and their notes over does: all go, to where no line was, and the notes behind those that were
-- there; or nothing goes
abbrev pub HandsOver : List ℕ → List ℕ → List ReplyNote → List ReplyNote → List ℕ → List ReplyNote → List ReplyNote → Bool → Type 0
HandsOver held left notes fewer to noted more true = (to ≡ held) × (left ≡ []) × (more ≡ noted ++ notes) × (fewer ≡ [])
HandsOver held left notes fewer to noted more false = (to ≡ []) × (left ≡ held) × (more ≡ noted) × (fewer ≡ notes)

-- what sending the lines held back does
abbrev pub Sends : Option (List ℕ) → Option (List ℕ) → List ℕ → List ℕ → Bool → Type 0
Sends old new held left true = Appends old new held × (left ≡ [])
Sends old new held left false = (count : ℕ) × Appends old new (take count held)

-- a note is of a receipt
abbrev pub IsNoteOf : Told → ReplyNote → Type 0
IsNoteOf r note = (r.call.number ≡ note.number) × (r.reply ≡ note.reply)

-- the notes are those of the first receipts, one by one
abbrev pub AreFirst : List Told → List ReplyNote → Type 0
AreFirst receipts [] = ⊤
AreFirst [] (note ∷ notes) = ⊥
AreFirst (r ∷ receipts) (note ∷ notes) = IsNoteOf r note × AreFirst receipts notes

-- the notes are those of the receipts, one by one
abbrev pub AreAll : List Told → List ReplyNote → Type 0
AreAll [] [] = ⊤
AreAll (r ∷ receipts) (note ∷ notes) = IsNoteOf r note × AreAll receipts notes
AreAll receipts notes = ⊥

-- the notes are those of the receipts, where all was written, and else those of the first
abbrev pub IsAccounted : Health → List Told → List ReplyNote → Type 0
IsAccounted Fine receipts notes = AreAll receipts notes
IsAccounted health receipts notes = AreFirst receipts notes

-- one of these receipts has this number and this reply
abbrev pub IsTold : List Told → ℕ → Reply → Type 0
IsTold [] n reply = ⊥
IsTold (r ∷ receipts) n reply = ((r.call.number ≡ n) × (r.reply ≡ reply)) ⊎ IsTold receipts n reply

-- a line is the table's for some action, or the last line of one of these receipts
abbrev pub IsOfSession : List Told → Said → Type 0
IsOfSession receipts line =
    ((q : Option Request) × MayAnswer q line)
    ⊎ ((n : ℕ) × (reply : Reply) × (line ≡ ended n reply) × IsTold receipts n reply)

abbrev pub AreOfSession : List Told → List Said → Type 0
AreOfSession receipts said = Every (IsOfSession receipts) said

-- Whole lines of the session were written: each call that it accepted has its last line, and the last lines of those
-- with a receipt are those of the receipts, one by one.
abbrev pub WroteAll : Option (List ℕ) → Option (List ℕ) → List Told → Type 0
WroteAll start now receipts =
    (said : List Said) × IsWholeDialogue said × AreAll receipts (notes_of said) × AreOfSession receipts said
    × Appends start now (lines_text said)

-- the same, but that lines may be left out at the end
abbrev pub WroteLines : Option (List ℕ) → Option (List ℕ) → List Told → Type 0
WroteLines start now receipts =
    (said : List Said) × IsDialogueSoFar said × AreFirst receipts (notes_of said) × AreOfSession receipts said
    × Appends start now (lines_text said)

-- and then a front of one more
abbrev pub WroteFront : Option (List ℕ) → Option (List ℕ) → List Told → Type 0
WroteFront start now receipts =
    (said : List Said) × (last : Said) × (count : ℕ) × IsDialogueSoFar (said ++ last ∷ [])
    × AreFirst receipts (notes_of (said ++ last ∷ [])) × AreOfSession receipts said × IsOfSession receipts last
    × Appends start now (lines_text said ++ take count (said_text last))

-- what a session wrote, by its fault
abbrev pub HasWritten : Option (List ℕ) → Option (List ℕ) → List Told → Option SessionFault → Type 0
HasWritten start now receipts None = WroteAll start now receipts
HasWritten start now receipts (Some faults.LineTooLong) = WroteAll start now receipts
HasWritten start now receipts (Some faults.ReadFault) = WroteAll start now receipts
HasWritten start now receipts (Some faults.WriteFault) = WroteFront start now receipts
HasWritten start now receipts (Some faults.Memory) = WroteLines start now receipts
HasWritten start now receipts (Some faults.LogMixed) = IsFront start now

-- the fault that was met in reading, if any
abbrev pub heard_fault : Option HearFault → Option SessionFault
heard_fault None = None
heard_fault (Some hears.LineTooLong) = Some faults.LineTooLong
heard_fault (Some hears.ReadFault) = Some faults.ReadFault
heard_fault (Some hears.Memory) = Some faults.Memory

-- the fault that is told
abbrev pub told_fault : Bool → Health → Option HearFault → Option SessionFault
told_fault false health heard = Some faults.LogMixed
told_fault true Mixed heard = Some faults.LogMixed
told_fault true Broken heard = Some faults.WriteFault
told_fault true NoMemory heard = Some faults.Memory
told_fault true Fine heard = heard_fault heard

-- Why a session ends with its fault.
use Rattle.std.specs.Prelude.{◌≡◌, ◌↔◌, IsTrue, ℕ, List, Option, Bool}
use Rattle.office_core.specs.Slips.{Told}
use Rattle.session_core.specs.declared.note.ReplyNote.{ReplyNote}
use Rattle.session_core.specs.declared.output.Health.{Health}
use Rattle.session_core.specs.declared.fault.SessionFault.{SessionFault}
use Rattle.session_text.specs.declared.fault.HearFault.{HearFault}
use Rattle.session_core.specs.Written.{IsAccounted, IsSaid, told_fault}

-- The fault that is told, by the receipts, the notes of what was said, how the writing went, and what was met in
-- reading. It is `LogMixed` where the notes are not those of the receipts, or a line stood where it may not, and only
-- there.
abbrev pub IsCausedBy : List Told → List ReplyNote → Health → Option HearFault → Option SessionFault → Type 0
IsCausedBy receipts notes health heard fault =
    (accounted : Bool) × (IsTrue accounted ↔ IsAccounted health receipts notes)
    × (fault ≡ told_fault accounted health heard)

-- the same of a session that had this written: how the writing went, and the notes, are of what was written
abbrev pub IsCaused : Option (List ℕ) → Option (List ℕ) → List Told → Option HearFault → Option SessionFault → Type 0
IsCaused start now receipts heard fault =
    (health : Health) × (notes : List ReplyNote) × IsSaid start now health notes
    × IsCausedBy receipts notes health heard fault

-- Laws of traces that were cut short.
use Rattle.std.specs.Prelude.{ℕ, ◌≤◌, List, [], ◌∷◌, take, drop}
use Rattle.std.specs.Str.Lines.{lines}
use Rattle.keep_loop.specs.Journal.{IsSolid, AreLines, Begins, IsBetween}
use Rattle.keep_loop.specs.Taken.{IsTaken, taken}
use Rattle.value_core.specs.Plain.{IsText}
use Rattle.word_core.specs.Words.{Word, bare, quoted, line_of}
use Rattle.decl_core.specs.ObjectForm.{ObjectForm}
use Rattle.apply_core.specs.declared.reply.Reply.{Reply}
use Rattle.apply_core.specs.History.{IsReplyOn}
use Rattle.word_core.specs.Events.{Called, ended, body_at}
use Rattle.audit_core.specs.Tells.{Heard, nothing_heard, IsOpened, Tell}
use Rattle.audit_core.specs.Verdicts.{IsSound, IsLegalTrace, contents_of}

-- Of a sound trace the first lines behind its parts are a sound trace, however many.
abbrev pub FrontIsSound : Type 0
FrontIsSound = (o : ObjectForm) (opened heard : Heard) (more : List (List ℕ)) (k : ℕ) → IsOpened o opened →
    Tell o opened more heard → IsSound o heard →
    (mid : Heard) × Tell o opened (take k more) mid × Tell o mid (drop k more) heard × IsOpened o mid × IsSound o mid

-- A sound trace in which a call is ended as the sequential object ends it is sound.
abbrev pub CompletedIsSound : Type 0
CompletedIsSound = (o : ObjectForm) (heard : Heard) (call : Called) (reply : Reply) → IsSound o heard →
    IsReplyOn reply (body_at o call.operation) call.arguments (contents_of o heard)
    → IsSound o (record heard { past = ended call reply ∷ heard.past })

-- the lines of a front tell all parts, whatever else they tell
abbrev pub TellsParts : ObjectForm → List ℕ → Type 0
TellsParts o front = (opened : Heard) → Tell o nothing_heard (lines front) opened → IsOpened o opened

-- a legal trace that begins with all that was stored and goes on as the text does, with at most so many ends, and at
-- least as many as what was stored
pub record IsLeft (o : ObjectForm) (stored text : List ℕ) (ends : ℕ) (found : List ℕ) : Type 0 where
  pub between : IsBetween stored text found
  pub left : ℕ
  pub legal : IsLegalTrace o found left
  pub most : left ≤ ends
  pub kept : ℕ
  pub was_legal : IsLegalTrace o stored kept
  pub least : kept ≤ left

-- a crash leaves a file that is taken, and the lines that it tells are such a trace
pub record FileIsLeft (o : ObjectForm) (stored text : List ℕ) (ends : ℕ) (file : List ℕ) : Type 0 where
  pub is_taken : IsTaken file
  pub left : IsLeft o stored text ends (taken file)

-- The text of a journal is a legal trace with so many ends, and all lines of its parts are stored: then what a crash
-- leaves of its lines is a legal trace, with at most as many ends, and at least as many as what is stored.
abbrev pub CrashLeavesLegal : Type 0
CrashLeavesLegal = (o : ObjectForm) (front stored text found : List ℕ) (ends : ℕ) → TellsParts o front →
    AreLines front → Begins front stored → AreLines stored → IsLegalTrace o text ends → AreLines found →
    IsBetween stored text found → IsLeft o stored text ends found

-- no bare word has a byte 0 in it
abbrev pub EachSolid : List Word → Type 0
EachSolid [] = Unit {0}
EachSolid (bare bytes ∷ more) = IsSolid bytes × EachSolid more
EachSolid (quoted text ∷ more) = IsText text × EachSolid more

-- A line of such words may be added to a journal.
abbrev pub WordsAreLines : Type 0
WordsAreLines = (words : List Word) → EachSolid words → AreLines (line_of words)

-- Laws of dialogues.
use Rattle.std.specs.Prelude.{⊤, ◌≡◌, ℕ, List, [], ◌∷◌, ◌++◌}
use Rattle.session_text.specs.declared.line.ReplyLine.TheVariants as lines
use Rattle.session_text.specs.declared.line.LineRefusal.TheVariants as refusals
use Rattle.session_text.specs.Answers.{Said, ended, told}
use Rattle.page_core.specs.Lists.{Every}
use Rattle.session_core.specs.Dialogue.{IsDialogueSoFar, IsWholeDialogue}

-- the last line of a call of this number
abbrev pub IsLastOf : ℕ → Said → Type 0
IsLastOf n (ended m reply) = m ≡ n
IsLastOf n (told (lines.Withdrawn m)) = m ≡ n
IsLastOf n line = ⊥

-- a line that is said beside a call
abbrev pub IsAside : Said → Type 0
IsAside (told (lines.Cancel n answer)) = ⊤
IsAside (told (lines.Refused refusals.LineTooLong)) = ⊤
IsAside line = ⊥

-- each call that was accepted has its last line, with nothing before it but what is said beside a call; and what comes
-- behind it begins where no call is open
abbrev pub AcceptedEnds : Type 0
AcceptedEnds = (before behind : List Said) (n : ℕ) → IsWholeDialogue (before ++ told (lines.Accepted n) ∷ behind)
    → (beside : List Said) × (last : Said) × (later : List Said) × (behind ≡ beside ++ last ∷ later)
    × Every IsAside beside × IsLastOf n last × IsWholeDialogue later

-- each last line is that of the call that was accepted before it, with nothing in between but what is said beside a call
abbrev pub LastWasAccepted : Type 0
LastWasAccepted = (front behind : List Said) (n : ℕ) (last : Said) → IsDialogueSoFar (front ++ last ∷ behind)
    → IsLastOf n last → (before beside : List Said)
    × (front ≡ before ++ told (lines.Accepted n) ∷ beside) × Every IsAside beside

-- nothing comes behind `bye`
abbrev pub ByeIsLast : Type 0
ByeIsLast = (front behind : List Said) → IsDialogueSoFar (front ++ told lines.Bye ∷ behind) → behind ≡ []

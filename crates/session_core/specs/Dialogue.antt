-- Which line may stand where among those of a session.
use Rattle.std.specs.Prelude.{⊤, ◌≡◌, List, [], ◌∷◌, Option, Some, None}
use Rattle.session_text.specs.declared.line.ReplyLine.TheVariants as lines
use Rattle.session_text.specs.declared.line.LineRefusal.TheVariants as refusals
use Rattle.session_text.specs.Answers.{Said, ended, told}
use Rattle.session_core.specs.declared.stage.SessionStage.{SessionStage}
use Rattle.session_core.specs.declared.stage.SessionStage.TheVariants.{Free, Open, Over}

-- This line may stand here, and leads there. Where no call is open, one may be accepted, `bye` may be said, and each
-- other line but the last one of a call leaves it so. While a call is open its last line may stand, and what is said
-- beside it: the answer of a cancel, and that a line is too long. Behind `bye` no line stands.
abbrev pub Moves : SessionStage → Said → SessionStage → Type 0
Moves Free (told (lines.Accepted n)) to = to ≡ Open n
Moves Free (told lines.Bye) to = to ≡ Over
Moves Free (told (lines.Withdrawn n)) to = ⊥
Moves Free (ended n reply) to = ⊥
Moves Free line to = to ≡ Free
Moves (Open m) (ended n reply) to = (m ≡ n) × (to ≡ Free)
Moves (Open m) (told (lines.Withdrawn n)) to = (m ≡ n) × (to ≡ Free)
Moves (Open m) (told (lines.Cancel n answer)) to = to ≡ Open m
Moves (Open m) (told (lines.Refused refusals.LineTooLong)) to = to ≡ Open m
Moves (Open m) line to = ⊥
Moves Over line to = ⊥

-- where this line leads from here, or that it may not stand here
abbrev pub Leads : SessionStage → Said → Option SessionStage → Type 0
Leads at line (Some to) = Moves at line to
Leads at line None = (to : SessionStage) → Moves at line to → ⊥

-- these lines lead from here to there, one after the other
abbrev pub IsDialogue : SessionStage → List Said → SessionStage → Type 0
IsDialogue at [] to = at ≡ to
IsDialogue at (line ∷ said) to = (next : SessionStage) × Moves at line next × IsDialogue next said to

-- no call is open
abbrev pub IsShut : SessionStage → Type 0
IsShut (Open n) = ⊥
IsShut at = ⊤

-- the lines of a session so far
abbrev pub IsDialogueSoFar : List Said → Type 0
IsDialogueSoFar said = (to : SessionStage) × IsDialogue Free said to

-- the lines of a session that has ended: each call that it accepted has its last line
abbrev pub IsWholeDialogue : List Said → Type 0
IsWholeDialogue said = (to : SessionStage) × IsDialogue Free said to × IsShut to

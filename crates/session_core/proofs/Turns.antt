-- Each call that was accepted has its last line.
use Rattle.std.proofs.Common.{◌≡◌, ℕ, List, [], ◌∷◌, ◌++◌, refl, sym, ap, subst, inl, inr, ◌∙◌}
use Rattle.std.specs.Prelude.{◌⊎◌}
use Rattle.page_core.specs.Lists.{Every}
use Rattle.session_text.specs.declared.line.ReplyLine.TheVariants as lines
use Rattle.session_text.specs.declared.line.LineRefusal.TheVariants as refusals
use Rattle.session_text.specs.Answers.{Said, opened, ended, repeated, told}
use Rattle.session_core.specs.declared.stage.SessionStage.{SessionStage}
use Rattle.session_core.specs.declared.stage.SessionStage.TheVariants.{Free, Open, Over}
use Rattle.session_core.specs.Dialogue.{Moves, IsDialogue, IsShut}
use Rattle.session_core.specs.Laws.{IsLastOf, IsAside, AcceptedEnds, LastWasAccepted, ByeIsLast}
use Rattle.session_core.proofs.Dialogues.{parted}

-- what a line that stands while a call is open is: its last line, or one beside it
while_open : (n : ℕ) (line : Said) (next : SessionStage) → Moves (Open n) line next → (IsLastOf n line × (next ≡ Free)) ⊎ (IsAside line × (next ≡ Open n))
while_open n (opened name key) next goes = absurd goes
while_open n (ended m reply) next goes = inl (sym goes.0, goes.1)
while_open n (repeated m reply) next goes = absurd goes
while_open n (told (lines.Refused refusals.BadLine)) next goes = absurd goes
while_open n (told (lines.Refused refusals.LineTooLong)) next goes = inr (tt, goes)
while_open n (told (lines.Refused refusals.NotOpen)) next goes = absurd goes
while_open n (told (lines.Refused refusals.Opened)) next goes = absurd goes
while_open n (told (lines.Refused refusals.NoObject)) next goes = absurd goes
while_open n (told (lines.Refused refusals.InUse)) next goes = absurd goes
while_open n (told (lines.Refused refusals.Full)) next goes = absurd goes
while_open n (told (lines.Refused refusals.Gone)) next goes = absurd goes
while_open n (told (lines.Unsubmitted fault)) next goes = absurd goes
while_open n (told (lines.Unkeyed fault)) next goes = absurd goes
while_open n (told (lines.Accepted m)) next goes = absurd goes
while_open n (told (lines.Kept m state)) next goes = absurd goes
while_open n (told (lines.Withdrawn m)) next goes = inl (sym goes.0, goes.1)
while_open n (told (lines.Cancel m answer)) next goes = inr (tt, goes)
while_open n (told lines.Bye) next goes = absurd goes

-- the last line of a call, and what is beside it before
record Closes (n : ℕ) (said : List Said) (to : SessionStage) : Type 0 where
  pub beside : List Said
  pub last : Said
  pub later : List Said
  pub parts : said ≡ beside ++ last ∷ later
  pub asides : Every IsAside beside
  pub is : IsLastOf n last
  pub on : IsDialogue Free later to

one_beside : (n : ℕ) (line : Said) (said : List Said) (to : SessionStage) → IsAside line → Closes n said to → Closes n (line ∷ said) to
one_beside n line said to aside c = record {
  beside = line ∷ c.beside;
  last = c.last;
  later = c.later;
  parts = ap (λ w. line ∷ w) c.parts;
  asides = (aside, c.asides);
  is = c.is;
  on = c.on;
}

closes : (n : ℕ) (said : List Said) (to : SessionStage) → IsDialogue (Open n) said to → IsShut to → Closes n said to
closes n [] to leads shut = absurd (subst IsShut (sym leads) shut)
closes n (line ∷ said) to (next, goes, leads) shut = elim (while_open n line next goes) [
  | inl is ↦ record {
    beside = [];
    last = line;
    later = said;
    parts = refl;
    asides = tt;
    is = is.0;
    on = subst (λ s. IsDialogue s said to) is.1 leads;
  }
  | inr is ↦ one_beside n line said to is.0 (closes n said to (subst (λ s. IsDialogue s said to) is.1 leads) shut)
]

opens_it : (here : SessionStage) (n : ℕ) (next : SessionStage) → Moves here (told (lines.Accepted n)) next → next ≡ Open n
opens_it Free n next goes = goes
opens_it (Open m) n next goes = absurd goes
opens_it Over n next goes = absurd goes

pub accepted_ends : AcceptedEnds
accepted_ends = λ before behind n is.
    let r = parted Free is.0 before (told (lines.Accepted n) ∷ behind) is.1 in
    let c = closes n behind is.0 (subst (λ s. IsDialogue s behind is.0) (opens_it r.0 n r.2.0 r.2.1) r.2.2) is.2 in
    (c.beside, c.last, c.later, c.parts, c.asides, c.is, (is.0, c.on, is.2))

-- where a last line stands, its call is open
last_of_open : (here : SessionStage) (n : ℕ) (last : Said) (next : SessionStage) → IsLastOf n last → Moves here last next → here ≡ Open n
last_of_open Free n (opened name key) next is goes = absurd is
last_of_open Free n (ended m reply) next is goes = absurd goes
last_of_open Free n (repeated m reply) next is goes = absurd is
last_of_open Free n (told (lines.Withdrawn m)) next is goes = absurd goes
last_of_open Free n (told (lines.Refused refusal)) next is goes = absurd is
last_of_open Free n (told (lines.Unsubmitted fault)) next is goes = absurd is
last_of_open Free n (told (lines.Unkeyed fault)) next is goes = absurd is
last_of_open Free n (told (lines.Accepted m)) next is goes = absurd is
last_of_open Free n (told (lines.Kept m state)) next is goes = absurd is
last_of_open Free n (told (lines.Cancel m answer)) next is goes = absurd is
last_of_open Free n (told lines.Bye) next is goes = absurd is
last_of_open Over n last next is goes = absurd goes
last_of_open (Open k) n (ended m reply) next is goes = ap Open (goes.0 ∙ is)
last_of_open (Open k) n (told (lines.Withdrawn m)) next is goes = ap Open (goes.0 ∙ is)
last_of_open (Open k) n (opened name key) next is goes = absurd is
last_of_open (Open k) n (repeated m reply) next is goes = absurd is
last_of_open (Open k) n (told (lines.Refused refusal)) next is goes = absurd is
last_of_open (Open k) n (told (lines.Unsubmitted fault)) next is goes = absurd is
last_of_open (Open k) n (told (lines.Unkeyed fault)) next is goes = absurd is
last_of_open (Open k) n (told (lines.Accepted m)) next is goes = absurd is
last_of_open (Open k) n (told (lines.Kept m state)) next is goes = absurd is
last_of_open (Open k) n (told (lines.Cancel m answer)) next is goes = absurd is
last_of_open (Open k) n (told lines.Bye) next is goes = absurd is

-- which line leads to where a call is open: it is accepted, or was open
led_open : (here : SessionStage) (n : ℕ) (line : Said) → Moves here line (Open n) → (line ≡ told (lines.Accepted n)) ⊎ ((here ≡ Open n) × IsAside line)
led_open (Open k) n line goes = elim (while_open k line (Open n) goes) [
  | inl is ↦ let h = is.1 in cc
  | inr is ↦ inr (sym is.1, is.0)
]
led_open Over n line goes = absurd goes
led_open Free n (told (lines.Accepted m)) goes = let h = goes in inl cc
led_open Free n (told lines.Bye) goes = let h = goes in cc
led_open Free n (told (lines.Withdrawn m)) goes = absurd goes
led_open Free n (ended m reply) goes = absurd goes
led_open Free n (opened name key) goes = let h = goes in cc
led_open Free n (repeated m reply) goes = let h = goes in cc
led_open Free n (told (lines.Refused refusal)) goes = let h = goes in cc
led_open Free n (told (lines.Unsubmitted fault)) goes = let h = goes in cc
led_open Free n (told (lines.Unkeyed fault)) goes = let h = goes in cc
led_open Free n (told (lines.Kept m state)) goes = let h = goes in cc
led_open Free n (told (lines.Cancel m answer)) goes = let h = goes in cc

record Begins (n : ℕ) (said : List Said) : Type 0 where
  pub before : List Said
  pub beside : List Said
  pub parts : said ≡ before ++ told (lines.Accepted n) ∷ beside
  pub asides : Every IsAside beside

one_before : (n : ℕ) (line : Said) (said : List Said) → Begins n said → Begins n (line ∷ said)
one_before n line said b = record { before = line ∷ b.before; beside = b.beside; parts = ap (λ w. line ∷ w) b.parts; asides = b.asides }

begins : (first : SessionStage) (n : ℕ) (said : List Said) → IsDialogue first said (Open n) → Begins n said ⊎ ((first ≡ Open n) × Every IsAside said)
begins first n [] leads = inr (leads, tt)
begins first n (line ∷ said) (next, goes, leads) = elim (begins next n said leads) [
  | inl b ↦ inl (one_before n line said b)
  | inr is ↦ elim (led_open first n line (subst (λ s. Moves first line s) is.0 goes)) [
    | inl accepted ↦ inl (record { before = []; beside = said; parts = ap (λ w. w ∷ said) accepted; asides = is.1 })
    | inr was ↦ inr (was.0, (was.1, is.1))
  ]
]

free_begins : (n : ℕ) (said : List Said) → Begins n said ⊎ ((Free ≡ Open n) × Every IsAside said) → Begins n said
free_begins n said (inl b) = b
free_begins n said (inr is) = let h = is.0 in cc

pub last_was_accepted : LastWasAccepted
last_was_accepted = λ front behind n last is of.
    let r = parted Free is.0 front (last ∷ behind) is.1 in
    let b = free_begins n front (begins Free n front (subst (λ s. IsDialogue Free front s) (last_of_open r.0 n last r.2.0 of r.2.1) r.1)) in
    (b.before, b.beside, b.parts, b.asides)

-- behind `bye` nothing may stand
bye_ends : (here next : SessionStage) → Moves here (told lines.Bye) next → next ≡ Over
bye_ends Free next goes = goes
bye_ends (Open n) next goes = absurd goes
bye_ends Over next goes = absurd goes

nothing_behind : (to : SessionStage) (said : List Said) → IsDialogue Over said to → said ≡ []
nothing_behind to [] leads = refl
nothing_behind to (line ∷ said) (next, goes, leads) = absurd goes

pub bye_is_last : ByeIsLast
bye_is_last = λ front behind is.
    let r = parted Free is.0 front (told lines.Bye ∷ behind) is.1 in
    nothing_behind is.0 behind (subst (λ s. IsDialogue s behind is.0) (bye_ends r.0 r.2.0 r.2.1) r.2.2)

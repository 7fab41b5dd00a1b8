-- What was written, line by line.
use Rattle.std.proofs.Common.{◌≡◌, ℕ, ◌+◌, ◌-◌, ◌≤◌, List, [], ◌∷◌, ◌++◌, length, take, refl, sym, ap, subst, ◌∙◌, append-nil, append_assoc, arith, Option, Some, None, Bool, true, false, inl, inr}
use Rattle.std.specs.Prelude.{IsTrue, ◌⊎◌, codes, decimal}
use Rattle.std.specs.Io.KnownBytes.{Appends}
use Rattle.std.specs.List.{flat_map}
use Rattle.std.proofs.lemmas.Bool.{cases_lt}
use Rattle.std.proofs.lemmas.List.{take-append-le}
use Rattle.std.proofs.Math.Seq.{take-append-add}
use Rattle.std.proofs.lemmas.List.Concat.{flat_map-append}
use Rattle.apply_core.specs.declared.reply.Reply.{Reply}
use Rattle.page_core.specs.Lists.{Every}
use Rattle.office_core.specs.Slips.{Told}
use Rattle.word_core.specs.Words.{Word, bare, words_text, line_of}
use Rattle.word_core.specs.Ending.{finish_words}
use Rattle.word_core.specs.Text.{reply_ending}
use Rattle.word_core.specs.Answers.{finished_line}
use Rattle.session_text.specs.Lines.{refusal_name, fault_name, keyed_name, unended_name, cancel_name}
use Rattle.session_text.specs.declared.line.ReplyLine.TheVariants as lines
use Rattle.session_text.specs.declared.line.LineRefusal.{LineRefusal}
use Rattle.session_text.specs.declared.line.LineRefusal.TheVariants as refusals
use Rattle.session_text.specs.Requests.{Request, opens, calls, cancels, quits}
use Rattle.session_text.specs.Answers.{Said, opened, ended, repeated, told, said_text, MayAnswer}
use Rattle.session_core.specs.declared.note.ReplyNote.{ReplyNote}
use Rattle.session_core.specs.declared.output.Health.{Health}
use Rattle.session_core.specs.declared.output.Health.TheVariants.{Fine, NoMemory, Mixed, Broken}
use Rattle.session_core.specs.declared.stage.SessionStage.{SessionStage}
use Rattle.session_core.specs.declared.stage.SessionStage.TheVariants.{Free}
use Rattle.session_text.specs.declared.fault.HearFault.{HearFault}
use Rattle.session_text.specs.declared.fault.HearFault.TheVariants as hears
use Rattle.session_core.specs.Notes.{note_at}
use Rattle.session_core.specs.Dialogue.{Moves, IsDialogue, IsShut}
use Rattle.session_core.specs.Written.{note_of, notes_of, lines_text, IsWhole, IsCut, IsFront, IsHeld, IsWritten, IsSaid, IsStopped, Adds, HandsOver, Sends, IsNoteOf, AreFirst, AreAll, IsAccounted, IsTold, IsOfSession, AreOfSession}
use Rattle.session_core.specs.Written.{WroteAll, WroteLines, WroteFront, HasWritten, heard_fault, told_fault}
use Rattle.session_core.proofs.Dialogues.{joined, one_more, so_far, with_last}

-- nothing was sent
nothing_sent : (start : Option (List ℕ)) → Appends start start []
nothing_sent None = tt
nothing_sent (Some xs) = sym (append-nil xs)

pub fresh : (start now : Option (List ℕ)) (held : List ℕ) (notes : List ReplyNote) → now ≡ start → held ≡ [] → notes ≡ [] → IsWhole start now held notes Free
fresh start now held notes at none unnoted = ([], [], sym unnoted, refl, subst (λ k. Appends start k []) (sym at) (nothing_sent start), none)

more_bytes : (start old new : Option (List ℕ)) (front back : List ℕ) → Appends start old front → Appends old new back → Appends start new (front ++ back)
more_bytes None old new front back a b = tt
more_bytes (Some xs) None new front back a b = absurd a
more_bytes (Some xs) (Some ys) None front back a b = absurd b
more_bytes (Some xs) (Some ys) (Some zs) front back a b = b ∙ ap (λ w. w ++ back) a ∙ append_assoc xs front back

at_end : {A : Type 0} (f : Said → List A) (said : List Said) (line : Said) → flat_map f (said ++ line ∷ []) ≡ flat_map f said ++ f line
at_end f said line = flat_map-append f said (line ∷ []) ∙ ap (λ w. flat_map f said ++ w) (append-nil (f line))

-- a line is held back that may stand there
pub held_more : (held text : List ℕ) (notes more : List ReplyNote) (first at to : SessionStage) (line : Said) (added : Bool) → IsHeld held notes first at → Moves at line to → added ≡ true → Adds held text notes more line added → IsHeld text more first to
held_more held text notes more first at to line false is goes so adds = cc
held_more held text notes more first at to line true (kept, noted, leads, are) goes so (grown, marked) = (
  kept ++ line ∷ [],
  at_end note_of kept line ∙ ap (λ w. w ++ note_of line) noted ∙ sym marked,
  one_more first at to kept line leads goes,
  grown ∙ ap (λ w. w ++ said_text line) are ∙ sym (at_end said_text kept line),
)

-- or not
pub held_still : (held text : List ℕ) (notes more : List ReplyNote) (first at : SessionStage) (line : Said) (added : Bool) → IsHeld held notes first at → added ≡ false → Adds held text notes more line added → IsHeld text more first at
held_still held text notes more first at line true is so adds = cc
held_still held text notes more first at line false (kept, noted, leads, are) so (same, unmarked) = (kept, noted ∙ sym unmarked, leads, same ∙ are)

-- what adding a line did, of what is seen of what is held back
pub adds_seen : (was is : List ℕ × List ReplyNote × SessionStage × SessionStage × Bool × Bool) (new : List ℕ) (more : List ReplyNote) (line : Said) (added known : Bool) → was ≡ is → added ≡ known → Adds was.0 new was.1 more line added
    → Adds is.0 new is.1 more line known
adds_seen was is new more line added known same so adds = subst (λ v. Adds v.0 new v.1 more line known) same (subst (λ b. Adds was.0 new was.1 more line b) so adds)

-- what is left behind where lines were handed over
pub all_gone : (held left to : List ℕ) (notes fewer noted more : List ReplyNote) (at : SessionStage) (went : Bool) → went ≡ true → HandsOver held left notes fewer to noted more went → IsHeld left fewer at at
all_gone held left to notes fewer noted more at false so hands = cc
all_gone held left to notes fewer noted more at true so (moved, gone, grown, spent) = ([], sym spent, refl, gone)

-- or were not
pub none_gone : (held left to : List ℕ) (notes fewer noted more : List ReplyNote) (first at : SessionStage) (went : Bool) → IsHeld held notes first at → went ≡ false → HandsOver held left notes fewer to noted more went → IsHeld left fewer first at
none_gone held left to notes fewer noted more first at true is so hands = cc
none_gone held left to notes fewer noted more first at false (kept, marked, leads, are) so (none, stays, same, still) = (kept, marked ∙ sym still, leads, stays ∙ are)

-- lines that were held back elsewhere are to be sent
pub more_held : (start now : Option (List ℕ)) (none held : List ℕ) (notes marks more : List ReplyNote) (first at to : SessionStage) → none ≡ [] → IsWhole start now none notes at → IsHeld held marks first to → first ≡ at → more ≡ notes ++ marks
    → IsWhole start now held more to
more_held start now none held notes marks more first at to empty (sent, before, noted, leads, bytes, are) (kept, marked, on, stand) here grown = (
  sent,
  before ++ kept,
  ap (λ w. notes_of sent ++ w) (flat_map-append note_of before kept) ∙ sym (append_assoc (notes_of sent) (notes_of before) (notes_of kept)) ∙ ap (λ w. w ++ notes_of kept) noted ∙ ap (λ w. notes ++ w) marked ∙ sym grown,
  subst (λ w. IsDialogue Free w to) (append_assoc sent before kept) (joined Free at to (sent ++ before) kept leads (subst (λ s. IsDialogue s kept to) here on)),
  bytes,
  stand ∙ sym (ap (λ w. w ++ lines_text kept) (sym are ∙ empty)) ∙ sym (flat_map-append said_text before kept),
)

-- all lines that were held back are sent
pub all_sent : (start old new : Option (List ℕ)) (held left : List ℕ) (notes : List ReplyNote) (at : SessionStage) → IsWhole start old held notes at → Sends old new held left true → IsWhole start new left notes at
all_sent start old new held left notes at (sent, kept, noted, leads, bytes, are) (gone, none) = (
  sent ++ kept,
  [],
  append-nil (notes_of (sent ++ kept)) ∙ flat_map-append note_of sent kept ∙ noted,
  subst (λ w. IsDialogue Free w at) (sym (append-nil (sent ++ kept))) leads,
  subst (Appends start new) (sym (flat_map-append said_text sent kept)) (more_bytes start old new (lines_text sent) (lines_text kept) bytes (subst (Appends old new) are gone)),
  none,
)

-- a front of the text of some lines is whole lines, and a front of one more
pub record IsCutAt (said : List Said) (count : ℕ) : Type 0 where
  pub sent : List Said
  pub last : Said
  pub lost : List Said
  pub part : ℕ
  pub lines : said ≡ sent ++ last ∷ lost
  pub bytes : take count (lines_text said) ≡ lines_text sent ++ take part (said_text last)

one_more_sent : (line : Said) (said : List Said) (count : ℕ) → IsCutAt said count → IsCutAt (line ∷ said) (length (said_text line) + count)
one_more_sent line said count front = record {
  sent = line ∷ front.sent;
  last = front.last;
  lost = front.lost;
  part = front.part;
  lines = ap (λ w. line ∷ w) front.lines;
  bytes = take-append-add (said_text line) (lines_text said) count ∙ ap (λ w. said_text line ++ w) front.bytes ∙ sym (append_assoc (said_text line) (lines_text front.sent) (take front.part (said_text front.last)));
}

within_first : (line : Said) (said : List Said) (count : ℕ) → count ≤ length (said_text line) → IsCutAt (line ∷ said) count
within_first line said count short = record {
  sent = [];
  last = line;
  lost = said;
  part = count;
  lines = refl;
  bytes = take-append-le count (said_text line) (lines_text said) short;
}

within_last : (line : Said) (count : ℕ) → IsCutAt (line ∷ []) count
within_last line count = record {
  sent = [];
  last = line;
  lost = [];
  part = count;
  lines = refl;
  bytes = ap (take count) (append-nil (said_text line));
}

short_or_long : (count size : ℕ) → (count ≤ size) ⊎ ((rest : ℕ) × (count ≡ size + rest))
short_or_long count size = elim (cases_lt size count) [
  | inl long ↦ inr (count - size, omega (arith, long))
  | inr short ↦ inl (omega (arith, short))
]

front_of : (line : Said) (said : List Said) (count : ℕ) → IsCutAt (line ∷ said) count
front_of line [] count = within_last line count
front_of line (next ∷ said) count = elim (short_or_long count (length (said_text line))) [
  | inl short ↦ within_first line (next ∷ said) count short
  | inr long ↦ subst (IsCutAt (line ∷ next ∷ said)) (sym long.1) (one_more_sent line (next ∷ said) long.0 (front_of next said long.0))
]

-- where bytes are held back, lines are
some_front : (held : List ℕ) (kept : List Said) (count : ℕ) → (held ≡ [] → ⊥) → held ≡ lines_text kept → IsCutAt kept count
some_front held [] count some are = absurd (some are)
some_front held (line ∷ said) count some are = front_of line said count

-- a front of the lines that were held back is sent
cut_within : (start old new : Option (List ℕ)) (notes : List ReplyNote) (at : SessionStage) (sent kept : List Said) (count : ℕ) → notes_of sent ++ notes_of kept ≡ notes → IsDialogue Free (sent ++ kept) at → Appends start old (lines_text sent)
    → Appends old new (take count (lines_text kept)) → IsCutAt kept count → IsCut start new notes
cut_within start old new notes at sent kept count noted leads bytes gone front = (
  sent ++ front.sent,
  front.last,
  front.lost,
  front.part,
  ap (λ w. w ++ notes_of (front.last ∷ front.lost)) (flat_map-append note_of sent front.sent) ∙ append_assoc (notes_of sent) (notes_of front.sent) (notes_of (front.last ∷ front.lost))
      ∙ ap (λ w. notes_of sent ++ w) (sym (ap notes_of front.lines ∙ flat_map-append note_of front.sent (front.last ∷ front.lost))) ∙ noted,
  (at, subst (λ w. IsDialogue Free w at) (ap (λ w. sent ++ w) front.lines ∙ sym (append_assoc sent front.sent (front.last ∷ front.lost))) leads),
  subst (Appends start new)
      (ap (λ w. lines_text sent ++ w) front.bytes ∙ sym (append_assoc (lines_text sent) (lines_text front.sent) (take front.part (said_text front.last)))
      ∙ ap (λ w. w ++ take front.part (said_text front.last)) (sym (flat_map-append said_text sent front.sent)))
      (more_bytes start old new (lines_text sent) (take count (lines_text kept)) bytes gone),
)

pub some_sent : (start old new : Option (List ℕ)) (held left : List ℕ) (notes : List ReplyNote) (at : SessionStage) → (held ≡ [] → ⊥) → IsWhole start old held notes at → Sends old new held left false → IsCut start new notes
some_sent start old new held left notes at some (sent, kept, noted, leads, bytes, are) (count, gone) =
    cut_within start old new notes at sent kept count noted leads bytes (subst (λ w. Appends old new (take count w)) are gone) (some_front held kept count some are)

nothing_more : (start now : Option (List ℕ)) (bytes : List ℕ) → Appends start now bytes → Appends now now []
nothing_more start now bytes is = nothing_sent now

-- lines that were held back are lost
none_sent : (start now : Option (List ℕ)) (held : List ℕ) (notes : List ReplyNote) (at : SessionStage) → (held ≡ [] → ⊥) → IsWhole start now held notes at → IsCut start now notes
none_sent start now held notes at some (sent, kept, noted, leads, bytes, are) =
    cut_within start now now notes at sent kept 0 noted leads bytes (nothing_sent now) (some_front held kept 0 some are)

-- no line is without text
not_nil : (xs : List ℕ) → xs ++ 10 ∷ [] ≡ [] → ⊥
not_nil [] h = cc
not_nil (x ∷ xs) h = cc

not_line : (words : List Word) → line_of words ≡ [] → ⊥
not_line words h = not_nil (words_text words) h

back_nil : (xs ys : List ℕ) → xs ++ ys ≡ [] → ys ≡ []
back_nil [] ys h = h
back_nil (x ∷ xs) ys h = cc

no_text : (line : Said) → said_text line ≡ [] → ⊥
no_text (opened name None) h = not_line (bare (codes "opened") ∷ bare name ∷ []) h
no_text (opened name (Some key)) h = not_line (bare (codes "opened") ∷ bare name ∷ bare (codes "next") ∷ bare (decimal key) ∷ []) h
no_text (ended n reply) h = not_line (finish_words n (reply_ending reply)) h
no_text (repeated n reply) h = not_line (finish_words n (reply_ending reply)) (back_nil (codes "repeat ") (finished_line n reply) h)
no_text (told (lines.Refused refusal)) h = not_line (bare (codes "no") ∷ bare (refusal_name refusal) ∷ []) h
no_text (told (lines.Unsubmitted fault)) h = not_line (bare (codes "no") ∷ bare (fault_name fault) ∷ []) h
no_text (told (lines.Unkeyed fault)) h = not_line (bare (codes "no") ∷ bare (keyed_name fault) ∷ []) h
no_text (told (lines.Accepted n)) h = not_line (bare (codes "accepted") ∷ bare (decimal n) ∷ []) h
no_text (told (lines.Kept n state)) h = not_line (bare (codes "repeat") ∷ bare (unended_name state) ∷ bare (decimal n) ∷ []) h
no_text (told (lines.Withdrawn n)) h = not_line (bare (codes "cancelled") ∷ bare (decimal n) ∷ []) h
no_text (told (lines.Cancel n answer)) h = not_line (bare (codes "cancel") ∷ bare (decimal n) ∷ bare (cancel_name answer) ∷ []) h
no_text (told lines.Bye) h = not_line (bare (codes "bye") ∷ []) h

front_nil : (xs ys : List ℕ) → xs ++ ys ≡ [] → xs ≡ []
front_nil [] ys h = refl
front_nil (x ∷ xs) ys h = cc

no_lines : (kept : List Said) → lines_text kept ≡ [] → kept ≡ []
no_lines [] h = refl
no_lines (line ∷ kept) h = absurd (no_text line (front_nil (said_text line) (lines_text kept) h))

-- where nothing is held back, and no call is open, all was said
all_said : (start now : Option (List ℕ)) (held : List ℕ) (notes : List ReplyNote) (at : SessionStage) → held ≡ [] → IsShut at → IsWhole start now held notes at → IsSaid start now Fine notes
all_said start now held notes at empty shut (sent, kept, noted, leads, bytes, are) =
    let none = no_lines kept (sym are ∙ empty) in (
      sent,
      sym (append-nil (notes_of sent)) ∙ ap (λ w. notes_of sent ++ notes_of w) (sym none) ∙ noted,
      (at, subst (λ w. IsDialogue Free w at) (ap (λ w. sent ++ w) none ∙ append-nil sent) leads, shut),
      bytes,
    )

-- what is written is a front of a dialogue, in any case
take_all : {A : Type 0} (xs : List A) → take (length xs) xs ≡ xs
take_all [] = refl
take_all (x ∷ xs) = ap (λ w. x ∷ w) (take_all xs)

pub whole_front : (start now : Option (List ℕ)) (held : List ℕ) (notes : List ReplyNote) (at : SessionStage) → IsWhole start now held notes at → IsFront start now
whole_front start now held notes at (sent, kept, noted, leads, bytes, are) =
    (sent, length (lines_text sent), so_far sent kept (at, leads), subst (Appends start now) (sym (take_all (lines_text sent))) bytes)

cut_front : (start now : Option (List ℕ)) (notes : List ReplyNote) → IsCut start now notes → IsFront start now
cut_front start now notes (sent, last, lost, count, noted, leads, bytes) = (
  sent ++ last ∷ [],
  length (lines_text sent) + count,
  with_last sent last lost leads,
  subst (Appends start now)
      (sym (take-append-add (lines_text sent) (said_text last) count) ∙ ap (take (length (lines_text sent) + count)) (sym (at_end said_text sent last)))
      bytes,
)

pub said_front : (start now : Option (List ℕ)) (health : Health) (notes : List ReplyNote) → IsSaid start now health notes → IsFront start now
said_front start now Fine notes (sent, noted, (at, leads, shut), bytes) = (sent, length (lines_text sent), (at, leads), subst (Appends start now) (sym (take_all (lines_text sent))) bytes)
said_front start now NoMemory notes (held, at, is) = whole_front start now held notes at is
said_front start now Mixed notes is = is
said_front start now Broken notes is = cut_front start now notes is

-- where all was said, nothing is missing
pub said_whole : (start now : Option (List ℕ)) (notes : List ReplyNote) → IsSaid start now Fine notes → IsSaid start now NoMemory notes
said_whole start now notes (sent, noted, (at, leads, shut), bytes) =
    ([], at, (sent, [], append-nil (notes_of sent) ∙ noted, subst (λ w. IsDialogue Free w at) (sym (append-nil sent)) leads, bytes, refl))

refused_line : (refusal : LineRefusal) → (q : Option Request) × MayAnswer q (told (lines.Refused refusal))
refused_line refusals.BadLine = (None, tt)
refused_line refusals.LineTooLong = (None, tt)
refused_line refusals.NotOpen = (Some (cancels 0), tt)
refused_line refusals.Opened = (Some (opens [] None), tt)
refused_line refusals.NoObject = (Some (opens [] None), tt)
refused_line refusals.InUse = (Some (opens [] (Some [])), tt)
refused_line refusals.Full = (Some (opens [] None), tt)
refused_line refusals.Gone = (Some (calls None [] []), tt)

-- a note is of one of these receipts
abbrev IsNoted : List Told → ReplyNote → Type 0
IsNoted [] note = ⊥
IsNoted (r ∷ receipts) note = IsNoteOf r note ⊎ IsNoted receipts note

abbrev AreNoted : List Told → List ReplyNote → Type 0
AreNoted receipts notes = Every (IsNoted receipts) notes

wider : (r : Told) (receipts : List Told) (notes : List ReplyNote) → AreNoted receipts notes → AreNoted (r ∷ receipts) notes
wider r receipts [] h = tt
wider r receipts (note ∷ notes) h = (inr h.0, wider r receipts notes h.1)

first_noted : (receipts : List Told) (notes : List ReplyNote) → AreFirst receipts notes → AreNoted receipts notes
first_noted [] [] h = tt
first_noted (r ∷ receipts) [] h = tt
first_noted [] (note ∷ notes) h = absurd h
first_noted (r ∷ receipts) (note ∷ notes) h = (inl h.0, wider r receipts notes (first_noted receipts notes h.1))

all_first : (receipts : List Told) (notes : List ReplyNote) → AreAll receipts notes → AreFirst receipts notes
all_first [] [] h = tt
all_first (r ∷ receipts) [] h = absurd h
all_first [] (note ∷ notes) h = absurd h
all_first (r ∷ receipts) (note ∷ notes) h = (h.0, all_first receipts notes h.1)

-- the first ones of the first ones
fewer_first : (receipts : List Told) (notes more : List ReplyNote) → AreFirst receipts (notes ++ more) → AreFirst receipts notes
fewer_first [] [] more h = tt
fewer_first (r ∷ receipts) [] more h = tt
fewer_first [] (note ∷ notes) more h = absurd h
fewer_first (r ∷ receipts) (note ∷ notes) more h = (h.0, fewer_first receipts notes more h.1)

told_by : (receipts : List Told) (n : ℕ) (r : Reply) → IsNoted receipts (note_at n r) → IsTold receipts n r
told_by [] n r h = h
told_by (x ∷ receipts) n r (inl h) = inl h
told_by (x ∷ receipts) n r (inr h) = inr (told_by receipts n r h)

-- a line whose notes are of receipts is of the session
line_of_session : (receipts : List Told) (line : Said) → AreNoted receipts (note_of line) → IsOfSession receipts line
line_of_session receipts (opened name None) h = inl (Some (opens name None), refl)
line_of_session receipts (opened name (Some key)) h = inl (Some (opens name (Some [])), refl)
line_of_session receipts (ended n r) h = inr (n, r, refl, told_by receipts n r h.0)
line_of_session receipts (repeated n r) h = inl (Some (calls (Some 0) [] []), tt)
line_of_session receipts (told (lines.Refused refusal)) h = inl (refused_line refusal)
line_of_session receipts (told (lines.Unsubmitted fault)) h = inl (Some (calls None [] []), tt)
line_of_session receipts (told (lines.Unkeyed fault)) h = inl (Some (calls (Some 0) [] []), tt)
line_of_session receipts (told (lines.Accepted n)) h = inl (Some (calls None [] []), tt)
line_of_session receipts (told (lines.Kept n state)) h = inl (Some (calls (Some 0) [] []), tt)
line_of_session receipts (told (lines.Withdrawn n)) h = inl (Some (calls None [] []), tt)
line_of_session receipts (told (lines.Cancel n answer)) h = inl (Some (cancels n), refl)
line_of_session receipts (told lines.Bye) h = inl (Some quits, tt)

noted_parts : (receipts : List Told) (xs ys : List ReplyNote) → AreNoted receipts (xs ++ ys) → AreNoted receipts xs × AreNoted receipts ys
noted_parts receipts [] ys h = (tt, h)
noted_parts receipts (x ∷ xs) ys h = let r = noted_parts receipts xs ys h.1 in ((h.0, r.0), r.1)

lines_of_session : (receipts : List Told) (said : List Said) → AreNoted receipts (notes_of said) → AreOfSession receipts said
lines_of_session receipts [] h = tt
lines_of_session receipts (line ∷ said) h =
    let r = noted_parts receipts (note_of line) (notes_of said) h in
    (line_of_session receipts line r.0, lines_of_session receipts said r.1)

first_of_session : (receipts : List Told) (said : List Said) → AreFirst receipts (notes_of said) → AreOfSession receipts said
first_of_session receipts said h = lines_of_session receipts said (first_noted receipts (notes_of said) h)

wrote_all : (start now : Option (List ℕ)) (notes : List ReplyNote) (receipts : List Told) → IsSaid start now Fine notes → AreAll receipts notes → WroteAll start now receipts
wrote_all start now notes receipts (sent, noted, whole, bytes) h =
    let all = subst (AreAll receipts) (sym noted) h in
    (sent, whole, all, first_of_session receipts sent (all_first receipts (notes_of sent) all), bytes)

wrote_lines : (start now : Option (List ℕ)) (held : List ℕ) (notes : List ReplyNote) (at : SessionStage) (receipts : List Told) → IsWhole start now held notes at → AreFirst receipts notes → WroteLines start now receipts
wrote_lines start now held notes at receipts (sent, kept, noted, leads, bytes, are) h =
    let first = fewer_first receipts (notes_of sent) (notes_of kept) (subst (AreFirst receipts) (sym noted) h) in
    (sent, so_far sent kept (at, leads), first, first_of_session receipts sent first, bytes)

wrote_front : (start now : Option (List ℕ)) (notes : List ReplyNote) (receipts : List Told) → IsCut start now notes → AreFirst receipts notes → WroteFront start now receipts
wrote_front start now notes receipts (sent, last, lost, count, noted, leads, bytes) h =
    let all = subst (AreFirst receipts) (sym noted ∙ sym (append_assoc (notes_of sent) (note_of last) (notes_of lost))) h in
    let first = fewer_first receipts (notes_of sent ++ note_of last) (notes_of lost) all in
    let parts = noted_parts receipts (notes_of sent) (note_of last) (first_noted receipts (notes_of sent ++ note_of last) first) in (
      sent,
      last,
      count,
      with_last sent last lost leads,
      subst (AreFirst receipts) (sym (at_end note_of sent last)) first,
      lines_of_session receipts sent parts.0,
      line_of_session receipts last parts.1,
      bytes,
    )

-- all lines were written, and more than is asked for
wrote_more : (start now : Option (List ℕ)) (receipts : List Told) → WroteAll start now receipts → WroteLines start now receipts
wrote_more start now receipts (said, (to, leads, shut), all, of, bytes) = (said, (to, leads), all_first receipts (notes_of said) all, of, bytes)

-- a fault that leaves all lines
whole_fault : (heard : Option HearFault) (start now : Option (List ℕ)) (receipts : List Told) → WroteAll start now receipts → HasWritten start now receipts (heard_fault heard)
whole_fault None start now receipts is = is
whole_fault (Some hears.LineTooLong) start now receipts is = is
whole_fault (Some hears.ReadFault) start now receipts is = is
whole_fault (Some hears.Memory) start now receipts is = wrote_more start now receipts is

-- what was written, by the fault that is told
pub wrote : (accounted : Bool) (health : Health) (heard : Option HearFault) (start now : Option (List ℕ)) (notes : List ReplyNote) (receipts : List Told)
    → (IsTrue accounted → IsAccounted health receipts notes) → IsSaid start now health notes → HasWritten start now receipts (told_fault accounted health heard)
wrote false health heard start now notes receipts h is = said_front start now health notes is
wrote true Mixed heard start now notes receipts h is = is
wrote true Broken heard start now notes receipts h is = wrote_front start now notes receipts is (h refl)
wrote true NoMemory heard start now notes receipts h is = wrote_lines start now is.0 notes is.1 receipts is.2 (h refl)
wrote true Fine heard start now notes receipts h is = whole_fault heard start now receipts (wrote_all start now notes receipts is (h refl))

-- where all is fine, all is whole
whole_at : (start now : Option (List ℕ)) (held : List ℕ) (health : Health) (notes : List ReplyNote) (at : SessionStage) → health ≡ Fine → IsWritten start now held health notes at → IsWhole start now held notes at
whole_at start now held health notes at fine is = subst (λ h. IsWritten start now held h notes at) fine is

-- and where all is whole, all may be fine
still_fine : (start now : Option (List ℕ)) (held : List ℕ) (health : Health) (notes : List ReplyNote) (at : SessionStage) → health ≡ Fine → IsWhole start now held notes at → IsWritten start now held health notes at
still_fine start now held health notes at fine is = subst (λ h. IsWritten start now held h notes at) (sym fine) is

-- lines were taken from those held back elsewhere
pub was_taken : (start now : Option (List ℕ)) (none held left to : List ℕ) (notes marks fewer more : List ReplyNote) (first at here : SessionStage) (health : Health) (went : Bool) → none ≡ [] → health ≡ Fine → first ≡ at → went ≡ true
    → IsWritten start now none health notes at → IsHeld held marks first here → HandsOver held left marks fewer to notes more went → IsWritten start now to health more here
was_taken start now none held left to notes marks fewer more first at here health false empty fine same so is are hands = cc
was_taken start now none held left to notes marks fewer more first at here health true empty fine same so is are (moved, gone, grown, spent) =
    still_fine start now to health more here fine
    (subst (λ w. IsWhole start now w more here) (sym moved) (more_held start now none held notes marks more first at here empty (whole_at start now none health notes at fine is) are same grown))

-- or could not be
pub was_left : (start now : Option (List ℕ)) (none held left to : List ℕ) (notes marks fewer more : List ReplyNote) (at : SessionStage) (health : Health) (went : Bool) → none ≡ [] → health ≡ Fine → went ≡ false
    → IsWritten start now none health notes at → HandsOver held left marks fewer to notes more went → IsWhole start now to more at
was_left start now none held left to notes marks fewer more at health true empty fine so is hands = cc
was_left start now none held left to notes marks fewer more at health false empty fine so is (moved, stays, same, kept) =
    subst (λ w. IsWhole start now w more at) (empty ∙ sym moved) (subst (λ w. IsWhole start now none w at) (sym same) (whole_at start now none health notes at fine is))

-- or do not go on there
pub was_mixed : (start now : Option (List ℕ)) (held : List ℕ) (health : Health) (notes : List ReplyNote) (at : SessionStage) → health ≡ Fine → IsWritten start now held health notes at → IsFront start now
was_mixed start now held health notes at fine is = whole_front start now held notes at (whole_at start now held health notes at fine is)

-- where nothing has stopped, all is whole
unstopped : (start now : Option (List ℕ)) (held : List ℕ) (health : Health) (notes : List ReplyNote) (at : SessionStage) → (IsStopped health → ⊥) → IsWritten start now held health notes at → IsWhole start now held notes at
unstopped start now held Fine notes at never is = is
unstopped start now held NoMemory notes at never is = is
unstopped start now held Mixed notes at never is = absurd (never tt)
unstopped start now held Broken notes at never is = absurd (never tt)

-- and where all is whole, nothing has stopped
still_unstopped : (start now : Option (List ℕ)) (held : List ℕ) (health : Health) (notes : List ReplyNote) (at : SessionStage) → (IsStopped health → ⊥) → IsWhole start now held notes at → IsWritten start now held health notes at
still_unstopped start now held Fine notes at never is = is
still_unstopped start now held NoMemory notes at never is = is
still_unstopped start now held Mixed notes at never is = absurd (never tt)
still_unstopped start now held Broken notes at never is = absurd (never tt)

pub not_so : {A : Type 0} (b : Bool) → b ≡ false → (A → b ≡ true) → A → ⊥
not_so b no_it_is so a = let h = so a in cc

-- what is held back is sent, where nothing has stopped
pub was_sent : (start old new : Option (List ℕ)) (held left : List ℕ) (notes : List ReplyNote) (at : SessionStage) (health : Health) (stopped gone : Bool) → (IsStopped health → stopped ≡ true) → stopped ≡ false → gone ≡ true
    → IsWritten start old held health notes at → Sends old new held left gone → IsWritten start new left health notes at
was_sent start old new held left notes at health stopped gone tells goes is_gone is sends =
    let never = not_so stopped goes tells in
    still_unstopped start new left health notes at never (all_sent start old new held left notes at (unstopped start old held health notes at never is) (subst (Sends old new held left) is_gone sends))

-- and where that fails, a front of it is
pub was_cut : (start old new : Option (List ℕ)) (held left : List ℕ) (notes : List ReplyNote) (at : SessionStage) (health : Health) (stopped gone : Bool) → (held ≡ [] → ⊥) → (IsStopped health → stopped ≡ true) → stopped ≡ false
    → gone ≡ false → IsWritten start old held health notes at → Sends old new held left gone → IsCut start new notes
was_cut start old new held left notes at health stopped gone some tells goes not_gone is sends =
    some_sent start old new held left notes at some (unstopped start old held health notes at (not_so stopped goes tells) is) (subst (Sends old new held left) not_gone sends)

-- how all went when no more is said: lines were not sent
pub last_lost : (start now : Option (List ℕ)) (held : List ℕ) (health : Health) (notes : List ReplyNote) (at : SessionStage) → health ≡ Fine → (held ≡ [] → ⊥) → IsWritten start now held health notes at → IsSaid start now Broken notes
last_lost start now held health notes at fine some is = none_sent start now held notes at some (whole_at start now held health notes at fine is)

-- or all were
pub last_fine : (start now : Option (List ℕ)) (held : List ℕ) (health : Health) (notes : List ReplyNote) (at : SessionStage) → health ≡ Fine → held ≡ [] → IsShut at → IsWritten start now held health notes at → IsSaid start now Fine notes
last_fine start now held health notes at fine none shut is = all_said start now held notes at none shut (whole_at start now held health notes at fine is)

-- or there was no memory for some
pub last_short : (start now : Option (List ℕ)) (held : List ℕ) (health : Health) (notes : List ReplyNote) (at : SessionStage) → health ≡ NoMemory → IsWritten start now held health notes at → IsSaid start now NoMemory notes
last_short start now held health notes at short is = (held, at, subst (λ h. IsWritten start now held h notes at) short is)

-- all is as it was, but that a line was lost for which there was no memory
pub was_lost : (start now : Option (List ℕ)) (held : List ℕ) (health : Health) (notes : List ReplyNote) (at : SessionStage) → health ≡ Fine → IsWritten start now held health notes at → IsWritten start now held NoMemory notes at
was_lost start now held health notes at fine is = subst (λ h. IsWritten start now held h notes at) fine is

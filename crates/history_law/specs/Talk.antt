-- A talk: the lines that a connection said and the texts that it was told, in one order.
use Rattle.std.specs.Prelude.{◌≡◌, ◌⊎◌, ℕ, Bool, true, false, ◌==◌, if◌then◌else◌, List, [], ◌∷◌, ◌++◌, Option, Some, None, slice_get}
use Rattle.std.specs.Global.{Vec}
use Rattle.std.specs.Str.Lines.{strip_carriage_return}
use Rattle.value_core.specs.declared.datum.Datum.{Datum}
use Rattle.decl_core.specs.ObjectForm.{ObjectForm}
use Rattle.decl_core.specs.ObjectMap.{object_of}
use Rattle.apply_core.specs.declared.reply.Reply.{Reply}
use Rattle.apply_core.specs.History.{End}
use Rattle.word_core.specs.Reads.{Reads}
use Rattle.word_core.specs.Events.{Called, end_of}
use Rattle.word_core.specs.Text.{operation_name}
use Rattle.word_core.specs.Answers.{cancelled_line}
use Rattle.guest_core.specs.declared.answer.Cancelled.{Cancelled}
use Rattle.guest_core.specs.declared.answer.SubmitFault.TheVariants as faults
use Rattle.session_text.specs.declared.line.ReplyLine.TheVariants as lines
use Rattle.session_text.specs.declared.line.LineRefusal.TheVariants as refusals
use Rattle.session_text.specs.Lines.{accepted_text, bye_text, cancel_name, ended_text, line_text, withdrawn_text}
use Rattle.live_core.specs.Scene.{Scene}
use Rattle.keep_loop.specs.declared.served.LineEnd.{LineEnd}
use Rattle.keep_loop.specs.declared.served.LineEnd.TheVariants as ends
use Rattle.client_core.specs.declared.ask.Ask.TheVariants as asks
use Rattle.client_core.specs.declared.ask.Sight.{Sight}
use Rattle.client_core.specs.Asks.{Asks}
use Rattle.client_core.specs.Inside.{inside_in}
use Rattle.client_core.specs.Numbers.{cancel_in}
use Rattle.client_core.specs.Refusals.{IsRefusalText}
use Rattle.client_core.specs.Deeds.{Texts}

-- a line as it is done, without a CR at its end, and whether an LF stood behind it
pub record Line : Type 0 where
  pub text : List ℕ
  pub is_whole : Bool

-- a call that a line asked for, with the number by which it was accepted
pub record Wanted : Type 0 where
  pub line : List ℕ
  pub key : Option ℕ
  pub name : List ℕ
  pub arguments : Vec Datum
  pub number : ℕ

-- Where a talk stands: the connection is not there; or it is, a call of it waits or none does, and these of its lines are not
-- done yet, in their order.
pub data Talk : Type 0 where
  Away : Talk
  Here : (waits : Option Wanted) → (held : List Line) → Talk

-- What happens in a talk: the connection comes; a line of it is heard; one is heard that is answered at once, by this text; the
-- first line that is not done is answered by this text; or its call is accepted; a call that waits has ended at the object at
-- this place, or is cancelled; the first line that is not done is a `quit`; and the connection leaves.
pub data Part : Type 0 where
  Comes : Part
  Hears : (line : List ℕ) → (end : LineEnd) → Part
  Between : (line : List ℕ) → (end : LineEnd) → (text : List ℕ) → Part
  Answers : (line : Line) → (text : List ℕ) → Part
  Accepts : (wanted : Wanted) → Part
  Ends : (object : ℕ) → (wanted : Wanted) → (call : Called) → (reply : Reply) → Part
  Withdraws : (wanted : Wanted) → Part
  Quits : (line : Line) → Part
  Leaves : Part

-- a line, as it is to be done
abbrev pub last_line : List ℕ → List Line
last_line [] = []
last_line (b ∷ line) = record { text = b ∷ line; is_whole = false } ∷ []

-- what of a line is to be done: none of one that is empty and had no LF, and none of one that is too long
abbrev pub line_by : List ℕ → LineEnd → List Line
line_by line ends.Feed = record { text = strip_carriage_return line; is_whole = true } ∷ []
line_by line ends.Input = last_line (strip_carriage_return line)
line_by line ends.TooLong = []

-- a text is not the last line of a call
abbrev pub IsNoEnd : List ℕ → Type 0
IsNoEnd text = (number : ℕ) (reply : Reply) → text ≡ ended_text number reply → ⊥

-- a text answers a `cancel` of this number
abbrev pub AnswersCancel : ℕ → List ℕ → Type 0
AnswersCancel told text =
    ((answer : Cancelled) × (text ≡ cancelled_line told (cancel_name answer))) ⊎ IsRefusalText text

-- a text tells that memory was refused
abbrev pub no_memory : List ℕ
no_memory = line_text (lines.Unsubmitted faults.Memory)

-- what is answered at once, where a call waits or lines are not done: a `cancel`, what asks to see something, and a line for
-- which there is no memory; and one that is too long, at any time
abbrev pub IsAtOnce : List ℕ → LineEnd → List ℕ → Type 0
IsAtOnce line ends.Feed text =
    ((told : ℕ) × Reads cancel_in (λ n. n) (strip_carriage_return line) (Some told) × AnswersCancel told text)
    ⊎ (((sight : Sight) × Reads inside_in (λ i. i) (strip_carriage_return line) (Some sight)) ⊎ (text ≡ no_memory))
IsAtOnce line ends.Input text = text ≡ no_memory
IsAtOnce line ends.TooLong text = text ≡ line_text (lines.Refused refusals.LineTooLong)

-- no call waits, and each line is done
abbrev pub IsIdle : LineEnd → Option Wanted → List Line → Type 0
IsIdle ends.Feed waits held = (waits ≡ None) × (held ≡ [])
IsIdle ends.Input waits held = (waits ≡ None) × (held ≡ [])
IsIdle ends.TooLong waits held = ⊥

-- One thing after the other: lines are done in the order in which they came, each once; the call of one has ended before the next
-- one is done; and only what is answered at once comes before that. Where one leaves whose call waits, it is told nothing more.
abbrev pub Follows : Part → Talk → Talk → Type 0
Follows Comes Away new = new ≡ Here None []
Follows (Hears line end) Away new = new ≡ Away
Follows (Hears line end) (Here waits held) new = (end ≡ ends.TooLong → ⊥) × (new ≡ Here waits (held ++ line_by line end))
Follows (Between line end text) (Here waits held) new = IsAtOnce line end text × IsNoEnd text × (IsIdle end waits held → ⊥) × (new ≡ Here waits held)
Follows (Answers line text) (Here None (first ∷ held)) new = (first ≡ line) × IsNoEnd text × (new ≡ Here None held)
Follows (Accepts w) (Here None (first ∷ held)) new =
    (first ≡ record { text = w.line; is_whole = true }) × Asks true true w.line (asks.Call w.key w.name w.arguments) × (new ≡ Here (Some w) held)
Follows (Ends object w call reply) (Here (Some waits) held) new = (waits ≡ w) × (new ≡ Here None held)
Follows (Withdraws w) (Here (Some waits) held) new = (waits ≡ w) × (new ≡ Here None held)
Follows (Quits line) (Here None (first ∷ held)) new = (first ≡ line) × ((opened : Bool) × Asks opened line.is_whole line.text asks.Quit) × (new ≡ Away)
Follows Leaves (Here None []) new = new ≡ Away
Follows Leaves (Here (Some waits) held) new = new ≡ Away
Follows part old new = ⊥

-- these parts, one after the other, lead from old to new
abbrev pub Course : List Part → Talk → Talk → Type 0
Course [] old new = new ≡ old
Course (p ∷ parts) old new = (mid : Talk) × Follows p old mid × Course parts mid new

-- the lines that were said in parts, as they were heard
abbrev pub line_in : Part → List (List ℕ × LineEnd)
line_in Comes = []
line_in (Hears line end) = (line, end) ∷ []
line_in (Between line end text) = (line, end) ∷ []
line_in (Answers line text) = []
line_in (Accepts w) = []
line_in (Ends object w call reply) = []
line_in (Withdraws w) = []
line_in (Quits line) = []
line_in Leaves = []

abbrev pub lines_of : List Part → List (List ℕ × LineEnd)
lines_of [] = []
lines_of (p ∷ parts) = line_in p ++ lines_of parts

-- the texts that were told in them
abbrev pub text_of_part : Part → List (List ℕ)
text_of_part Comes = []
text_of_part (Hears line end) = []
text_of_part (Between line end text) = text ∷ []
text_of_part (Answers line text) = text ∷ []
text_of_part (Accepts w) = accepted_text w.number ∷ []
text_of_part (Ends object w call reply) = ended_text w.number reply ∷ []
text_of_part (Withdraws w) = withdrawn_text w.number ∷ []
text_of_part (Quits line) = bye_text ∷ []
text_of_part Leaves = []

abbrev pub texts_of : List Part → List (List ℕ)
texts_of [] = []
texts_of (p ∷ parts) = text_of_part p ++ texts_of parts

-- texts, one behind the other
abbrev pub put_together : List (List ℕ) → List ℕ
put_together [] = []
put_together (text ∷ texts) = text ++ put_together texts

-- the ends that were told in them of calls of the object at a place
abbrev pub end_in : ObjectForm → ℕ → Part → List End
end_in o j Comes = []
end_in o j (Hears line end) = []
end_in o j (Between line end text) = []
end_in o j (Answers line text) = []
end_in o j (Accepts w) = []
end_in o j (Ends object w call reply) = if object == j then end_of o call reply ∷ [] else []
end_in o j (Withdraws w) = []
end_in o j (Quits line) = []
end_in o j Leaves = []

abbrev pub ends_of : ObjectForm → ℕ → List Part → List End
ends_of o j [] = []
ends_of o j (p ∷ parts) = end_in o j p ++ ends_of o j parts

-- a call is the one that was wanted: of the operation of this name, with these arguments
pub record IsWanted (objects : List Scene) (at : ℕ) (w : Wanted) (call : Called) : Type 0 where
  pub scene : Scene
  pub there : slice_get objects at ≡ Some scene
  pub named : operation_name (object_of scene.hall.object) call.operation ≡ w.name
  pub arguments_are : call.arguments ≡ w.arguments.items

-- each call that ended is the one for which the line asked that was accepted
abbrev pub IsKept : List Scene → Part → Type 0
IsKept objects Comes = Unit {0}
IsKept objects (Hears line end) = Unit {0}
IsKept objects (Between line end text) = Unit {0}
IsKept objects (Answers line text) = Unit {0}
IsKept objects (Accepts w) = Unit {0}
IsKept objects (Ends object w call reply) = IsWanted objects object w call
IsKept objects (Withdraws w) = Unit {0}
IsKept objects (Quits line) = Unit {0}
IsKept objects Leaves = Unit {0}

abbrev pub AllKept : List Scene → List Part → Type 0
AllKept objects [] = Unit {0}
AllKept objects (p ∷ parts) = IsKept objects p × AllKept objects parts

-- these stand in a list, in their order, each at a place of its own
abbrev pub ArePicked : {X : Type 0} → List X → List X → Type 0
ArePicked [] ys = Unit {0}
ArePicked (x ∷ xs) [] = ⊥
ArePicked (x ∷ xs) (y ∷ ys) = ((x ≡ y) × ArePicked xs ys) ⊎ ArePicked (x ∷ xs) ys

-- what of a list of texts is told to a connection, one after the other
abbrev pub texts_to : ℕ → Texts → List (List ℕ)
texts_to c [] = []
texts_to c (s ∷ said) = (if s.0 == c then s.1 ∷ [] else []) ++ texts_to c said

-- Held calls, as the words of their lines tell them.
use Rattle.std.specs.Prelude.{◌≡◌, ℕ, Bool, true, false, List, [], ◌∷◌, ◌++◌, Option, Some, MatchOption, codes, map}
use Rattle.std.specs.Borrow.{Bor}
use Rattle.value_core.specs.declared.datum.Datum.{Datum}
use Rattle.value_core.specs.Datum.{IsDatum, elem_of}
use Rattle.decl_core.specs.ObjectForm.{ObjectForm}
use Rattle.word_core.specs.declared.word.Word as declared
use Rattle.word_core.specs.View.{words_of}
use Rattle.word_core.specs.Words.{Word, words_text}
use Rattle.word_core.specs.Data.{◌>>=◌, bare_of}
use Rattle.word_core.specs.Events.{body_at}
use Rattle.live_core.specs.Front.{Every}
use Rattle.front_read.specs.Calls.{operation_in}
use Rattle.front_read.specs.Rows.{row_words}
use Rattle.front_read.specs.Words.{behind_verb, long_first, session_first}
use Rattle.decl_core.specs.HoldForm.{HoldForm, reply_sorts}
use Rattle.guest_core.specs.Held.{HeldCall, hold_of_op}
use Rattle.front_read.specs.HeldLines.{held_words, IsHeldLine}

-- `held sK N OP`, and the words behind it
abbrev pub held_head : List Word → Option (ℕ × ℕ × List ℕ × List Word)
held_head words =
    behind_verb (codes "held") words >>= λ a. session_first a >>= λ b. long_first b.1 >>= λ c. bare_of c.1
    >>= λ d. Some (b.0, c.0, d.0, d.1)

abbrev pub head_view : ℕ × ℕ × Bor (List ℕ) × Bor (List declared.Word) → ℕ × ℕ × List ℕ × List Word
head_view found = (found.0, found.1, found.2.now, words_of found.3.now)

-- an operation is held with this: with what it takes, and behind that what it replies
abbrev pub IsHeldBy : ObjectForm → ℕ → List Datum → Type 0
IsHeldBy o op values = map elem_of values ≡ (body_at o op).params ++ reply_sorts (body_at o op).result

-- the hold of the operation of a name was found, where that is held with this
abbrev pub FindsRule : ObjectForm → List HoldForm → List ℕ → List Datum → Option ℕ → Type 0
FindsRule o holds name values found = MatchOption found
    ((op r : ℕ) → operation_in o name ≡ Some op → hold_of_op holds op ≡ Some r → IsHeldBy o op values → ⊥)
    (λ r. (op : ℕ) × (operation_in o name ≡ Some op) × (hold_of_op holds op ≡ Some r) × IsHeldBy o op values)

-- a line, without its end, tells a call that is held
pub record Tells (o : ObjectForm) (holds : List HoldForm) (line : List ℕ) (h : HeldCall) : Type 0 where
  pub is : IsHeldLine o holds h
  pub told : line ≡ words_text (row_words (codes "held") (held_words o holds) h)

-- the call that a line tells was taken behind others; where it tells none, nothing changes
abbrev pub TakesHeld : ObjectForm → List HoldForm → List ℕ → List HeldCall → Bool → List HeldCall → Type 0
TakesHeld o holds line old true new = (h : HeldCall) × Tells o holds line h × (new ≡ old ++ h ∷ [])
TakesHeld o holds line old false new = ((h : HeldCall) → Tells o holds line h → ⊥) × (new ≡ old)

-- the same, for a call that is read already: there is no other one
abbrev pub TakesSo : ObjectForm → List HoldForm → List ℕ → HeldCall → List HeldCall → Bool → List HeldCall → Type 0
TakesSo o holds line h old true new =
    (line ≡ words_text (row_words (codes "held") (held_words o holds) h)) × (new ≡ old ++ h ∷ [])
TakesSo o holds line h old false new =
    (line ≡ words_text (row_words (codes "held") (held_words o holds) h) → ⊥) × (new ≡ old)

-- a call with this session and number
abbrev pub held_so : ℕ → ℕ → ℕ → List Datum → HeldCall
held_so session number rule values =
    record { number = number; session = session; rule = rule; values = values }

-- the same, for the call of an operation of this name
abbrev pub TakesBy : ObjectForm → List HoldForm → List ℕ → ℕ → ℕ → List ℕ → List Datum → List HeldCall → Bool →
    List HeldCall → Type 0
TakesBy o holds line session number name values old true new =
    (op : ℕ) × (r : ℕ) × (operation_in o name ≡ Some op) × (hold_of_op holds op ≡ Some r) × IsHeldBy o op values
    × Every IsDatum values
    × (line ≡ words_text (row_words (codes "held") (held_words o holds) (held_so session number r values)))
    × (new ≡ old ++ held_so session number r values ∷ [])
TakesBy o holds line session number name values old false new =
    ((op r : ℕ) → operation_in o name ≡ Some op → hold_of_op holds op ≡ Some r → IsHeldBy o op values →
    line ≡ words_text (row_words (codes "held") (held_words o holds) (held_so session number r values)) → ⊥)
    × (new ≡ old)

-- a line that says what is held, and what its words say
pub record HeldLine : Type 0 where
  pub line : List ℕ
  pub session : ℕ
  pub number : ℕ
  pub name : List ℕ
  pub values : List Datum

-- the same, by such a line
abbrev pub TakesLine : ObjectForm → List HoldForm → HeldLine → List HeldCall → Bool → List HeldCall → Type 0
TakesLine o holds l old taken new = TakesBy o holds l.line l.session l.number l.name l.values old taken new

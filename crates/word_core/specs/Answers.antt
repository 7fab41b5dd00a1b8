-- The lines that answer the lines of a script.
use Rattle.std.specs.Prelude.{ℕ, Bool, true, false, List, [], ◌∷◌, ◌++◌, codes, decimal}
use Rattle.value_core.specs.Contents.{Contents}
use Rattle.value_core.specs.declared.kind.Kind.{Kind}
use Rattle.apply_core.specs.declared.reply.Reply.{Reply}
use Rattle.apply_core.specs.declared.need.Need.{Need}
use Rattle.apply_core.specs.declared.need.Need.TheVariants.{Read, Create, Append, Seal, Done}
use Rattle.word_core.specs.Words.{bare, line_of}
use Rattle.word_core.specs.Data.{session_word}
use Rattle.word_core.specs.Ending.{finish_words}
use Rattle.word_core.specs.Show.{value_text}
use Rattle.word_core.specs.Text.{reply_ending}

-- `call N`
abbrev pub called_line : ℕ → List ℕ
called_line number = line_of (bare (codes "call") ∷ bare (decimal number) ∷ [])

-- `no FAULT`
abbrev pub refused_line : List ℕ → List ℕ
refused_line fault = line_of (bare (codes "no") ∷ bare fault ∷ [])

-- the word of a device call that is due; with `done` none is
abbrev pub need_word : Need → List ℕ
need_word Read = codes "read"
need_word Create = codes "create"
need_word Append = codes "append"
need_word Seal = codes "seal"
need_word Done = codes "done"

-- how a step went
abbrev pub went_word : Bool → List ℕ
went_word true = codes "ok"
went_word false = codes "failed"

-- `step N NEED ok` or `step N NEED failed`
abbrev pub stepped_line : ℕ → Need → Bool → List ℕ
stepped_line number need went =
    line_of (bare (codes "step") ∷ bare (decimal number) ∷ bare (need_word need) ∷ bare (went_word went) ∷ [])

-- `steps N K`
abbrev pub all_stepped_line : ℕ → ℕ → List ℕ
all_stepped_line number count = line_of (bare (codes "steps") ∷ bare (decimal number) ∷ bare (decimal count) ∷ [])

-- `done N`, `done N VALUE`, `refused N WORD` or `failed N WORD`
abbrev pub finished_line : ℕ → Reply → List ℕ
finished_line number reply = line_of (finish_words number (reply_ending reply))

-- `cancel N ANSWER`
abbrev pub cancelled_line : ℕ → List ℕ → List ℕ
cancelled_line number answer = line_of (bare (codes "cancel") ∷ bare (decimal number) ∷ bare answer ∷ [])

-- `drop sK`
abbrev pub dropped_line : ℕ → List ℕ
dropped_line session = line_of (bare (codes "drop") ∷ session_word session ∷ [])

-- `resume sK`
abbrev pub resumed_line : ℕ → List ℕ
resumed_line session = line_of (bare (codes "resume") ∷ session_word session ∷ [])

-- `repeat STATE N`: the call that was made before waits, runs or was cancelled
abbrev pub kept_line : List ℕ → ℕ → List ℕ
kept_line state number = line_of (bare (codes "repeat") ∷ bare state ∷ bare (decimal number) ∷ [])

-- `repeat ` and how it finished
abbrev pub repeated_line : ℕ → Reply → List ℕ
repeated_line number reply = codes "repeat " ++ finished_line number reply

-- `started N`
abbrev pub started_line : ℕ → List ℕ
started_line number = line_of (bare (codes "started") ∷ bare (decimal number) ∷ [])

-- `bad line K`
abbrev pub bad_line : ℕ → List ℕ
bad_line line = line_of (bare (codes "bad") ∷ bare (codes "line") ∷ bare (decimal line) ∷ [])

-- `NAME = VALUE`
abbrev pub shown_line : List ℕ → Contents → List ℕ
shown_line name value = name ++ codes " = " ++ value_text value ++ codes "\n"

-- each part that has a value, in order of declaration
abbrev pub shown_lines : List (List ℕ × Kind) → List Contents → List ℕ
shown_lines [] values = []
shown_lines (part ∷ parts) [] = []
shown_lines (part ∷ parts) (value ∷ values) = shown_line part.0 value ++ shown_lines parts values

-- The text of a trace.
use Rattle.std.specs.Prelude.{ℕ, List, [], ◌∷◌, ◌++◌, map, codes, decimal, slice_index_or}
use Rattle.std.specs.List.{flat_map}
use Rattle.hex.specs.Hex.{encode_lower}
use Rattle.value_core.specs.Contents.{Contents}
use Rattle.value_bytes.specs.Spelling.{spelling}
use Rattle.value_core.specs.declared.kind.Kind.{Kind}
use Rattle.decl_core.specs.ObjectForm.{ObjectForm}
use Rattle.apply_core.specs.declared.reply.Failure.{Failure}
use Rattle.apply_core.specs.declared.reply.Failure.TheVariants.{Device, Memory, Damaged}
use Rattle.apply_core.specs.declared.reply.Reply.{Reply}
use Rattle.apply_core.specs.declared.reply.Reply.TheVariants.{Done, Refused, Failed}
use Rattle.word_core.specs.Words.{Word, bare, line_of}
use Rattle.word_core.specs.Data.{datum_word, session_word}
use Rattle.word_core.specs.Ending.{Ending, done, refused, failed, ending_words}
use Rattle.word_core.specs.Events.{Called, Happened, began, ended}

-- the word of a failure
abbrev pub failure_word : Failure → List ℕ
failure_word Device = codes "device"
failure_word Memory = codes "memory"
failure_word Damaged = codes "damaged"

-- how a call ended that replied so
abbrev pub reply_ending : Reply → Ending
reply_ending (Done result) = done result
reply_ending (Refused word) = refused word
reply_ending (Failed failure) = failed (failure_word failure)

-- `done`, `done VALUE`, `refused WORD` or `failed WORD`
abbrev pub reply_words : Reply → List Word
reply_words reply = ending_words (reply_ending reply)

-- `object NAME`
abbrev pub object_words : List ℕ → List Word
object_words name = bare (codes "object") ∷ bare name ∷ []

-- `part NAME HEX`: the bytes of the opening value in lower-case hexadecimal
abbrev pub part_words : List ℕ → Contents → List Word
part_words name value = bare (codes "part") ∷ bare name ∷ bare (encode_lower (spelling value)) ∷ []

-- the name of the operation at a place of the object
abbrev pub operation_name : ObjectForm → ℕ → List ℕ
operation_name o place = slice_index_or (map (λ f. f.name) o.operations) place []

-- `start N sK OP ARG ..`
abbrev pub start_words : ObjectForm → Called → List Word
start_words o c =
    bare (codes "start") ∷ bare (decimal c.number) ∷ session_word c.session ∷ bare (operation_name o c.operation)
    ∷ map datum_word c.arguments

-- `end N`, and how the call ended
abbrev pub end_words : ℕ → Reply → List Word
end_words number reply = bare (codes "end") ∷ bare (decimal number) ∷ reply_words reply

-- what a line behind the parts tells: a call started, or the call of a number ended with this reply
pub data TraceLine : Type 0 where
  call_started : Called → TraceLine
  call_ended : ℕ → Reply → TraceLine

abbrev pub event_words : ObjectForm → TraceLine → List Word
event_words o (call_started c) = start_words o c
event_words o (call_ended number reply) = end_words number reply

-- the words of the lines of the parts, in order of declaration
abbrev pub parts_words : List (List ℕ × Kind) → List Contents → List (List Word)
parts_words [] opening = []
parts_words (part ∷ parts) [] = []
parts_words (part ∷ parts) (value ∷ opening) = part_words part.0 value ∷ parts_words parts opening

-- the words of each line before the first event
abbrev pub front_words : ObjectForm → List Contents → List (List Word)
front_words o opening = object_words o.name ∷ parts_words o.parts opening

-- lines of these words, one after the other
abbrev pub lines_of : List (List Word) → List ℕ
lines_of all = flat_map line_of all

-- the words of each line of a trace of an object, with its opening contents and what happened, the oldest first
abbrev pub trace_words : ObjectForm → List Contents → List TraceLine → List (List Word)
trace_words o opening events = front_words o opening ++ map (event_words o) events

-- the text of a trace
abbrev pub trace_text : ObjectForm → List Contents → List TraceLine → List ℕ
trace_text o opening events = lines_of (trace_words o opening events)

-- what happened (the newest first), as the lines tell it (the oldest first)
abbrev pub told_of : List Happened → List TraceLine
told_of [] = []
told_of (began c ∷ past) = told_of past ++ call_started c ∷ []
told_of (ended c reply ∷ past) = told_of past ++ call_ended c.number reply ∷ []

-- What a line of a trace says.
use Rattle.std.specs.Prelude.{ℕ, ◌&&◌, nat_le, nat_lt, Bool, List, length, Option, Some, None, codes, if◌then◌else◌}
use Rattle.std.specs.List.{list_all}
use Rattle.std.specs.Str.{bytes_eq}
use Rattle.value_core.specs.declared.datum.Datum.{Datum}
use Rattle.apply_core.specs.declared.reply.Failure.TheVariants.{Device, Memory, Damaged}
use Rattle.apply_core.specs.declared.reply.Reply.{Reply}
use Rattle.apply_core.specs.declared.reply.Reply.TheVariants.{Done, Refused, Failed}
use Rattle.word_core.specs.Words.{Word}
use Rattle.word_core.specs.Says as says
use Rattle.word_core.specs.Data.{◌>>=◌, integer_of, session_of, data_of, bare_of, only_bare}
use Rattle.word_core.specs.Ending.{Ending, done, refused, failed, ending_of, ended_by}

pub data Said : Type 0 where
  an_object : List ℕ → Said
  a_part : List ℕ → List ℕ → Said
  a_start : ℕ → ℕ → List ℕ → List Datum → Said
  an_end : ℕ → Reply → Said

-- the word of a refusal has 1 to 16 lower-case letters
abbrev pub is_lower : ℕ → Bool
is_lower b = nat_le 97 b && nat_le b 122

abbrev pub is_refusal_text : List ℕ → Bool
is_refusal_text bytes = nat_lt 0 (length bytes) && (nat_le (length bytes) 16 && list_all is_lower bytes)

abbrev pub refused_by : List ℕ → Option Reply
refused_by bytes = if is_refusal_text bytes then Some (Refused bytes) else None

abbrev pub failed_by : List ℕ → Option Reply
failed_by bytes =
    if bytes_eq bytes (codes "device") then Some (Failed Device)
    else if bytes_eq bytes (codes "memory") then Some (Failed Memory)
    else if bytes_eq bytes (codes "damaged") then Some (Failed Damaged)
    else None

-- the reply of a call that ended so
abbrev pub reply_by : Ending → Option Reply
reply_by (done result) = Some (Done result)
reply_by (refused word) = refused_by word
reply_by (failed word) = failed_by word

-- the reply of a call whose end is told by this word and these behind it
abbrev pub reply_behind : List ℕ → List Word → Option Reply
reply_behind verb words = ended_by verb words >>= reply_by

-- the reply that these words tell
abbrev pub reply_of : List Word → Option Reply
reply_of words = ending_of words >>= reply_by

abbrev pub object_said : List Word → Option Said
object_said words = only_bare words >>= λ name. Some (an_object name)

abbrev pub part_behind : List ℕ → List Word → Option Said
part_behind name words = only_bare words >>= λ hex. Some (a_part name hex)

abbrev pub part_said : List Word → Option Said
part_said words = bare_of words >>= λ name. part_behind name.0 name.1

-- a start, from its arguments, the name of its operation, its session and its number on
abbrev pub start_of : ℕ → ℕ → List ℕ → List Word → Option Said
start_of number session name words = data_of words >>= λ arguments. Some (a_start number session name arguments)

abbrev pub start_by : ℕ → List ℕ → List Word → Option Said
start_by number s words = session_of s >>= λ session. bare_of words >>= λ name. start_of number session name.0 name.1

abbrev pub start_behind : List ℕ → List Word → Option Said
start_behind n words = integer_of n >>= λ number. bare_of words >>= λ s. start_by number s.0 s.1

abbrev pub start_said : List Word → Option Said
start_said words = bare_of words >>= λ n. start_behind n.0 n.1

abbrev pub end_behind : List ℕ → List Word → Option Said
end_behind n words = integer_of n >>= λ number. reply_of words >>= λ reply. Some (an_end number reply)

abbrev pub end_said : List Word → Option Said
end_said words = bare_of words >>= λ n. end_behind n.0 n.1

abbrev pub said_by : List ℕ → List Word → Option Said
said_by verb words =
    if bytes_eq verb (codes "object") then object_said words
    else if bytes_eq verb (codes "part") then part_said words
    else if bytes_eq verb (codes "start") then start_said words
    else if bytes_eq verb (codes "end") then end_said words
    else None

abbrev pub said_of : List Word → Option Said
said_of words = bare_of words >>= λ verb. said_by verb.0 verb.1

-- a line says this
abbrev pub Says : List ℕ → Said → Type 0
Says line said = says.Says said_of line said

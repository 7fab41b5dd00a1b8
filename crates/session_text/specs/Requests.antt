-- What a line of a session asks for.
use Rattle.std.specs.Prelude.{ℕ, ◌==◌, List, [], ◌∷◌, Option, Some, None, codes, if◌then◌else◌}
use Rattle.std.specs.Str.{bytes_eq, str_to_ascii_lowercase}
use Rattle.value_core.specs.declared.datum.Datum.{Datum}
use Rattle.word_core.specs.Words.{Word}
use Rattle.word_core.specs.Data.{◌>>=◌, integer_of, data_of, bare_of, only_bare, only_integer, at_end}
use Rattle.word_core.specs.Identifier.{is_identifier}
use Rattle.session_text.specs.Reserved.{is_reserved}

-- an object of this name is to be opened, for a client that has a name or none; an operation is to be called, under a
-- key or none, by its name, with arguments; a call is to be cancelled, by its number; the session ends
pub data Request : Type 0 where
  opens : List ℕ → Option (List ℕ) → Request
  calls : Option ℕ → List ℕ → List Datum → Request
  cancels : ℕ → Request
  quits : Request

-- the name that an identifier spells: case is ignored
abbrev pub name_of : List ℕ → Option (List ℕ)
name_of bytes = if is_identifier bytes then Some (str_to_ascii_lowercase bytes) else None

-- the name that an identifier spells which is no reserved word
abbrev pub free_name_of : List ℕ → Option (List ℕ)
free_name_of bytes = if is_reserved bytes then None else name_of bytes

-- behind `open NAME as`: `CLIENT`
abbrev pub client_behind : List ℕ → List Word → Option Request
client_behind name words = only_bare words >>= λ word. free_name_of word >>= λ client. Some (opens name (Some client))

-- behind `open NAME`, by this word: `as CLIENT`
abbrev pub as_behind : List ℕ → List ℕ → List Word → Option Request
as_behind name word words = if bytes_eq word (codes "as") then client_behind name words else None

-- behind `open NAME`: nothing, or `as CLIENT`
abbrev pub open_behind : List ℕ → List Word → Option Request
open_behind name [] = Some (opens name None)
open_behind name (word ∷ more) = bare_of (word ∷ more) >>= λ first. as_behind name first.0 first.1

-- behind `open`, by this word
abbrev pub open_named : List ℕ → List Word → Option Request
open_named word words = name_of word >>= λ name. open_behind name words

-- behind `open`: `NAME`, or `NAME as CLIENT`
abbrev pub open_request : List Word → Option Request
open_request words = bare_of words >>= λ first. open_named first.0 first.1

-- behind `call OP` or `call #J OP`: `ARG ..`
abbrev pub call_behind : Option ℕ → List ℕ → List Word → Option Request
call_behind key op words = name_of op >>= λ name. data_of words >>= λ arguments. Some (calls key name arguments)

-- behind `call #J`: `OP ARG ..`
abbrev pub keyed_behind : ℕ → List Word → Option Request
keyed_behind key words = bare_of words >>= λ first. call_behind (Some key) first.0 first.1

-- behind `call #` and these digits: `OP ARG ..`
abbrev pub digits_behind : List ℕ → List Word → Option Request
digits_behind digits words = integer_of digits >>= λ key. keyed_behind key words

-- behind `call`, by this word: an operation, or `#J`
abbrev pub call_by : List ℕ → List Word → Option Request
call_by [] words = None
call_by (b ∷ bytes) words = if b == 35 then digits_behind bytes words else call_behind None (b ∷ bytes) words

-- behind `call`: `OP ARG ..` or `#J OP ARG ..`
abbrev pub call_request : List Word → Option Request
call_request words = bare_of words >>= λ first. call_by first.0 first.1

-- behind `cancel`: `N`
abbrev pub cancel_request : List Word → Option Request
cancel_request words = only_integer words >>= λ number. Some (cancels number)

-- behind this first word
abbrev pub request_by : List ℕ → List Word → Option Request
request_by verb words =
    if bytes_eq verb (codes "open") then open_request words
    else if bytes_eq verb (codes "call") then call_request words
    else if bytes_eq verb (codes "cancel") then cancel_request words
    else if bytes_eq verb (codes "quit") then at_end words quits
    else None

-- what words ask for
abbrev pub request_of : List Word → Option Request
request_of words = bare_of words >>= λ verb. request_by verb.0 verb.1

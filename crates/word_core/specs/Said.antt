-- What a line of a script says.
use Rattle.std.specs.Prelude.{◌≡◌, ◌==◌, ℕ, Bool, true, false, List, [], ◌∷◌, Option, Some, None, codes, if◌then◌else◌}
use Rattle.std.specs.Str.{bytes_eq}
use Rattle.value_core.specs.declared.datum.Datum.{Datum}
use Rattle.value_core.specs.Spaces.{drop_spaces}
use Rattle.word_core.specs.Words.{Word}
use Rattle.word_core.specs.Data.{◌>>=◌, integer_of, session_of, data_of, bare_of, only_bare, only_integer, at_end}
use Rattle.word_core.specs.Identifier.{identifier_of}

-- a session calls an operation, by its name as it is written, with arguments; the same under a key; the same, and what
-- starts at once is done to its end; one step of a call, which works or fails;
-- its steps to the end; its finish; its cancel; a session leaves, or is back; the values of the parts; the trace
pub data Said : Type 0 where
  a_call : ℕ → List ℕ → List Datum → Said
  a_keyed_call : ℕ → ℕ → List ℕ → List Datum → Said
  a_do : ℕ → List ℕ → List Datum → Said
  a_step : ℕ → Bool → Said
  all_steps : ℕ → Said
  a_finish : ℕ → Said
  a_cancel : ℕ → Said
  a_drop : ℕ → Said
  a_resume : ℕ → Said
  a_show : Said
  a_trace : Said

-- behind `call sK`, by this word, where it is an identifier: `ARG ..`
abbrev pub named_said : ℕ → List ℕ → List Word → Option Said
named_said session word words =
    identifier_of word >>= λ name. data_of words >>= λ arguments. Some (a_call session name arguments)

-- behind `call sK #J`, by this word, where it is an identifier: `ARG ..`
abbrev pub keyed_said : ℕ → ℕ → List ℕ → List Word → Option Said
keyed_said session key word words =
    identifier_of word >>= λ name. data_of words >>= λ arguments. Some (a_keyed_call session key name arguments)

-- behind `call sK #` and these digits: `OP ARG ..`
abbrev pub digits_said : ℕ → List ℕ → List Word → Option Said
digits_said session digits words =
    integer_of digits >>= λ key. bare_of words >>= λ first. keyed_said session key first.0 first.1

-- behind `call sK`, by this word: an operation, or `#J`
abbrev pub call_by : ℕ → List ℕ → List Word → Option Said
call_by session [] words = None
call_by session (b ∷ bytes) words =
    if b == 35 then digits_said session bytes words else named_said session (b ∷ bytes) words

-- behind `call`: `sK OP ARG ..` or `sK #J OP ARG ..`
abbrev pub call_said : List Word → Option Said
call_said words =
    bare_of words >>= λ first. session_of first.0 >>= λ session. bare_of first.1 >>= λ second.
    call_by session second.0 second.1

-- behind `do sK`, by this word, where it is an identifier: `ARG ..`
abbrev pub done_said : ℕ → List ℕ → List Word → Option Said
done_said session word words =
    identifier_of word >>= λ name. data_of words >>= λ arguments. Some (a_do session name arguments)

-- behind `do`: `sK OP ARG ..`
abbrev pub do_said : List Word → Option Said
do_said words =
    bare_of words >>= λ first. session_of first.0 >>= λ session. bare_of first.1 >>= λ second.
    done_said session second.0 second.1

-- whether a step works
abbrev pub works_of : List ℕ → Option Bool
works_of word =
    if bytes_eq word (codes "ok") then Some true else if bytes_eq word (codes "fail") then Some false else None

-- behind `step`: `N ok` or `N fail`
abbrev pub step_said : List Word → Option Said
step_said words =
    bare_of words >>= λ first. integer_of first.0 >>= λ number. only_bare first.1 >>= λ word. works_of word >>= λ works.
    Some (a_step number works)

-- behind a word that speaks of one call: `N`
abbrev pub numbered : (ℕ → Said) → List Word → Option Said
numbered said words = only_integer words >>= λ number. Some (said number)

-- behind `drop`: `sK`
abbrev pub drop_said : List Word → Option Said
drop_said words = only_bare words >>= λ word. session_of word >>= λ session. Some (a_drop session)

-- behind `resume`: `sK`
abbrev pub resume_said : List Word → Option Said
resume_said words = only_bare words >>= λ word. session_of word >>= λ session. Some (a_resume session)

-- behind this first word
abbrev pub said_by : List ℕ → List Word → Option Said
said_by verb words =
    if bytes_eq verb (codes "call") then call_said words
    else if bytes_eq verb (codes "do") then do_said words
    else if bytes_eq verb (codes "step") then step_said words
    else if bytes_eq verb (codes "steps") then numbered all_steps words
    else if bytes_eq verb (codes "finish") then numbered a_finish words
    else if bytes_eq verb (codes "cancel") then numbered a_cancel words
    else if bytes_eq verb (codes "drop") then drop_said words
    else if bytes_eq verb (codes "resume") then resume_said words
    else if bytes_eq verb (codes "show") then at_end words a_show
    else if bytes_eq verb (codes "trace") then at_end words a_trace
    else None

-- what words say
abbrev pub said_of : List Word → Option Said
said_of words = bare_of words >>= λ verb. said_by verb.0 verb.1

-- no bytes, or bytes that begin with `#`
abbrev pub IsRemark : List ℕ → Type 0
IsRemark [] = Unit {0}
IsRemark (b ∷ rest) = b ≡ 35

-- a line is skipped that is blank, or begins with `#`, behind spaces too
abbrev pub IsSkipped : List ℕ → Type 0
IsSkipped line = IsRemark (drop_spaces line)

-- What a line behind a front says.
use Rattle.std.specs.Prelude.{ℕ, List, Option, Some, None, codes, if◌then◌else◌}
use Rattle.std.specs.Str.{bytes_eq}
use Rattle.value_core.specs.declared.datum.Datum.{Datum}
use Rattle.apply_core.specs.declared.reply.Reply.{Reply}
use Rattle.word_core.specs.Words.{Word}
use Rattle.word_core.specs.Says as says
use Rattle.word_core.specs.Data.{◌>>=◌, session_of, bare_of, only_bare}
use Rattle.audit_core.specs.Said as audit

-- a call, as the words `N sK OP ARG ..` tell it: the operation by its name
pub record Asked : Type 0 where
  pub number : ℕ
  pub session : ℕ
  pub name : List ℕ
  pub arguments : List Datum

abbrev pub asks : ℕ → ℕ → List ℕ → List Datum → Asked
asks number session name arguments =
    record { number = number; session = session; name = name; arguments = arguments }

-- `start`, `end`, `cancel` and `name`
pub data Said : Type 0 where
  a_start : Asked → Said
  an_end : ℕ → Reply → Said
  a_cancel : Asked → Said
  a_name : ℕ → List ℕ → Said

-- the call that a start line of a trace has
abbrev pub asked_in : audit.Said → Option Asked
asked_in (audit.a_start number session name arguments) =
    Some (record { number = number; session = session; name = name; arguments = arguments })
asked_in (audit.an_object name) = None
asked_in (audit.a_part name hex) = None
asked_in (audit.an_end number reply) = None

-- the words `N sK OP ARG ..`
abbrev pub asked_of : List Word → Option Asked
asked_of words = audit.start_said words >>= asked_in

-- what stands behind `start`, and behind `cancel`
abbrev pub start_of : List Word → Option Said
start_of words = asked_of words >>= λ asked. Some (a_start asked)

abbrev pub cancel_of : List Word → Option Said
cancel_of words = asked_of words >>= λ asked. Some (a_cancel asked)

-- the end that an end line of a trace has
abbrev pub end_in : audit.Said → Option Said
end_in (audit.an_end number reply) = Some (an_end number reply)
end_in (audit.an_object name) = None
end_in (audit.a_part name hex) = None
end_in (audit.a_start number session name arguments) = None

-- what stands behind `end`
abbrev pub end_of : List Word → Option Said
end_of words = audit.end_said words >>= end_in

-- what stands behind `name`, from the name of the client on
abbrev pub name_by : List ℕ → List Word → Option Said
name_by s words = session_of s >>= λ session. only_bare words >>= λ client. Some (a_name session client)

-- what stands behind `name`
abbrev pub name_of : List Word → Option Said
name_of words = bare_of words >>= λ s. name_by s.0 s.1

-- what stands behind this word
abbrev pub said_by : List ℕ → List Word → Option Said
said_by verb words =
    if bytes_eq verb (codes "start") then start_of words
    else if bytes_eq verb (codes "end") then end_of words
    else if bytes_eq verb (codes "cancel") then cancel_of words
    else if bytes_eq verb (codes "name") then name_of words
    else None

abbrev pub said_of : List Word → Option Said
said_of words = bare_of words >>= λ verb. said_by verb.0 verb.1

-- a line says this
abbrev pub Says : List ℕ → Said → Type 0
Says line said = says.Says said_of line said

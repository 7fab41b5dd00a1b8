-- The lines of a trace, one after another.
use Rattle.std.specs.Prelude.{◌≡◌, ℕ, ◌≤◌, Bool, true, false, List, [], ◌∷◌, ◌++◌, length, map, Some, Ok, slice_get}
use Rattle.std.specs.Str.{str_to_ascii_lowercase}
use Rattle.hex.specs.Hex.{encode_lower, decode_of}
use Rattle.path_tree.specs.Known.{place_of}
use Rattle.path_tree.specs.Trace.{IsFresh}
use Rattle.value_core.specs.declared.datum.Datum.{Datum}
use Rattle.value_core.specs.declared.kind.Kind.{Kind}
use Rattle.value_core.specs.Datum.{elem_of}
use Rattle.value_core.specs.Contents.{Contents}
use Rattle.value_bytes.specs.Spelling.{SpellsInSome}
use Rattle.decl_core.specs.ObjectForm.{ObjectForm}
use Rattle.audit_core.specs.Operations.{operation_names}
use Rattle.apply_core.specs.declared.reply.Reply.{Reply}
use Rattle.word_core.specs.Events.{Called, Happened, began, ended, trace_of, IsRunning, body_at}
use Rattle.audit_core.specs.Said.{Says, an_object, a_part, a_start, an_end}

-- a word is these bytes in lower-case hexadecimal
pub record IsHex (hex bytes : List ℕ) : Type 0 where
  pub read : decode_of hex ≡ Ok bytes
  pub lower : encode_lower bytes ≡ hex

-- what the lines so far told: whether line 1 came, the opening contents, and what happened, the newest first
pub record Heard : Type 0 where
  pub named : Bool
  pub opening : List Contents
  pub past : List Happened

abbrev pub nothing_heard : Heard
nothing_heard = record { named = false; opening = []; past = [] }

-- line 1 and the lines of all parts came
pub record IsOpened (o : ObjectForm) (heard : Heard) : Type 0 where
  pub named : heard.named ≡ true
  pub whole : length o.parts ≤ length heard.opening

abbrev pub IsCallNumber : ℕ → Type 0
IsCallNumber number = (1 ≤ number) × (number ≤ 65536)

abbrev pub IsSession : ℕ → Type 0
IsSession session = (1 ≤ session) × (session ≤ 1024)

-- line 1 names the object
pub record IsObject (o : ObjectForm) (heard : Heard) (name : List ℕ) : Type 0 where
  pub first : heard.named ≡ false
  pub same : str_to_ascii_lowercase name ≡ o.name

-- the part that is next has this name, and its opening value is spelled so, in one of the formats
pub record IsPart (o : ObjectForm) (heard : Heard) (name hex : List ℕ) (value : Contents) : Type 0 where
  pub named : heard.named ≡ true
  pub kind : Kind
  pub next : slice_get o.parts (length heard.opening) ≡ Some (name, kind)
  pub bytes : List ℕ
  pub is : IsHex hex bytes
  pub spells : SpellsInSome bytes kind value

-- a call of the operation at this place may be told to start
pub record IsStart (o : ObjectForm) (heard : Heard) (number session : ℕ) (name : List ℕ) (arguments : List Datum)
    (place : ℕ) : Type 0 where
  pub opened : IsOpened o heard
  pub number_is : IsCallNumber number
  pub fresh : IsFresh number (trace_of heard.past)
  pub session_is : IsSession session
  pub known : place_of (operation_names o.operations) (str_to_ascii_lowercase name) ≡ Some place
  pub fit : map elem_of arguments ≡ (body_at o place).params

-- a line has its place behind those before it, and this is told then
pub data Tells (o : ObjectForm) (heard : Heard) (line : List ℕ) : Heard → Type 0 where
  object_told : {name : List ℕ} → Says line (an_object name) → IsObject o heard name →
      Tells o heard line (record heard { named = true })
  part_told : {name hex : List ℕ} {value : Contents} → Says line (a_part name hex) → IsPart o heard name hex value →
      Tells o heard line (record heard { opening = heard.opening ++ value ∷ [] })
  start_told : {number session place : ℕ} {name : List ℕ} {arguments : List Datum} →
      Says line (a_start number session name arguments) → IsStart o heard number session name arguments place
      → Tells o heard line (record heard {
        past = began (record {
          number = number;
          session = session;
          operation = place;
          arguments = arguments;
        }) ∷ heard.past;
      })
  end_told : {number : ℕ} {reply : Reply} {call : Called} → Says line (an_end number reply) → IsOpened o heard →
      IsCallNumber number → call.number ≡ number → IsRunning call heard.past
      → Tells o heard line (record heard { past = ended call reply ∷ heard.past })

-- these lines have their places one behind another
abbrev pub Tell : ObjectForm → Heard → List (List ℕ) → Heard → Type 0
Tell o heard [] after = after ≡ heard
Tell o heard (line ∷ more) after = (mid : Heard) × Tells o heard line mid × Tell o mid more after

-- Laws of traces.
use Rattle.std.specs.Prelude.{◌≡◌, ℕ, ◌<◌, ◌^◌, List, [], ◌∷◌, ◌++◌, All, length, Some, None, Ok}
use Rattle.std.specs.Str.Lines.{lines}
use Rattle.hex.specs.Hex.{encode_lower, decode_of}
use Rattle.value_core.specs.Datum.{IsDatum}
use Rattle.value_core.specs.Contents.{Contents, IsContents}
use Rattle.value_bytes.specs.Spelling.{spelling}
use Rattle.path_tree.specs.Identifier.{IsName}
use Rattle.decl_core.specs.declared.object.Operation.{Operation}
use Rattle.decl_core.specs.ObjectForm.{ObjectForm}
use Rattle.decl_core.specs.ObjectMap.{operation_of}
use Rattle.decl_core.specs.Bodies.{body_of}
use Rattle.decl_core.specs.RefusalWord.{IsRefusalWord}
use Rattle.apply_core.specs.declared.reply.Reply.{Reply}
use Rattle.apply_core.specs.declared.reply.Reply.TheVariants.{Done, Refused, Failed}
use Rattle.word_core.specs.Words.{Word, AreWords, line_of}
use Rattle.word_core.specs.Events.{Called, form_body}
use Rattle.word_core.specs.Text.{TraceLine, call_started, call_ended, event_words, front_words, trace_words}
use Rattle.word_core.specs.Text.{trace_text, lines_of, reply_ending}

-- an object, its parts and its operations have names
pub record HasNames (o : ObjectForm) : Type 0 where
  pub own : IsName o.name
  pub parts : All (λ p. IsName p.0) o.parts
  pub operations : All (λ f. IsName f.name) o.operations

-- a call of an operation of the object: its numbers are of 32 bits, its arguments integers and texts
pub record IsCallOf (o : ObjectForm) (c : Called) : Type 0 where
  pub number : c.number < 2 ^ 32
  pub session : c.session < 2 ^ 32
  pub operation : c.operation < length o.operations
  pub arguments : All IsDatum c.arguments

-- a reply holds an integer, a text or a word of a refusal
abbrev pub IsReply : Reply → Type 0
IsReply (Done None) = Unit {0}
IsReply (Done (Some datum)) = IsDatum datum
IsReply (Refused word) = IsRefusalWord word
IsReply (Failed failure) = Unit {0}

-- what is told of calls of the object
abbrev pub IsTold : ObjectForm → TraceLine → Type 0
IsTold o (call_started c) = IsCallOf o c
IsTold o (call_ended number reply) = (number < 2 ^ 32) × IsReply reply

-- these lines have these words, each in its place
abbrev pub HaveWords : List (List ℕ) → List (List Word) → Type 0
HaveWords [] [] = Unit {0}
HaveWords [] (words ∷ more) = ⊥
HaveWords (line ∷ others) [] = ⊥
HaveWords (line ∷ others) (words ∷ more) = AreWords line words × HaveWords others more

-- the lines of the text of a trace have the words that were written
abbrev pub TraceIsRead : Type 0
TraceIsRead =
    (o : ObjectForm) (opening : List Contents) (events : List TraceLine) → HasNames o → All IsContents opening →
    All (IsTold o) events
    → HaveWords (lines (trace_text o opening events)) (trace_words o opening events)

-- the bytes of a part are read from its line
abbrev pub PartIsRead : Type 0
PartIsRead = (value : Contents) → IsContents value → decode_of (encode_lower (spelling value)) ≡ Ok (spelling value)

-- no two replies are told alike
abbrev pub RepliesApart : Type 0
RepliesApart = (first second : Reply) → reply_ending first ≡ reply_ending second → first ≡ second

-- before any event the text of a trace is its front
abbrev pub BeginsWithFront : Type 0
BeginsWithFront =
    (o : ObjectForm) (opening : List Contents) → trace_text o opening [] ≡ lines_of (front_words o opening)

-- with one event more the text of a trace has one line more
abbrev pub GrowsByLine : Type 0
GrowsByLine = (o : ObjectForm) (opening : List Contents) (events : List TraceLine) (event : TraceLine) →
    trace_text o opening (events ++ event ∷ []) ≡ trace_text o opening events ++ line_of (event_words o event)

-- the body of an operation is the same, with or without where it lies in memory
abbrev pub BodyIsSame : Type 0
BodyIsSame = (o : Operation) → form_body (operation_of o) ≡ body_of o

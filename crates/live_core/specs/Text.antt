-- The text of a front.
use Rattle.std.specs.Borrow.{Bor}
use Rattle.apply_core.specs.declared.reply.Reply.{Reply}
use Rattle.std.specs.Prelude.{ℕ, Option, Some, None, List, [], ◌∷◌, ◌++◌, map, codes, decimal}
use Rattle.std.specs.Int.{w64, to_be_bytes}
use Rattle.hex.specs.Hex.{encode_lower}
use Rattle.value_core.specs.declared.datum.Datum.{Datum}
use Rattle.decl_core.specs.ObjectForm.{ObjectForm}
use Rattle.word_core.specs.Words.{Word, bare, line_of}
use Rattle.word_core.specs.Data.{datum_word, session_word}
use Rattle.word_core.specs.Text.{operation_name, parts_words, reply_words, lines_of}
use Rattle.live_core.specs.declared.past.PastRun.{PastRun}
use Rattle.live_core.specs.declared.past.PastRun.TheVariants.{Calls, Begins, Ends}
use Rattle.live_core.specs.declared.front.CarriedCall.{CarriedCall}
use Rattle.live_core.specs.declared.front.NamedClient.{NamedClient}
use Rattle.live_core.specs.declared.front.KeptCall.{KeptCall}
use Rattle.live_core.specs.declared.front.Answer.{Answer}
use Rattle.live_core.specs.declared.front.Answer.TheVariants.{Replied, Cancelled}
use Rattle.live_core.specs.Front.{Opening}

-- `object NAME epoch E`
abbrev pub object_words : List ℕ → ℕ → List Word
object_words name epoch =
    bare (codes "object") ∷ bare name ∷ bare (codes "epoch") ∷ bare (decimal epoch) ∷ []

-- `source HASH`: sixteen digits in lower-case hexadecimal
abbrev pub source_words : ℕ → List Word
source_words source = bare (codes "source") ∷ bare (encode_lower (to_be_bytes w64 source)) ∷ []

-- `base N`
abbrev pub base_words : ℕ → List Word
base_words base = bare (codes "base") ∷ bare (decimal base) ∷ []

-- the words that stand behind `past`: `OP K`, `begin OP` or `end OP`
abbrev pub run_words : ObjectForm → PastRun → List Word
run_words o (Calls op count) = bare (operation_name o op) ∷ bare (decimal count) ∷ []
run_words o (Begins op) = bare (codes "begin") ∷ bare (operation_name o op) ∷ []
run_words o (Ends op) = bare (codes "end") ∷ bare (operation_name o op) ∷ []

-- `OP ARG ..`
abbrev pub call_words : ObjectForm → ℕ → List Datum → List Word
call_words o op arguments = bare (operation_name o op) ∷ map datum_word arguments

-- behind `carried`: `n N sK OP ARG ..`
abbrev pub carried_words : ObjectForm → CarriedCall → List Word
carried_words o c =
    bare (decimal c.number) ∷ bare (decimal c.told) ∷ session_word c.session ∷ call_words o c.operation c.arguments

-- behind `client`: `sK NAME B`
abbrev pub client_words : NamedClient → List Word
client_words c = session_word c.session ∷ bare c.name ∷ bare (decimal c.keys) ∷ []

-- `done`, `done VALUE`, `refused WORD`, `failed WORD` or `cancelled`
abbrev pub answer_words : Answer → List Word
answer_words (Replied reply) = reply_words reply
answer_words Cancelled = bare (codes "cancelled") ∷ []

-- what a call replied, or that it was cancelled
abbrev pub answer_of : Option (Bor Reply) → Answer
answer_of None = Cancelled
answer_of (Some reply) = Replied reply.now

-- behind `kept`: `sK J N`, how the call ended, and `OP ARG ..`
abbrev pub kept_words : ObjectForm → KeptCall → List Word
kept_words o k =
    session_word k.session ∷ bare (decimal k.key) ∷ bare (decimal k.told)
    ∷ (answer_words k.answer ++ call_words o k.operation k.arguments)

-- lines of one kind: behind their first word stand these words
abbrev pub rows : {X : Type 0} → List ℕ → (X → List Word) → List X → List (List Word)
rows verb words xs = map (λ x. bare verb ∷ words x) xs

abbrev pub runs_text : ObjectForm → List PastRun → List ℕ
runs_text o runs = lines_of (rows (codes "past") (run_words o) runs)

abbrev pub carried_text : ObjectForm → List CarriedCall → List ℕ
carried_text o calls = lines_of (rows (codes "carried") (carried_words o) calls)

abbrev pub clients_text : List NamedClient → List ℕ
clients_text clients = lines_of (rows (codes "client") client_words clients)

abbrev pub kept_text : ObjectForm → List KeptCall → List ℕ
kept_text o calls = lines_of (rows (codes "kept") (kept_words o) calls)

-- from the lines of the waiting calls on
abbrev pub calls_text : ObjectForm → Opening → List ℕ
calls_text o f = carried_text o f.carried ++ (clients_text f.clients ++ kept_text o f.kept)

-- from the lines of the past on
abbrev pub behind_parts : ObjectForm → Opening → List ℕ
behind_parts o f = runs_text o f.past ++ (line_of (base_words f.base) ++ calls_text o f)

-- the text of a front
abbrev pub front_text : ObjectForm → Opening → List ℕ
front_text o f =
    line_of (object_words o.name f.epoch)
    ++ (line_of (source_words f.source) ++ (lines_of (parts_words o.parts f.parts) ++ behind_parts o f))

-- What the words of a row tell.
use Rattle.std.specs.Prelude.{◌≡◌, ℕ, nat_lt, ◌==◌, List, [], ◌∷◌, ◌++◌, Option, Some, None, IfSome, MatchOption, codes}
use Rattle.std.specs.Prelude.{if◌then◌else◌}
use Rattle.std.specs.Str.{bytes_eq}
use Rattle.std.specs.Borrow.{Bor}
use Rattle.path_tree.specs.Identifier.{IsName}
use Rattle.value_core.specs.declared.datum.Datum.{Datum}
use Rattle.decl_core.specs.ObjectForm.{ObjectForm}
use Rattle.word_core.specs.Words.{Word, bare, line_of}
use Rattle.word_core.specs.Data.{◌>>=◌, bare_of, only_bare, integer_of}
use Rattle.live_core.specs.declared.past.PastRun.{PastRun}
use Rattle.live_core.specs.declared.past.PastRun.TheVariants.{Begins, Ends}
use Rattle.live_core.specs.declared.front.CarriedCall.{CarriedCall}
use Rattle.live_core.specs.declared.front.NamedClient.{NamedClient}
use Rattle.live_core.specs.declared.front.KeptCall.{KeptCall}
use Rattle.live_core.specs.declared.front.Answer.{Answer}
use Rattle.live_core.specs.Front.{IsRun, IsCall}
use Rattle.live_core.specs.Text.{run_words, client_words, call_words}
use Rattle.front_read.specs.declared.carried.CarriedRow.{CarriedRow}
use Rattle.front_read.specs.declared.client.ClientRow.{ClientRow}
use Rattle.front_read.specs.declared.kept.KeptHead.{KeptHead}
use Rattle.front_read.specs.declared.kept.KeptRow.{KeptRow}
use Rattle.front_read.specs.Words.{behind_verb, session_first, long_first}
use Rattle.front_read.specs.Rows.{row_words}
use Rattle.front_read.specs.Answers.{answer_of_end}

-- the two words behind `past`
abbrev pub two_in : List Word → Option (List ℕ × List ℕ)
two_in words =
    behind_verb (codes "past") words >>= λ a. bare_of a >>= λ first. only_bare first.1
    >>= λ second. Some (first.0, second)

-- how many calls a run has
abbrev pub count_in : List ℕ → Option ℕ
count_in word =
    integer_of word >>= λ count. if count == 0 then None else if nat_lt 65536 count then None else Some count

-- `begin` and `end`
abbrev pub event_in : List ℕ → ℕ → Option PastRun
event_in word op =
    if bytes_eq word (codes "begin") then Some (Begins op) else if bytes_eq word (codes "end") then Some (Ends op)
    else None

-- the run that two words behind `past` tell was found
abbrev pub FindsRun : ObjectForm → List ℕ → List ℕ → Option PastRun → Type 0
FindsRun o first second found =
    ((run : PastRun) → IsRun o run → bare first ∷ bare second ∷ [] ≡ run_words o run → found ≡ Some run)
    × IfSome found (IsRun o)

abbrev pub carried_row : CarriedRow → CarriedCall
carried_row row = record {
  number = row.head.number;
  told = row.head.told;
  session = row.head.session;
  operation = row.operation;
  arguments = row.arguments.items;
}

abbrev pub client_row : ClientRow → NamedClient
client_row row = record { session = row.session; name = row.name.now; keys = row.keys }

-- the client that words tell, whatever the bytes of its name are
abbrev pub client_of : List Word → Option NamedClient
client_of words =
    behind_verb (codes "client") words >>= λ a. session_first a >>= λ b. bare_of b.1 >>= λ c. long_first c.1
    >>= λ d. Some (record { session = b.0; name = c.0; keys = d.0 })

-- the row of a client was taken that is said to be this one; where that has a name, it is this one
abbrev pub TakesNamed : NamedClient → List ℕ → List NamedClient → Option (Bor (List ℕ)) → List NamedClient → Type 0
TakesNamed client text old found new = MatchOption found
    ((rest : List ℕ) → IsName client.name → text ≡ line_of (row_words (codes "client") client_words client) ++ rest → ⊥)
    (λ rest. (name : List ℕ) × IsName name × (text ≡ line_of (row_words (codes "client") client_words
    (record client { name = name })) ++ rest.now) × (new ≡ old ++ record client { name = name } ∷ []))

abbrev pub kept_row : KeptRow → KeptCall
kept_row row = record {
  session = row.head.session;
  key = row.head.key;
  told = row.head.told;
  answer = answer_of_end row.ended;
  operation = row.operation;
  arguments = row.arguments.items;
}

-- the call was found that words behind the answer of a remembered call tell
abbrev pub KeptBy : ObjectForm → KeptHead → Answer → List Word → Option KeptRow → Type 0
KeptBy o head answer words found = MatchOption found
    ((op : ℕ) (arguments : List Datum) → IsCall o op arguments → words ≡ call_words o op arguments → ⊥)
    (λ row. IsCall o row.operation row.arguments.items × (row.head ≡ head) × (answer_of_end row.ended ≡ answer)
    × ((op : ℕ) (arguments : List Datum) → IsCall o op arguments → words ≡ call_words o op arguments →
    (row.operation ≡ op) × (row.arguments.items ≡ arguments)))

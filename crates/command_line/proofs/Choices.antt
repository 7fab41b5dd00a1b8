-- The options that take a value: which subcommand has which, and what they may say.
use Rattle.std.proofs.Common.{◌≡◌, ◌++◌, Bool, true, false, [], ◌∷◌, Some, None, codes}
use Rattle.std.specs.Prelude.{⊤}
use Rattle.clap.specs.Walk.{Rule, Text}
use Rattle.command_line.specs.Forms.{Verb, paths, check, run, audit, attempt, serve, keep, Given, IsNumber, has_sessions, has_stop, has_stuck, has_keeping}
use Rattle.command_line.proofs.Levels.{sessions_built, at_once_built, sync_built, traces_built, past_built}

pub data Choice : Type 0 where
  of_sessions : Choice
  of_at_once : Choice
  of_sync : Choice
  of_traces : Choice
  of_past : Choice

abbrev pub id_of : Choice → Text
id_of of_sessions = codes "sessions"
id_of of_at_once = codes "at-once"
id_of of_sync = codes "sync"
id_of of_traces = codes "traces"
id_of of_past = codes "past"

-- the word that gives it, before its value
abbrev pub word_of : Choice → Text
word_of of_sessions = codes "--sessions"
word_of of_at_once = codes "--at-once"
word_of of_sync = codes "--sync"
word_of of_traces = codes "--traces"
word_of of_past = codes "--past"

-- the word that gives it with its value
abbrev pub joined_of : Choice → Text → Text
joined_of of_sessions n = codes "--sessions=" ++ n
joined_of of_at_once n = codes "--at-once=" ++ n
joined_of of_sync n = codes "--sync=" ++ n
joined_of of_traces n = codes "--traces=" ++ n
joined_of of_past n = codes "--past=" ++ n

abbrev pub built_of : Choice → Rule
built_of of_sessions = sessions_built
built_of of_at_once = at_once_built
built_of of_sync = sync_built
built_of of_traces = traces_built
built_of of_past = past_built

-- which subcommand has it
abbrev pub has_choice : Choice → Verb → Bool
has_choice of_sessions v = has_sessions v
has_choice of_at_once v = has_keeping v
has_choice of_sync v = has_keeping v
has_choice of_traces v = has_keeping v
has_choice of_past v = has_keeping v

-- it may be given: it was not before, or may come again
abbrev pub Open : Choice → Given → Type 0
Open of_sessions g = g.sessions ≡ None
Open of_at_once g = g.at_once ≡ None
Open of_sync g = g.sync ≡ None
Open of_traces g = g.traces ≡ None
Open of_past g = ⊤

abbrev pub choose : Choice → Text → Given → Given
choose of_sessions n g = record g { sessions = Some n }
choose of_at_once n g = record g { at_once = Some n }
choose of_sync n g = record g { sync = Some n }
choose of_traces n g = record g { traces = Some n }
choose of_past n g = record g { past = g.past ++ n ∷ [] }

-- what it may say
abbrev pub Allows : Choice → Text → Type 0
Allows of_sessions n = IsNumber 1 64 n
Allows of_at_once n = IsNumber 1 10000 n
Allows of_sync n = ⊤
Allows of_traces n = IsNumber 1 1000000 n
Allows of_past n = ⊤

clash : false ≡ true → ⊥
clash x = cc

-- what holds of the subcommand that has an option, for each option
pub by_choice : (P : Choice → Verb → Type 0) → P of_sessions serve → P of_at_once keep → P of_sync keep → P of_traces keep → P of_past keep → (o : Choice) (v : Verb) → has_choice o v ≡ true → P o v
by_choice P a b c d e of_sessions serve has = a
by_choice P a b c d e of_sessions paths has = absurd (clash has)
by_choice P a b c d e of_sessions check has = absurd (clash has)
by_choice P a b c d e of_sessions run has = absurd (clash has)
by_choice P a b c d e of_sessions audit has = absurd (clash has)
by_choice P a b c d e of_sessions attempt has = absurd (clash has)
by_choice P a b c d e of_sessions keep has = absurd (clash has)
by_choice P a b c d e of_at_once keep has = b
by_choice P a b c d e of_at_once paths has = absurd (clash has)
by_choice P a b c d e of_at_once check has = absurd (clash has)
by_choice P a b c d e of_at_once run has = absurd (clash has)
by_choice P a b c d e of_at_once audit has = absurd (clash has)
by_choice P a b c d e of_at_once attempt has = absurd (clash has)
by_choice P a b c d e of_at_once serve has = absurd (clash has)
by_choice P a b c d e of_sync keep has = c
by_choice P a b c d e of_sync paths has = absurd (clash has)
by_choice P a b c d e of_sync check has = absurd (clash has)
by_choice P a b c d e of_sync run has = absurd (clash has)
by_choice P a b c d e of_sync audit has = absurd (clash has)
by_choice P a b c d e of_sync attempt has = absurd (clash has)
by_choice P a b c d e of_sync serve has = absurd (clash has)
by_choice P a b c d e of_traces keep has = d
by_choice P a b c d e of_traces paths has = absurd (clash has)
by_choice P a b c d e of_traces check has = absurd (clash has)
by_choice P a b c d e of_traces run has = absurd (clash has)
by_choice P a b c d e of_traces audit has = absurd (clash has)
by_choice P a b c d e of_traces attempt has = absurd (clash has)
by_choice P a b c d e of_traces serve has = absurd (clash has)
by_choice P a b c d e of_past keep has = e
by_choice P a b c d e of_past paths has = absurd (clash has)
by_choice P a b c d e of_past check has = absurd (clash has)
by_choice P a b c d e of_past run has = absurd (clash has)
by_choice P a b c d e of_past audit has = absurd (clash has)
by_choice P a b c d e of_past attempt has = absurd (clash has)
by_choice P a b c d e of_past serve has = absurd (clash has)

-- what holds of each subcommand that stops with its input
pub by_stop : (P : Verb → Type 0) → P serve → P keep → (v : Verb) → has_stop v ≡ true → P v
by_stop P a b serve has = a
by_stop P a b keep has = b
by_stop P a b paths has = absurd (clash has)
by_stop P a b check has = absurd (clash has)
by_stop P a b run has = absurd (clash has)
by_stop P a b audit has = absurd (clash has)
by_stop P a b attempt has = absurd (clash has)

-- what holds of the subcommand that has `--stuck`
pub by_stuck : (P : Verb → Type 0) → P check → (v : Verb) → has_stuck v ≡ true → P v
by_stuck P a check has = a
by_stuck P a paths has = absurd (clash has)
by_stuck P a run has = absurd (clash has)
by_stuck P a audit has = absurd (clash has)
by_stuck P a attempt has = absurd (clash has)
by_stuck P a serve has = absurd (clash has)
by_stuck P a keep has = absurd (clash has)

-- The answer to `why N`.
use Rattle.std.specs.Prelude.{ℕ, ◌+◌, List, [], ◌∷◌, ◌++◌, map, flat_map, length, codes, decimal}
use Rattle.decl_core.specs.ObjectForm.{ObjectForm}
use Rattle.word_core.specs.Text.{operation_name}
use Rattle.word_core.specs.Words.{Word, bare, line_of}
use Rattle.word_core.specs.Data.{session_word}
use Rattle.stuck_core.specs.Lacks.{Why}
use Rattle.stuck_core.specs.declared.reason.Lack.{Lack}
use Rattle.stuck_core.specs.declared.reason.Lack.TheVariants as lacks
use Rattle.stuck_core.specs.declared.why.CallStatus.{CallStatus}
use Rattle.stuck_core.specs.declared.why.CallStatus.TheVariants as states
use Rattle.stuck_core.specs.declared.why.RunningRow.{RunningRow}

abbrev pub state_word : CallStatus → List ℕ
state_word states.Running = codes "Running"
state_word states.Ended = codes "Ended"
state_word states.Unknown = codes "Unknown"

-- `why N STATE`: the call does not wait
abbrev pub state_line : ℕ → CallStatus → List ℕ
state_line n state = line_of (bare (codes "why") ∷ bare (decimal n) ∷ bare (state_word state) ∷ [])

abbrev pub name_word : ObjectForm → ℕ → Word
name_word o op = bare (operation_name o op)

-- `full`, or `turn J`
abbrev pub lack_words : Lack → List Word → List Word
lack_words lacks.Full more = bare (codes "full") ∷ more
lack_words (lacks.Turn j) more = bare (codes "turn") ∷ bare (decimal j) ∷ more

-- `path P node K full` or `path P node K turn J`, and more words
abbrev pub node_words : Why → List Word → List Word
node_words why more =
    bare (codes "path") ∷ bare (decimal why.path) ∷ bare (codes "node") ∷ bare (decimal why.node)
    ∷ lack_words why.lack more

abbrev pub needs_words : Why → List Word
needs_words why = node_words why (bare (codes "needs") ∷ [])

-- `.. needs OP ..`
abbrev pub path_line : ObjectForm → Why → List ℕ
path_line o why = line_of (needs_words why ++ map (name_word o) why.needs)

-- `runs M sS OP`
abbrev pub run_line : ObjectForm → RunningRow → List ℕ
run_line o run =
    line_of (bare (codes "runs") ∷ bare (decimal run.number) ∷ session_word run.session ∷ name_word o run.operation ∷ [])

-- `why N Waiting L`
abbrev pub why_line : ℕ → ℕ → List ℕ
why_line n lines =
    line_of (bare (codes "why") ∷ bare (decimal n) ∷ bare (codes "Waiting") ∷ bare (decimal lines) ∷ [])

-- the whole of it, for a call that waits
abbrev pub why_text : ObjectForm → ℕ → List Why → List RunningRow → List ℕ
why_text o n whys runs =
    why_line n (length whys + length runs) ++ flat_map (path_line o) whys ++ flat_map (run_line o) runs

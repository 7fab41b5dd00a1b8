-- The lines of calls that ran.
use Rattle.std.specs.Prelude.{◌≡◌, ℕ, List, [], ◌∷◌, ◌++◌}
use Rattle.value_core.specs.Contents.{Contents}
use Rattle.decl_core.specs.ObjectForm.{ObjectForm}
use Rattle.word_core.specs.Words.{line_of}
use Rattle.word_core.specs.Text.{start_words, end_words, trace_text, told_of}
use Rattle.live_core.specs.declared.call.Ran.{Ran}
use Rattle.live_core.specs.Hall.{Told}
use Rattle.live_core.specs.Settles.{with_all}

-- `start N sK OP ARG ..`, and behind it `end N` and the reply
abbrev pub ran_lines : ObjectForm → Ran → List ℕ
ran_lines o r = line_of (start_words o r.call) ++ line_of (end_words r.call.number r.reply)

-- the lines of these calls, one after the other
abbrev pub all_lines : ObjectForm → List Ran → List ℕ
all_lines o [] = []
all_lines o (r ∷ rs) = ran_lines o r ++ all_lines o rs

-- The lines of the calls of a step are those that the text of the epoch's trace has more behind it.
abbrev pub LinesAreOfTheTrace : Type 0
LinesAreOfTheTrace =
    (o : ObjectForm) (opening : List Contents) (t : Told) (all : List Ran) →
    trace_text o opening (told_of (with_all t all).happened)
    ≡ trace_text o opening (told_of t.happened) ++ all_lines o all

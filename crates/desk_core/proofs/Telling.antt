-- The text of what marks tell.
use Rattle.std.proofs.Common.{◌≡◌, ℕ, ◌+◌, ◌<◌, List, ◌++◌, length, sym, ◌∙◌, ap, map, drop, get_or, append_assoc}
use Rattle.std.proofs.lemmas.List.{at_drop_more}
use Rattle.std.proofs.lemmas.Grind.{flat_map-append}
use Rattle.value_core.specs.Contents.{Contents}
use Rattle.decl_core.specs.ObjectForm.{ObjectForm}
use Rattle.word_core.specs.Words.{line_of}
use Rattle.word_core.specs.Text.{TraceLine, event_words, front_words, lines_of, trace_text}
use Rattle.page_core.specs.ObjectCalls.{AcceptedCall, Noted}
use Rattle.desk_core.specs.declared.marks.Mark.{Mark}
use Rattle.desk_core.specs.Kept.{event_of, events_of}
use Rattle.desk_core.specs.Told.{line_told}

-- the lines of what marks tell
abbrev pub text_of : ObjectForm → List AcceptedCall → List Noted → List Mark → List ℕ
text_of o calls history marks = lines_of (map (event_words o) (map (line_told calls) (events_of history marks)))

-- one line more
pub one_line : (o : ObjectForm) (calls : List AcceptedCall) (history : List Noted) (marks : List Mark) (k : ℕ) (d : Mark) (before out : List ℕ)
    → k < length marks → out ≡ before ++ line_of (event_words o (line_told calls (event_of history (get_or marks k d))))
    → out ++ text_of o calls history (drop (k + 1) marks) ≡ before ++ text_of o calls history (drop k marks)
one_line o calls history marks k d before out within made =
    ap (λ xs. xs ++ text_of o calls history (drop (k + 1) marks)) made
    ∙ append_assoc before (line_of (event_words o (line_told calls (event_of history (get_or marks k d))))) (text_of o calls history (drop (k + 1) marks))
    ∙ ap (λ xs. before ++ xs) (sym (at_drop_more (text_of o calls history) marks k d within))

-- the front and the lines behind it are the whole text
pub whole_text : (o : ObjectForm) (opening : List Contents) (told : List TraceLine) → lines_of (front_words o opening) ++ lines_of (map (event_words o) told) ≡ trace_text o opening told
whole_text o opening told = sym (flat_map-append line_of (front_words o opening) (map (event_words o) told))

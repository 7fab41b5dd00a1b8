-- Words that ask for help, or for the version, before any mistake are answered by it.
use Rattle.std.proofs.Common.{◌≡◌, ◌∙◌, ◌++◌, not, Bool, true, false, ℕ, List, [], ◌∷◌, Option, Some, None, refl, sym, ap, subst, bytes_eq, codes, inl, inr, ◌⊎◌}
use Rattle.clap.specs.Walk.{Row, Text, Walk, idle, nothing_held, used, walked}
use Rattle.clap.specs.Kinds.{Kinds as Faults, or_else}
use Rattle.clap.specs.Kinds.{HasKind}
use Rattle.clap.specs.Values.{kind_of}
use Rattle.clap.specs.declared.error.Error.{Error}
use Rattle.clap.specs.declared.error.kind.ErrorKind.{ErrorKind}
use Rattle.clap.specs.declared.error.kind.ErrorKind.TheVariants as kinds
use Rattle.clap.specs.declared.error.kind.ErrorKind.TheVariants.{OutOfMemory}
use Rattle.clap.specs.Faults.{fault_of, level_fault, turn_fault, walk_fault, built_fault}
use Rattle.clap.proofs.WalkLemmas.{both}
use Rattle.command_line.specs.Forms.{Verb, paths, check, run, audit, attempt, serve, keep, name_of, Given, nothing, is_bare, Gives, ends, word, explain, silence, stop, stuck, sessions, joined, at_once, at_once_joined, sync, sync_joined, traces, traces_joined, past, past_joined, hyphens as ends_flags, Topic, help, version, word_for, kind_for, has_no_hyphens, Shows, of_program, of_verb}
use Rattle.command_line.specs.Commands.{program}
use Rattle.command_line.proofs.Turns.{long_turn, neither, some_fault}
use Rattle.command_line.proofs.Levels.{rules, leaf, top, whole, place_after, place, flag}
use Rattle.command_line.proofs.Choices.{Choice, of_sessions, of_at_once, of_sync, of_traces, of_past, id_of, word_of, joined_of, built_of, has_choice, Open, Allows}
use Rattle.command_line.proofs.Rows.{seen}
use Rattle.command_line.proofs.Steps.{held, at, rows_now, settle, flag_seen, Stands, flag_use, choice_use}
use Rattle.command_line.proofs.Walks.{word_turn, word_after, word_stands, none_left, explain_turn, explain_after, explain_stands, silence_turn, silence_after, silence_stands, stop_turn, stop_after, stop_stands, stuck_turn, stuck_after, stuck_stands}
use Rattle.command_line.proofs.Walks.{waits, spaced_turn, spaced_after, given_turn, given_after, given_stands, joined_turn, joined_after, joined_stands, no_choice_row}
use Rattle.command_line.proofs.Whole.{nothing_stands, start, names, verb_walks, whole_is}

clash : false ≡ true → ⊥
clash x = cc

-- ---- the word itself

-- nothing is pending that fails
first_shown : (settles : Faults) (k : ErrorKind) (more : Faults) → settles ≡ [] → or_else (or_else settles (k ∷ [])) more ≡ k ∷ []
first_shown settles k more none = ap (λ x. or_else (or_else x (k ∷ [])) more) none

module _ (k : ℕ) (rows : List Row) (q : Option (Text × List Text)) where
  help_turn : (v : Verb) → settle v rows q ≡ [] → turn_fault (leaf v) [] (at true k (held rows q)) (codes "--help") ≡ kinds.DisplayHelp ∷ []
  help_turn paths valid = long_turn (leaf paths) [] k (held rows q) idle (codes "--help") refl refl (codes "help", None) refl ∙ first_shown (settle paths rows q) kinds.DisplayHelp _ valid
  help_turn check valid = long_turn (leaf check) [] k (held rows q) idle (codes "--help") refl refl (codes "help", None) refl ∙ first_shown (settle check rows q) kinds.DisplayHelp _ valid
  help_turn run valid = long_turn (leaf run) [] k (held rows q) idle (codes "--help") refl refl (codes "help", None) refl ∙ first_shown (settle run rows q) kinds.DisplayHelp _ valid
  help_turn audit valid = long_turn (leaf audit) [] k (held rows q) idle (codes "--help") refl refl (codes "help", None) refl ∙ first_shown (settle audit rows q) kinds.DisplayHelp _ valid
  help_turn attempt valid = long_turn (leaf attempt) [] k (held rows q) idle (codes "--help") refl refl (codes "help", None) refl ∙ first_shown (settle attempt rows q) kinds.DisplayHelp _ valid
  help_turn serve valid = long_turn (leaf serve) [] k (held rows q) idle (codes "--help") refl refl (codes "help", None) refl ∙ first_shown (settle serve rows q) kinds.DisplayHelp _ valid
  help_turn keep valid = long_turn (leaf keep) [] k (held rows q) idle (codes "--help") refl refl (codes "help", None) refl ∙ first_shown (settle keep rows q) kinds.DisplayHelp _ valid

  version_turn : (v : Verb) → settle v rows q ≡ [] → turn_fault (leaf v) [] (at true k (held rows q)) (codes "--version") ≡ kinds.DisplayVersion ∷ []
  version_turn paths valid = long_turn (leaf paths) [] k (held rows q) idle (codes "--version") refl refl (codes "version", None) refl ∙ first_shown (settle paths rows q) kinds.DisplayVersion _ valid
  version_turn check valid = long_turn (leaf check) [] k (held rows q) idle (codes "--version") refl refl (codes "version", None) refl ∙ first_shown (settle check rows q) kinds.DisplayVersion _ valid
  version_turn run valid = long_turn (leaf run) [] k (held rows q) idle (codes "--version") refl refl (codes "version", None) refl ∙ first_shown (settle run rows q) kinds.DisplayVersion _ valid
  version_turn audit valid = long_turn (leaf audit) [] k (held rows q) idle (codes "--version") refl refl (codes "version", None) refl ∙ first_shown (settle audit rows q) kinds.DisplayVersion _ valid
  version_turn attempt valid = long_turn (leaf attempt) [] k (held rows q) idle (codes "--version") refl refl (codes "version", None) refl ∙ first_shown (settle attempt rows q) kinds.DisplayVersion _ valid
  version_turn serve valid = long_turn (leaf serve) [] k (held rows q) idle (codes "--version") refl refl (codes "version", None) refl ∙ first_shown (settle serve rows q) kinds.DisplayVersion _ valid
  version_turn keep valid = long_turn (leaf keep) [] k (held rows q) idle (codes "--version") refl refl (codes "version", None) refl ∙ first_shown (settle keep rows q) kinds.DisplayVersion _ valid

  shown_turn : (v : Verb) (t : Topic) → settle v rows q ≡ [] → turn_fault (leaf v) [] (at true k (held rows q)) (word_for t) ≡ kind_for t ∷ []
  shown_turn v help valid = help_turn v valid
  shown_turn v version valid = version_turn v valid

-- ---- the words before it

module _ (v : Verb) (W : Walk) (w : Text) (ws : List Text) where
  stops_here : (k : ErrorKind) → turn_fault (leaf v) [] W w ≡ k ∷ [] → walk_fault (leaf v) [] W (w ∷ ws) ≡ k ∷ []
  unfolding walk_fault
  stops_here k e = ap (λ x. or_else x (walk_fault (leaf v) [] (walked (rules v) [] W w) ws)) e

  goes_on : (W2 : Walk) (ks : Faults) → turn_fault (leaf v) [] W w ≡ [] → walked (rules v) [] W w ≡ W2 → walk_fault (leaf v) [] W2 ws ≡ ks → walk_fault (leaf v) [] W (w ∷ ws) ≡ ks
  unfolding walk_fault
  goes_on W2 ks e goes rest = ap (λ x. or_else x (walk_fault (leaf v) [] (walked (rules v) [] W w) ws)) e ∙ ap (λ x. walk_fault (leaf v) [] x ws) goes ∙ rest

-- an option with its value in the next word, or in the same word
module _ (o : Choice) (v : Verb) (g : Given) (w n : Text) (ws : List Text) (has : has_choice o v ≡ true) (rows : List Row) (q : Option (Text × List Text)) (st : Stands v g rows q) (ks : Faults) where
  abbrev k : ℕ
  k = place_after g.words

  spaced_goes_on : w ≡ word_of o → is_bare n ≡ true → walk_fault (leaf v) [] (at true k (held (rows_now v rows q) (Some (id_of o, n ∷ [])))) ws ≡ ks
      → walk_fault (leaf v) [] (at true k (held rows q)) (w ∷ n ∷ ws) ≡ ks
  spaced_goes_on is plain rest =
      goes_on v (at true k (held rows q)) w (n ∷ ws) (waits k rows q o v) ks
      (ap (λ x. turn_fault (leaf v) [] (at true k (held rows q)) x) is ∙ spaced_turn k rows q o v has ∙ neither _ _ st.valid refl)
      (ap (λ x. walked (rules v) [] (at true k (held rows q)) x) is ∙ spaced_after k rows q o v has)
      (goes_on v (waits k rows q o v) n ws (at true k (held (rows_now v rows q) (Some (id_of o, n ∷ [])))) ks (given_turn k rows q o v has n plain) (given_after k rows q o v has n plain) rest)

  joined_goes_on : w ≡ joined_of o n → Open o g → Allows o n → walk_fault (leaf v) [] (at true k (held (used (built_of o) (n ∷ []) (rows_now v rows q)) None)) ws ≡ ks
      → walk_fault (leaf v) [] (at true k (held rows q)) (w ∷ ws) ≡ ks
  joined_goes_on is off allowed rest =
      goes_on v (at true k (held rows q)) w ws (at true k (held (used (built_of o) (n ∷ []) (rows_now v rows q)) None)) ks
      (ap (λ x. turn_fault (leaf v) [] (at true k (held rows q)) x) is ∙ joined_turn k rows q o v has n
      ∙ neither _ _ (neither _ _ st.valid (choice_use o n (rows_now v rows q) (no_choice_row o v has g rows q n st off allowed) allowed)) refl)
      (ap (λ x. walked (rules v) [] (at true k (held rows q)) x) is ∙ joined_after k rows q o v has n)
      rest

later : (w : Text) (front : List Text) → has_no_hyphens (w ∷ front) ≡ true → has_no_hyphens front ≡ true
later w front clean = (both (not (bytes_eq w (codes "--"))) (has_no_hyphens front) clean).1

no_dashes : (w : Text) (front : List Text) → w ≡ codes "--" → has_no_hyphens (w ∷ front) ≡ true → ⊥
no_dashes w front is clean = clash (sym (ap (λ x. not (bytes_eq x (codes "--"))) is) ∙ (both (not (bytes_eq w (codes "--"))) (has_no_hyphens front) clean).0)

module _ (t : Topic) (more : List Text) where
  shown_walk : (v : Verb) (free : Bool) (g : Given) (front : List Text) (after : Given) → Gives v free g front after → free ≡ true → has_no_hyphens front ≡ true
      → (rows : List Row) (q : Option (Text × List Text)) → Stands v g rows q
      → walk_fault (leaf v) [] (at free (place_after g.words) (held rows q)) (front ++ word_for t ∷ more) ≡ kind_for t ∷ []
  shown_walk v free g front after (ends f x) opened clean rows q st =
      ap (λ b. walk_fault (leaf v) [] (at b (place_after g.words) (held rows q)) (word_for t ∷ more)) opened
      ∙ stops_here v (at true (place_after g.words) (held rows q)) (word_for t) more (kind_for t) (shown_turn (place_after g.words) rows q v t st.valid)
  shown_walk v free g front after (word f x y w ws is takes rest) opened clean rows q st = elim (place v g.words) [
    | inl p ↦ goes_on v (at free (place_after g.words) (held rows q)) w (ws ++ word_for t ∷ more)
        (at free (place_after (g.words ++ w ∷ [])) (held (rows_now v rows q) (Some (p.name, w ∷ [])))) (kind_for t ∷ [])
        (word_turn v g.words p rows q free w is ∙ st.valid) (word_after v g.words p rows q free w is)
        (shown_walk v free (record g { words = g.words ++ w ∷ [] }) ws after rest opened (later w ws clean) (rows_now v rows q) (Some (p.name, w ∷ [])) (word_stands v g rows q p w st takes))
    | inr none ↦ absurd (none_left v w g.words takes none)
  ]
  shown_walk v free g front after (explain x y w ws is has off rest) opened clean rows q st =
      let none : seen (codes "explain") (rows_now v rows q) ≡ None = st.holds.explains ∙ ap (flag_seen (codes "explain")) off in
      goes_on v (at true (place_after g.words) (held rows q)) w (ws ++ word_for t ∷ more)
      (at true (place_after g.words) (held (used (flag (codes "explain")) [] (rows_now v rows q)) None)) (kind_for t ∷ [])
      (ap (λ x. turn_fault (leaf v) [] (at true (place_after g.words) (held rows q)) x) is ∙ explain_turn (place_after g.words) rows q v has
      ∙ neither _ _ (neither _ _ st.valid (flag_use (codes "explain") (rows_now v rows q) none)) refl)
      (ap (λ x. walked (rules v) [] (at true (place_after g.words) (held rows q)) x) is ∙ explain_after (place_after g.words) rows q v has)
      (shown_walk v true (record g { explains = true }) ws after rest refl (later w ws clean) (used (flag (codes "explain")) [] (rows_now v rows q)) None (explain_stands v g rows q st off))
  shown_walk v free g front after (silence x y w ws is has off rest) opened clean rows q st =
      let none : seen (codes "no-explain") (rows_now v rows q) ≡ None = st.holds.silent ∙ ap (flag_seen (codes "no-explain")) off in
      goes_on v (at true (place_after g.words) (held rows q)) w (ws ++ word_for t ∷ more)
      (at true (place_after g.words) (held (used (flag (codes "no-explain")) [] (rows_now v rows q)) None)) (kind_for t ∷ [])
      (ap (λ x. turn_fault (leaf v) [] (at true (place_after g.words) (held rows q)) x) is ∙ silence_turn (place_after g.words) rows q v has
      ∙ neither _ _ (neither _ _ st.valid (flag_use (codes "no-explain") (rows_now v rows q) none)) refl)
      (ap (λ x. walked (rules v) [] (at true (place_after g.words) (held rows q)) x) is ∙ silence_after (place_after g.words) rows q v has)
      (shown_walk v true (record g { silent = true }) ws after rest refl (later w ws clean) (used (flag (codes "no-explain")) [] (rows_now v rows q)) None (silence_stands v g rows q st off))
  shown_walk v free g front after (stop x y w ws is has off rest) opened clean rows q st =
      let none : seen (codes "stop-with-input") (rows_now v rows q) ≡ None = st.holds.stops ∙ ap (flag_seen (codes "stop-with-input")) off in
      goes_on v (at true (place_after g.words) (held rows q)) w (ws ++ word_for t ∷ more)
      (at true (place_after g.words) (held (used (flag (codes "stop-with-input")) [] (rows_now v rows q)) None)) (kind_for t ∷ [])
      (ap (λ x. turn_fault (leaf v) [] (at true (place_after g.words) (held rows q)) x) is ∙ stop_turn (place_after g.words) rows q v has
      ∙ neither _ _ (neither _ _ st.valid (flag_use (codes "stop-with-input") (rows_now v rows q) none)) refl)
      (ap (λ x. walked (rules v) [] (at true (place_after g.words) (held rows q)) x) is ∙ stop_after (place_after g.words) rows q v has)
      (shown_walk v true (record g { stops = true }) ws after rest refl (later w ws clean) (used (flag (codes "stop-with-input")) [] (rows_now v rows q)) None (stop_stands v g rows q st off))
  shown_walk v free g front after (stuck x y w ws is has off rest) opened clean rows q st =
      let none : seen (codes "stuck") (rows_now v rows q) ≡ None = st.holds.stuck ∙ ap (flag_seen (codes "stuck")) off in
      goes_on v (at true (place_after g.words) (held rows q)) w (ws ++ word_for t ∷ more)
      (at true (place_after g.words) (held (used (flag (codes "stuck")) [] (rows_now v rows q)) None)) (kind_for t ∷ [])
      (ap (λ x. turn_fault (leaf v) [] (at true (place_after g.words) (held rows q)) x) is ∙ stuck_turn (place_after g.words) rows q v has
      ∙ neither _ _ (neither _ _ st.valid (flag_use (codes "stuck") (rows_now v rows q) none)) refl)
      (ap (λ x. walked (rules v) [] (at true (place_after g.words) (held rows q)) x) is ∙ stuck_after (place_after g.words) rows q v has)
      (shown_walk v true (record g { stuck = true }) ws after rest refl (later w ws clean) (used (flag (codes "stuck")) [] (rows_now v rows q)) None (stuck_stands v g rows q st off))
  shown_walk v free g front after (sessions x y w n ws is plain has off number rest) opened clean rows q st =
      spaced_goes_on of_sessions v g w n (ws ++ word_for t ∷ more) has rows q st (kind_for t ∷ []) is plain
      (shown_walk v true (record g { sessions = Some n }) ws after rest refl (later n ws (later w (n ∷ ws) clean)) (rows_now v rows q) (Some (id_of of_sessions, n ∷ [])) (given_stands of_sessions v has g rows q n st off number))
  shown_walk v free g front after (joined x y w n ws is has off number rest) opened clean rows q st =
      joined_goes_on of_sessions v g w n (ws ++ word_for t ∷ more) has rows q st (kind_for t ∷ []) is off number
      (shown_walk v true (record g { sessions = Some n }) ws after rest refl (later w ws clean) (used (built_of of_sessions) (n ∷ []) (rows_now v rows q)) None (joined_stands of_sessions v has g rows q n st off number))
  shown_walk v free g front after (at_once x y w n ws is plain has off number rest) opened clean rows q st =
      spaced_goes_on of_at_once v g w n (ws ++ word_for t ∷ more) has rows q st (kind_for t ∷ []) is plain
      (shown_walk v true (record g { at_once = Some n }) ws after rest refl (later n ws (later w (n ∷ ws) clean)) (rows_now v rows q) (Some (id_of of_at_once, n ∷ [])) (given_stands of_at_once v has g rows q n st off number))
  shown_walk v free g front after (at_once_joined x y w n ws is has off number rest) opened clean rows q st =
      joined_goes_on of_at_once v g w n (ws ++ word_for t ∷ more) has rows q st (kind_for t ∷ []) is off number
      (shown_walk v true (record g { at_once = Some n }) ws after rest refl (later w ws clean) (used (built_of of_at_once) (n ∷ []) (rows_now v rows q)) None (joined_stands of_at_once v has g rows q n st off number))
  shown_walk v free g front after (sync x y w n ws is plain has off rest) opened clean rows q st =
      spaced_goes_on of_sync v g w n (ws ++ word_for t ∷ more) has rows q st (kind_for t ∷ []) is plain
      (shown_walk v true (record g { sync = Some n }) ws after rest refl (later n ws (later w (n ∷ ws) clean)) (rows_now v rows q) (Some (id_of of_sync, n ∷ [])) (given_stands of_sync v has g rows q n st off tt))
  shown_walk v free g front after (sync_joined x y w n ws is has off rest) opened clean rows q st =
      joined_goes_on of_sync v g w n (ws ++ word_for t ∷ more) has rows q st (kind_for t ∷ []) is off tt
      (shown_walk v true (record g { sync = Some n }) ws after rest refl (later w ws clean) (used (built_of of_sync) (n ∷ []) (rows_now v rows q)) None (joined_stands of_sync v has g rows q n st off tt))
  shown_walk v free g front after (traces x y w n ws is plain has off number rest) opened clean rows q st =
      spaced_goes_on of_traces v g w n (ws ++ word_for t ∷ more) has rows q st (kind_for t ∷ []) is plain
      (shown_walk v true (record g { traces = Some n }) ws after rest refl (later n ws (later w (n ∷ ws) clean)) (rows_now v rows q) (Some (id_of of_traces, n ∷ [])) (given_stands of_traces v has g rows q n st off number))
  shown_walk v free g front after (traces_joined x y w n ws is has off number rest) opened clean rows q st =
      joined_goes_on of_traces v g w n (ws ++ word_for t ∷ more) has rows q st (kind_for t ∷ []) is off number
      (shown_walk v true (record g { traces = Some n }) ws after rest refl (later w ws clean) (used (built_of of_traces) (n ∷ []) (rows_now v rows q)) None (joined_stands of_traces v has g rows q n st off number))
  shown_walk v free g front after (past x y w n ws is plain has rest) opened clean rows q st =
      spaced_goes_on of_past v g w n (ws ++ word_for t ∷ more) has rows q st (kind_for t ∷ []) is plain
      (shown_walk v true (record g { past = g.past ++ n ∷ [] }) ws after rest refl (later n ws (later w (n ∷ ws) clean)) (rows_now v rows q) (Some (id_of of_past, n ∷ [])) (given_stands of_past v has g rows q n st tt tt))
  shown_walk v free g front after (past_joined x y w n ws is has rest) opened clean rows q st =
      joined_goes_on of_past v g w n (ws ++ word_for t ∷ more) has rows q st (kind_for t ∷ []) is tt tt
      (shown_walk v true (record g { past = g.past ++ n ∷ [] }) ws after rest refl (later w ws clean) (used (built_of of_past) (n ∷ []) (rows_now v rows q)) None (joined_stands of_past v has g rows q n st tt tt))
  shown_walk v free g front after (ends_flags x y w ws is rest) opened clean rows q st = absurd (no_dashes w ws is clean)

-- ---- the whole line

second_fault : (a : Faults) (k : ErrorKind) → a ≡ [] → or_else a (k ∷ []) ≡ k ∷ []
second_fault a k e = ap (λ x. or_else x (k ∷ [])) e

first_fault : (a rest : Faults) (k : ErrorKind) → a ≡ k ∷ [] → or_else a rest ≡ k ∷ []
first_fault a rest k e = ap (λ x. or_else x rest) e

shown_level : (v : Verb) (ws : List Text) (k : ErrorKind) → walk_fault (leaf v) [] start ws ≡ k ∷ [] → level_fault (leaf v) [] nothing_held ws false [] ≡ k ∷ []
shown_level v ws k e = first_fault (walk_fault (leaf v) [] start ws) _ k e

shown_verb : (v : Verb) (ws : List Text) (k : ErrorKind) → level_fault (leaf v) [] nothing_held ws false [] ≡ k ∷ [] → built_fault whole nothing_held (name_of v ∷ ws) ≡ k ∷ []
shown_verb v ws k e = whole_is v ws ∙ ap (level_fault top names nothing_held (name_of v ∷ ws) true) e ∙ second_fault (walk_fault top names start (name_of v ∷ ws)) k (verb_walks v ws)

top_walk : (t : Topic) (more : List Text) → walk_fault top names start (word_for t ∷ more) ≡ kind_for t ∷ []
unfolding walk_fault
top_walk help more = refl
top_walk version more = refl

shown_top : (t : Topic) (more : List Text) → built_fault whole nothing_held (word_for t ∷ more) ≡ kind_for t ∷ []
shown_top t more = first_fault (walk_fault top names start (word_for t ∷ more)) _ (kind_for t) (top_walk t more)

pub shows_fault : (words : List Text) (t : Topic) → Shows words t → fault_of program words ≡ kind_for t ∷ []
shows_fault words t (of_program p more is) = ap (fault_of program) is ∙ shown_top t more
shows_fault words t (of_verb p v front more g is gives clean) =
    ap (fault_of program) is
    ∙ shown_verb v (front ++ word_for t ∷ more) (kind_for t)
    (shown_level v (front ++ word_for t ∷ more) (kind_for t) (shown_walk t more v true nothing front g gives refl clean [] None (nothing_stands v)))

-- the kind of the error, and that there is one
pub shown_kind : (words : List Text) (t : Topic) (e : Error) → Shows words t → HasKind (fault_of program words) e → (kind_of e ≡ OutOfMemory) ⊎ (kind_of e ≡ kind_for t)
shown_kind words t e shows has = go (subst (λ ks. HasKind ks e) (shows_fault words t shows) has)
  where
    go : HasKind (kind_for t ∷ []) e → (kind_of e ≡ OutOfMemory) ⊎ (kind_of e ≡ kind_for t)
    go (inl memory) = inl memory
    go (inr (inl is)) = inr is
    go (inr (inr nothing)) = absurd nothing

pub shown_fails : (words : List Text) (t : Topic) → Shows words t → fault_of program words ≡ [] → ⊥
shown_fails words t shows none = some_fault _ _ (sym (shows_fault words t shows) ∙ none)

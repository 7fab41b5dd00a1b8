-- A walk over words does not fail exactly where they give something, and finds that.
use Rattle.std.proofs.Common.{◌≡◌, ◌∙◌, ◌++◌, ◌&&◌, ◌==◌, inl, inr, cond, not, Bool, true, false, ℕ, List, [], ◌∷◌, Option, Some, None, refl, sym, ap, subst, bytes_eq, codes, fold, slice_get, ap₂}
use Rattle.std.specs.Prelude.{⊤, unwrap_or}
use Rattle.std.specs.Option.{option_map_or}
use Rattle.std.specs.Str.{chars}
use Rattle.clap.specs.Lexer.{long_of, name_and_value, short_of}
use Rattle.clap.specs.Walk.{Held, Row, Text, Waiting, Walk, idle, option, arg_by_index, is_pending, positional_held, pushed, settled, subcommand_met, takes_several, to_positional, used, used_by_id, value, walked}
use Rattle.clap.specs.Values.{reading_of}
use Rattle.clap.specs.Kinds.{Kinds as Faults, or_else}
use Rattle.clap.specs.Faults.{positional_fault, settle_fault, short_fault, step_fault, stray_fault, turn_fault, use_fault, walk_fault}
use Rattle.clap.specs.declared.builder.value_parser.Reading.TheVariants.{AsWritten}
use Rattle.clap.specs.declared.parser.matches.ValueSource.TheVariants.{CommandLine}
use Rattle.clap.proofs.LexerLemmas.{name_and_value-at}
use Rattle.command_line.specs.Forms.{Verb, paths, check, run, audit, attempt, serve, keep, has_explain, has_stop, has_stuck, is_bare, Given, Takes, Gives, ends, word, explain, silence, stop, stuck, sessions, joined, at_once, at_once_joined, sync, sync_joined, traces, traces_joined, past, past_joined, hyphens as ends_flags}
use Rattle.command_line.proofs.Choices.{Choice, of_sessions, of_at_once, of_sync, of_traces, of_past, id_of, word_of, joined_of, built_of, has_choice, Open, choose, Allows, by_choice, by_stop, by_stuck}
use Rattle.command_line.proofs.Rows.{seen, row_with, used_new}
use Rattle.command_line.proofs.Sorts.{bare, hyphens, long, short, kind, bare_word, dashes, Cut, whole, parts, cut, sessions_lacks, at_once_lacks, sync_lacks, traces_lacks, past_lacks}
use Rattle.command_line.proofs.Turns.{some_fault, first_of, then_of, neither, stands, bare_fault, bare_after, long_first, long_turn, long_after, short_first, bundle_first, value_fault, value_after}
use Rattle.command_line.proofs.Levels.{rules, leaf, place_rule, place_after, text_row, Place, place, flag, short_is}
use Rattle.command_line.proofs.Steps.{held, at, rows_now, settle, flag_seen, Holding, Stands, and_false, or_false, word_use, word_accepted, choice_use, choice_used, flag_use, flag_used, not_given, Fresh, rows_with, opens, fresh, holds_explain, holds_silence, holds_stop, holds_stuck, holds_choice, holds_word}
use Rattle.command_line.proofs.Uses.{Passes, is_explain, is_silence, is_stop, is_stuck, is_joined, is_spaced, passes, short_fails}

abbrev pub end_of : Verb → Walk → List Text → Held
end_of v w ws = (fold (walked (rules v) []) w ws).held

-- the faults of a walk, and of what is pending at its end
abbrev pub tail_fault : Verb → Walk → List Text → Faults
tail_fault v w ws = or_else (walk_fault (leaf v) [] w ws) (settle_fault (rules v) false (end_of v w ws))

pub record Ended (v : Verb) (g : Given) (h : Held) : Type 0 where
  pub rows : List Row
  pub pending : Option (Text × List Text)
  pub is : h ≡ held rows pending
  pub stands : Stands v g rows pending

module _ (v : Verb) (W : Walk) (w : Text) (ws : List Text) where
  next_tail : tail_fault v W (w ∷ ws) ≡ [] → (turn_fault (leaf v) [] W w ≡ []) × (tail_fault v (walked (rules v) [] W w) ws ≡ [])
  unfolding walk_fault
  next_tail e =
      let walks = first_of (or_else (turn_fault (leaf v) [] W w) (walk_fault (leaf v) [] (walked (rules v) [] W w) ws)) (settle_fault (rules v) false (end_of v W (w ∷ ws))) e in (
        first_of (turn_fault (leaf v) [] W w) _ walks,
        neither _ _ (then_of (turn_fault (leaf v) [] W w) _ walks) (then_of (or_else (turn_fault (leaf v) [] W w) (walk_fault (leaf v) [] (walked (rules v) [] W w) ws)) _ e),
      )

  back_tail : turn_fault (leaf v) [] W w ≡ [] → tail_fault v (walked (rules v) [] W w) ws ≡ [] → tail_fault v W (w ∷ ws) ≡ []
  unfolding walk_fault
  back_tail turn rest =
      neither _ _ (neither _ _ turn (first_of (walk_fault (leaf v) [] (walked (rules v) [] W w) ws) _ rest))
      (then_of (walk_fault (leaf v) [] (walked (rules v) [] W w) ws) _ rest)

-- ---- a word

module _ (v : Verb) (words : List Text) (p : Place v words) (rows : List Row) (q : Option (Text × List Text)) where
  several : (h : Held) → (is_pending (place_rule (place_after words) p.name p.parser p.must) h.pending && takes_several (place_rule (place_after words) p.name p.parser p.must)) ≡ false
  several h = and_false (is_pending (place_rule (place_after words) p.name p.parser p.must) h.pending)

  step_is : step_fault (leaf v) (place_after words) (held rows q) value ≡ settle v rows q
  step_is = ap (λ a. option_map_or (λ a. positional_fault (rules v) false a (held rows q)) a (stray_fault (leaf v))) p.indexed
      ∙ ap (λ b. cond b [] (settle v rows q)) (several (held rows q))

  pub word_turn : (free : Bool) (w : Text) → (free ≡ true → is_bare w ≡ true) → turn_fault (leaf v) [] (at free (place_after words) (held rows q)) w ≡ settle v rows q
  word_turn true w is = bare_fault (leaf v) [] (place_after words) (held rows q) w (bare_word w (is refl)) refl refl ∙ step_is
  word_turn false w is = step_is

  goes_to : (free : Bool) (w : Text) → to_positional (rules v) (arg_by_index (rules v) (place_after words)) w (at free (place_after words) (held rows q)) (held rows q)
      ≡ at free (place_after (words ++ w ∷ [])) (held (rows_now v rows q) (Some (p.name, w ∷ [])))
  goes_to free w =
      let kept : positional_held (rules v) (place_rule (place_after words) p.name p.parser p.must) w (held rows q) ≡ held (rows_now v rows q) (Some (p.name, w ∷ [])) =
      ap (λ b. pushed p.name w (cond b (held rows q) (settled (rules v) (held rows q)))) (several (held rows q)) in
      let place_next = p.next w in
      let closed = or_false (not free) in
      let made : to_positional (rules v) (Some (place_rule (place_after words) p.name p.parser p.must)) w (at free (place_after words) (held rows q)) (held rows q)
      ≡ at free (place_after (words ++ w ∷ [])) (held (rows_now v rows q) (Some (p.name, w ∷ []))) =
      λ i. record { held = kept i; waiting = idle; position = place_next i; is_trailing = closed i; stopped = None } in
      ap (λ a. to_positional (rules v) a w (at free (place_after words) (held rows q)) (held rows q)) p.indexed ∙ made

  pub word_after : (free : Bool) (w : Text) → (free ≡ true → is_bare w ≡ true) → walked (rules v) [] (at free (place_after words) (held rows q)) w
      ≡ at free (place_after (words ++ w ∷ [])) (held (rows_now v rows q) (Some (p.name, w ∷ [])))
  unfolding walked
  word_after true w is = bare_after (leaf v) [] (place_after words) (held rows q) w (bare_word w (is refl)) refl refl ∙ goes_to true w
  word_after false w is = goes_to false w

  -- what is pending then
  pending_is : (w : Text) (now : List Row) → settle v now (Some (p.name, w ∷ [])) ≡ use_fault false (place_rule (place_after words) p.name p.parser p.must) (w ∷ []) now
  pending_is w now = ap (λ o. option_map_or (λ a. use_fault false a (w ∷ []) now) o []) p.by_id

  rows_then : (w : Text) (now : List Row) → seen p.name now ≡ None → rows_now v now (Some (p.name, w ∷ [])) ≡ now ++ text_row p.name w ∷ []
  rows_then w now none =
      ap (λ o. used_by_id o (w ∷ []) now) p.by_id
      ∙ used_new p.name (reading_of p.parser) (w ∷ []) now none
      ∙ ap (λ r. now ++ row_with CommandLine p.name r (w ∷ []) ∷ []) p.read

pub word_stands : (v : Verb) (g : Given) (rows : List Row) (q : Option (Text × List Text)) (p : Place v g.words) (w : Text) → Stands v g rows q → Takes v g.words w
    → Stands v (record g { words = g.words ++ w ∷ [] }) (rows_now v rows q) (Some (p.name, w ∷ []))
word_stands v g rows q p w st takes =
    let none = p.unseen (rows_now v rows q) st.holds.places in record {
      valid = pending_is v g.words p rows q w (rows_now v rows q) ∙ word_use (place_after g.words) p.name p.parser p.must w (rows_now v rows q) none (p.takes w takes);
      holds = subst (Holding v (record g { words = g.words ++ w ∷ [] })) (sym (rows_then v g.words p rows q w (rows_now v rows q) none))
          (holds_word v g (rows_now v rows q) st.holds p w takes);
    }

-- ---- hyphens

hyphens_turn : (v : Verb) (k : ℕ) (h : Held) → turn_fault (leaf v) [] (at true k h) dashes ≡ []
hyphens_turn v k h = refl

hyphens_after : (v : Verb) (k : ℕ) (h : Held) → walked (rules v) [] (at true k h) dashes ≡ at false k h
unfolding walked
hyphens_after v k h = refl

-- ---- flags

dashed_id : (o : Choice) → 45 ∷ 45 ∷ id_of o ≡ word_of o
dashed_id of_sessions = refl
dashed_id of_at_once = refl
dashed_id of_sync = refl
dashed_id of_traces = refl
dashed_id of_past = refl

dashed_value : (o : Choice) (n : Text) → 45 ∷ 45 ∷ (id_of o ++ 61 ∷ n) ≡ joined_of o n
dashed_value of_sessions n = refl
dashed_value of_at_once n = refl
dashed_value of_sync n = refl
dashed_value of_traces n = refl
dashed_value of_past n = refl

-- a long word with a value in it
joined_long : (o : Choice) (n : Text) → long_of (joined_of o n) ≡ Some (id_of o, Some n)
joined_long of_sessions n = ap (λ x. Some x) (name_and_value-at (codes "sessions") n sessions_lacks)
joined_long of_at_once n = ap (λ x. Some x) (name_and_value-at (codes "at-once") n at_once_lacks)
joined_long of_sync n = ap (λ x. Some x) (name_and_value-at (codes "sync") n sync_lacks)
joined_long of_traces n = ap (λ x. Some x) (name_and_value-at (codes "traces") n traces_lacks)
joined_long of_past n = ap (λ x. Some x) (name_and_value-at (codes "past") n past_lacks)

module _ (k : ℕ) (rows : List Row) (q : Option (Text × List Text)) where
  pub explain_turn : (v : Verb) → has_explain v ≡ true → turn_fault (leaf v) [] (at true k (held rows q)) (codes "--explain")
      ≡ or_else (or_else (settle v rows q) (use_fault false (flag (codes "explain")) [] (rows_now v rows q))) []
  explain_turn paths has = absurd (clash has)
    where
      clash : false ≡ true → ⊥
      clash x = cc
  explain_turn check has = long_turn (leaf check) [] k (held rows q) idle (codes "--explain") refl refl (codes "explain", None) refl
  explain_turn run has = long_turn (leaf run) [] k (held rows q) idle (codes "--explain") refl refl (codes "explain", None) refl
  explain_turn audit has = long_turn (leaf audit) [] k (held rows q) idle (codes "--explain") refl refl (codes "explain", None) refl
  explain_turn attempt has = long_turn (leaf attempt) [] k (held rows q) idle (codes "--explain") refl refl (codes "explain", None) refl
  explain_turn serve has = long_turn (leaf serve) [] k (held rows q) idle (codes "--explain") refl refl (codes "explain", None) refl
  explain_turn keep has = long_turn (leaf keep) [] k (held rows q) idle (codes "--explain") refl refl (codes "explain", None) refl

  pub explain_after : (v : Verb) → has_explain v ≡ true → walked (rules v) [] (at true k (held rows q)) (codes "--explain")
      ≡ at true k (held (used (flag (codes "explain")) [] (rows_now v rows q)) None)
  explain_after paths has = absurd (clash has)
    where
      clash : false ≡ true → ⊥
      clash x = cc
  explain_after check has = long_after (leaf check) [] k (held rows q) idle (codes "--explain") refl refl (codes "explain", None) refl
  explain_after run has = long_after (leaf run) [] k (held rows q) idle (codes "--explain") refl refl (codes "explain", None) refl
  explain_after audit has = long_after (leaf audit) [] k (held rows q) idle (codes "--explain") refl refl (codes "explain", None) refl
  explain_after attempt has = long_after (leaf attempt) [] k (held rows q) idle (codes "--explain") refl refl (codes "explain", None) refl
  explain_after serve has = long_after (leaf serve) [] k (held rows q) idle (codes "--explain") refl refl (codes "explain", None) refl
  explain_after keep has = long_after (leaf keep) [] k (held rows q) idle (codes "--explain") refl refl (codes "explain", None) refl

  pub silence_turn : (v : Verb) → has_explain v ≡ true → turn_fault (leaf v) [] (at true k (held rows q)) (codes "--no-explain")
      ≡ or_else (or_else (settle v rows q) (use_fault false (flag (codes "no-explain")) [] (rows_now v rows q))) []
  silence_turn paths has = absurd (clash has)
    where
      clash : false ≡ true → ⊥
      clash x = cc
  silence_turn check has = long_turn (leaf check) [] k (held rows q) idle (codes "--no-explain") refl refl (codes "no-explain", None) refl
  silence_turn run has = long_turn (leaf run) [] k (held rows q) idle (codes "--no-explain") refl refl (codes "no-explain", None) refl
  silence_turn audit has = long_turn (leaf audit) [] k (held rows q) idle (codes "--no-explain") refl refl (codes "no-explain", None) refl
  silence_turn attempt has = long_turn (leaf attempt) [] k (held rows q) idle (codes "--no-explain") refl refl (codes "no-explain", None) refl
  silence_turn serve has = long_turn (leaf serve) [] k (held rows q) idle (codes "--no-explain") refl refl (codes "no-explain", None) refl
  silence_turn keep has = long_turn (leaf keep) [] k (held rows q) idle (codes "--no-explain") refl refl (codes "no-explain", None) refl

  pub silence_after : (v : Verb) → has_explain v ≡ true → walked (rules v) [] (at true k (held rows q)) (codes "--no-explain")
      ≡ at true k (held (used (flag (codes "no-explain")) [] (rows_now v rows q)) None)
  silence_after paths has = absurd (clash has)
    where
      clash : false ≡ true → ⊥
      clash x = cc
  silence_after check has = long_after (leaf check) [] k (held rows q) idle (codes "--no-explain") refl refl (codes "no-explain", None) refl
  silence_after run has = long_after (leaf run) [] k (held rows q) idle (codes "--no-explain") refl refl (codes "no-explain", None) refl
  silence_after audit has = long_after (leaf audit) [] k (held rows q) idle (codes "--no-explain") refl refl (codes "no-explain", None) refl
  silence_after attempt has = long_after (leaf attempt) [] k (held rows q) idle (codes "--no-explain") refl refl (codes "no-explain", None) refl
  silence_after serve has = long_after (leaf serve) [] k (held rows q) idle (codes "--no-explain") refl refl (codes "no-explain", None) refl
  silence_after keep has = long_after (leaf keep) [] k (held rows q) idle (codes "--no-explain") refl refl (codes "no-explain", None) refl

  module _ (v : Verb) (has : has_stop v ≡ true) where
    pub stop_turn : turn_fault (leaf v) [] (at true k (held rows q)) (codes "--stop-with-input")
        ≡ or_else (or_else (settle v rows q) (use_fault false (flag (codes "stop-with-input")) [] (rows_now v rows q))) []
    stop_turn = by_stop (λ v. turn_fault (leaf v) [] (at true k (held rows q)) (codes "--stop-with-input")
        ≡ or_else (or_else (settle v rows q) (use_fault false (flag (codes "stop-with-input")) [] (rows_now v rows q))) [])
        (long_turn (leaf serve) [] k (held rows q) idle (codes "--stop-with-input") refl refl (codes "stop-with-input", None) refl)
        (long_turn (leaf keep) [] k (held rows q) idle (codes "--stop-with-input") refl refl (codes "stop-with-input", None) refl) v has

    pub stop_after : walked (rules v) [] (at true k (held rows q)) (codes "--stop-with-input") ≡ at true k (held (used (flag (codes "stop-with-input")) [] (rows_now v rows q)) None)
    stop_after = by_stop (λ v. walked (rules v) [] (at true k (held rows q)) (codes "--stop-with-input") ≡ at true k (held (used (flag (codes "stop-with-input")) [] (rows_now v rows q)) None))
        (long_after (leaf serve) [] k (held rows q) idle (codes "--stop-with-input") refl refl (codes "stop-with-input", None) refl)
        (long_after (leaf keep) [] k (held rows q) idle (codes "--stop-with-input") refl refl (codes "stop-with-input", None) refl) v has

  module _ (v : Verb) (has : has_stuck v ≡ true) where
    pub stuck_turn : turn_fault (leaf v) [] (at true k (held rows q)) (codes "--stuck")
        ≡ or_else (or_else (settle v rows q) (use_fault false (flag (codes "stuck")) [] (rows_now v rows q))) []
    stuck_turn = by_stuck (λ v. turn_fault (leaf v) [] (at true k (held rows q)) (codes "--stuck")
        ≡ or_else (or_else (settle v rows q) (use_fault false (flag (codes "stuck")) [] (rows_now v rows q))) [])
        (long_turn (leaf check) [] k (held rows q) idle (codes "--stuck") refl refl (codes "stuck", None) refl) v has

    pub stuck_after : walked (rules v) [] (at true k (held rows q)) (codes "--stuck") ≡ at true k (held (used (flag (codes "stuck")) [] (rows_now v rows q)) None)
    stuck_after = by_stuck (λ v. walked (rules v) [] (at true k (held rows q)) (codes "--stuck") ≡ at true k (held (used (flag (codes "stuck")) [] (rows_now v rows q)) None))
        (long_after (leaf check) [] k (held rows q) idle (codes "--stuck") refl refl (codes "stuck", None) refl) v has

  -- the option that waits for its value
  abbrev pub waits : Choice → Verb → Walk
  waits o v = record { held = held (rows_now v rows q) (Some (id_of o, [])); waiting = option (id_of o); position = k; is_trailing = false; stopped = None }

  module _ (o : Choice) (v : Verb) (has : has_choice o v ≡ true) where
    pub joined_turn : (n : Text) → turn_fault (leaf v) [] (at true k (held rows q)) (joined_of o n)
        ≡ or_else (or_else (settle v rows q) (use_fault false (built_of o) (n ∷ []) (rows_now v rows q))) []
    joined_turn n = by_choice (λ o v. turn_fault (leaf v) [] (at true k (held rows q)) (joined_of o n)
        ≡ or_else (or_else (settle v rows q) (use_fault false (built_of o) (n ∷ []) (rows_now v rows q))) [])
        (long_turn (leaf serve) [] k (held rows q) idle (codes "--sessions=" ++ n) refl refl (codes "sessions", Some n) (joined_long of_sessions n))
        (long_turn (leaf keep) [] k (held rows q) idle (codes "--at-once=" ++ n) refl refl (codes "at-once", Some n) (joined_long of_at_once n))
        (long_turn (leaf keep) [] k (held rows q) idle (codes "--sync=" ++ n) refl refl (codes "sync", Some n) (joined_long of_sync n))
        (long_turn (leaf keep) [] k (held rows q) idle (codes "--traces=" ++ n) refl refl (codes "traces", Some n) (joined_long of_traces n))
        (long_turn (leaf keep) [] k (held rows q) idle (codes "--past=" ++ n) refl refl (codes "past", Some n) (joined_long of_past n)) o v has

    pub joined_after : (n : Text) → walked (rules v) [] (at true k (held rows q)) (joined_of o n) ≡ at true k (held (used (built_of o) (n ∷ []) (rows_now v rows q)) None)
    joined_after n = by_choice (λ o v. walked (rules v) [] (at true k (held rows q)) (joined_of o n) ≡ at true k (held (used (built_of o) (n ∷ []) (rows_now v rows q)) None))
        (long_after (leaf serve) [] k (held rows q) idle (codes "--sessions=" ++ n) refl refl (codes "sessions", Some n) (joined_long of_sessions n))
        (long_after (leaf keep) [] k (held rows q) idle (codes "--at-once=" ++ n) refl refl (codes "at-once", Some n) (joined_long of_at_once n))
        (long_after (leaf keep) [] k (held rows q) idle (codes "--sync=" ++ n) refl refl (codes "sync", Some n) (joined_long of_sync n))
        (long_after (leaf keep) [] k (held rows q) idle (codes "--traces=" ++ n) refl refl (codes "traces", Some n) (joined_long of_traces n))
        (long_after (leaf keep) [] k (held rows q) idle (codes "--past=" ++ n) refl refl (codes "past", Some n) (joined_long of_past n)) o v has

    pub spaced_turn : turn_fault (leaf v) [] (at true k (held rows q)) (word_of o) ≡ or_else (settle v rows q) []
    spaced_turn = by_choice (λ o v. turn_fault (leaf v) [] (at true k (held rows q)) (word_of o) ≡ or_else (settle v rows q) [])
        (long_turn (leaf serve) [] k (held rows q) idle (codes "--sessions") refl refl (codes "sessions", None) refl)
        (long_turn (leaf keep) [] k (held rows q) idle (codes "--at-once") refl refl (codes "at-once", None) refl)
        (long_turn (leaf keep) [] k (held rows q) idle (codes "--sync") refl refl (codes "sync", None) refl)
        (long_turn (leaf keep) [] k (held rows q) idle (codes "--traces") refl refl (codes "traces", None) refl)
        (long_turn (leaf keep) [] k (held rows q) idle (codes "--past") refl refl (codes "past", None) refl) o v has

    pub spaced_after : walked (rules v) [] (at true k (held rows q)) (word_of o) ≡ waits o v
    spaced_after = by_choice (λ o v. walked (rules v) [] (at true k (held rows q)) (word_of o) ≡ waits o v)
        (long_after (leaf serve) [] k (held rows q) idle (codes "--sessions") refl refl (codes "sessions", None) refl)
        (long_after (leaf keep) [] k (held rows q) idle (codes "--at-once") refl refl (codes "at-once", None) refl)
        (long_after (leaf keep) [] k (held rows q) idle (codes "--sync") refl refl (codes "sync", None) refl)
        (long_after (leaf keep) [] k (held rows q) idle (codes "--traces") refl refl (codes "traces", None) refl)
        (long_after (leaf keep) [] k (held rows q) idle (codes "--past") refl refl (codes "past", None) refl) o v has

    pub given_turn : (n : Text) → is_bare n ≡ true → turn_fault (leaf v) [] (waits o v) n ≡ []
    given_turn n is = by_choice (λ o v. turn_fault (leaf v) [] (waits o v) n ≡ [])
        (value_fault (leaf serve) [] k (held (rows_now serve rows q) (Some (codes "sessions", []))) (codes "sessions") n (bare_word n is) refl)
        (value_fault (leaf keep) [] k (held (rows_now keep rows q) (Some (codes "at-once", []))) (codes "at-once") n (bare_word n is) refl)
        (value_fault (leaf keep) [] k (held (rows_now keep rows q) (Some (codes "sync", []))) (codes "sync") n (bare_word n is) refl)
        (value_fault (leaf keep) [] k (held (rows_now keep rows q) (Some (codes "traces", []))) (codes "traces") n (bare_word n is) refl)
        (value_fault (leaf keep) [] k (held (rows_now keep rows q) (Some (codes "past", []))) (codes "past") n (bare_word n is) refl) o v has

    pub given_after : (n : Text) → is_bare n ≡ true → walked (rules v) [] (waits o v) n ≡ at true k (held (rows_now v rows q) (Some (id_of o, n ∷ [])))
    given_after n is = by_choice (λ o v. walked (rules v) [] (waits o v) n ≡ at true k (held (rows_now v rows q) (Some (id_of o, n ∷ []))))
        (value_after (leaf serve) [] k (held (rows_now serve rows q) (Some (codes "sessions", []))) (codes "sessions") n (bare_word n is) refl)
        (value_after (leaf keep) [] k (held (rows_now keep rows q) (Some (codes "at-once", []))) (codes "at-once") n (bare_word n is) refl)
        (value_after (leaf keep) [] k (held (rows_now keep rows q) (Some (codes "sync", []))) (codes "sync") n (bare_word n is) refl)
        (value_after (leaf keep) [] k (held (rows_now keep rows q) (Some (codes "traces", []))) (codes "traces") n (bare_word n is) refl)
        (value_after (leaf keep) [] k (held (rows_now keep rows q) (Some (codes "past", []))) (codes "past") n (bare_word n is) refl) o v has

    -- the option does not do without a value
    pub no_value : settle v (rows_now v rows q) (Some (id_of o, [])) ≡ [] → ⊥
    no_value = by_choice (λ o v. settle v (rows_now v rows q) (Some (id_of o, [])) ≡ [] → ⊥) (λ e. some_fault _ _ e) (λ e. some_fault _ _ e) (λ e. some_fault _ _ e) (λ e. some_fault _ _ e) (λ e. some_fault _ _ e) o v has

    pub value_is : (n : Text) → settle v (rows_now v rows q) (Some (id_of o, n ∷ [])) ≡ use_fault false (built_of o) (n ∷ []) (rows_now v rows q)
    value_is n = by_choice (λ o v. settle v (rows_now v rows q) (Some (id_of o, n ∷ [])) ≡ use_fault false (built_of o) (n ∷ []) (rows_now v rows q)) refl refl refl refl refl o v has

    -- the rows once its value is used
    pub joined_rows : (n : Text) → Fresh o (rows_now v rows q) → used (built_of o) (n ∷ []) (rows_now v rows q) ≡ rows_with o n (rows_now v rows q)
    joined_rows n fresh_rows = by_choice (λ o v. Fresh o (rows_now v rows q) → used (built_of o) (n ∷ []) (rows_now v rows q) ≡ rows_with o n (rows_now v rows q))
        (λ none. used_new (codes "sessions") AsWritten (n ∷ []) (rows_now serve rows q) none)
        (λ none. used_new (codes "at-once") AsWritten (n ∷ []) (rows_now keep rows q) none)
        (λ none. used_new (codes "sync") AsWritten (n ∷ []) (rows_now keep rows q) none)
        (λ none. used_new (codes "traces") AsWritten (n ∷ []) (rows_now keep rows q) none)
        (λ none. refl) o v has fresh_rows

    pub given_rows : (n : Text) → Fresh o (rows_now v rows q) → rows_now v (rows_now v rows q) (Some (id_of o, n ∷ [])) ≡ rows_with o n (rows_now v rows q)
    given_rows n fresh_rows = by_choice (λ o v. Fresh o (rows_now v rows q) → rows_now v (rows_now v rows q) (Some (id_of o, n ∷ [])) ≡ rows_with o n (rows_now v rows q))
        (λ none. used_new (codes "sessions") AsWritten (n ∷ []) (rows_now serve rows q) none)
        (λ none. used_new (codes "at-once") AsWritten (n ∷ []) (rows_now keep rows q) none)
        (λ none. used_new (codes "sync") AsWritten (n ∷ []) (rows_now keep rows q) none)
        (λ none. used_new (codes "traces") AsWritten (n ∷ []) (rows_now keep rows q) none)
        (λ none. refl) o v has fresh_rows

-- ---- what stands after a flag

pub explain_stands : (v : Verb) (g : Given) (rows : List Row) (q : Option (Text × List Text)) → Stands v g rows q → g.explains ≡ false
    → Stands v (record g { explains = true }) (used (flag (codes "explain")) [] (rows_now v rows q)) None
explain_stands v g rows q st off =
    let none : seen (codes "explain") (rows_now v rows q) ≡ None = st.holds.explains ∙ ap (flag_seen (codes "explain")) off in record {
      valid = refl;
      holds = subst (Holding v (record g { explains = true })) (sym (used_new (codes "explain") AsWritten (codes "true" ∷ []) (rows_now v rows q) none))
          (holds_explain v g (rows_now v rows q) st.holds off);
    }

pub silence_stands : (v : Verb) (g : Given) (rows : List Row) (q : Option (Text × List Text)) → Stands v g rows q → g.silent ≡ false
    → Stands v (record g { silent = true }) (used (flag (codes "no-explain")) [] (rows_now v rows q)) None
silence_stands v g rows q st off =
    let none : seen (codes "no-explain") (rows_now v rows q) ≡ None = st.holds.silent ∙ ap (flag_seen (codes "no-explain")) off in record {
      valid = refl;
      holds = subst (Holding v (record g { silent = true })) (sym (used_new (codes "no-explain") AsWritten (codes "true" ∷ []) (rows_now v rows q) none))
          (holds_silence v g (rows_now v rows q) st.holds off);
    }

pub stop_stands : (v : Verb) (g : Given) (rows : List Row) (q : Option (Text × List Text)) → Stands v g rows q → g.stops ≡ false
    → Stands v (record g { stops = true }) (used (flag (codes "stop-with-input")) [] (rows_now v rows q)) None
stop_stands v g rows q st off =
    let none : seen (codes "stop-with-input") (rows_now v rows q) ≡ None = st.holds.stops ∙ ap (flag_seen (codes "stop-with-input")) off in record {
      valid = refl;
      holds = subst (Holding v (record g { stops = true })) (sym (used_new (codes "stop-with-input") AsWritten (codes "true" ∷ []) (rows_now v rows q) none))
          (holds_stop v g (rows_now v rows q) st.holds off);
    }

pub stuck_stands : (v : Verb) (g : Given) (rows : List Row) (q : Option (Text × List Text)) → Stands v g rows q → g.stuck ≡ false
    → Stands v (record g { stuck = true }) (used (flag (codes "stuck")) [] (rows_now v rows q)) None
stuck_stands v g rows q st off =
    let none : seen (codes "stuck") (rows_now v rows q) ≡ None = st.holds.stuck ∙ ap (flag_seen (codes "stuck")) off in record {
      valid = refl;
      holds = subst (Holding v (record g { stuck = true })) (sym (used_new (codes "stuck") AsWritten (codes "true" ∷ []) (rows_now v rows q) none))
          (holds_stuck v g (rows_now v rows q) st.holds off);
    }

module _ (o : Choice) (v : Verb) (has : has_choice o v ≡ true) (g : Given) (rows : List Row) (q : Option (Text × List Text)) (n : Text) (st : Stands v g rows q) (off : Open o g) (is : Allows o n) where
  pub no_choice_row : Fresh o (rows_now v rows q)
  no_choice_row = fresh v g (rows_now v rows q) st.holds o off

  pub joined_stands : Stands v (choose o n g) (used (built_of o) (n ∷ []) (rows_now v rows q)) None
  joined_stands = record {
    valid = refl;
    holds = subst (Holding v (choose o n g)) (sym (joined_rows (place_after g.words) rows q o v has n no_choice_row)) (holds_choice v g (rows_now v rows q) st.holds o n off is);
  }

  pub given_stands : Stands v (choose o n g) (rows_now v rows q) (Some (id_of o, n ∷ []))
  given_stands = record {
    valid = value_is (place_after g.words) rows q o v has n ∙ choice_use o n (rows_now v rows q) no_choice_row is;
    holds = subst (Holding v (choose o n g)) (sym (given_rows (place_after g.words) rows q o v has n no_choice_row)) (holds_choice v g (rows_now v rows q) st.holds o n off is);
  }

-- ---- words that give something do not fail

abbrev pub Completes : Verb → Bool → Given → List Text → Given → List Row → Option (Text × List Text) → Type 0
Completes v free g ws after rows q = (tail_fault v (at free (place_after g.words) (held rows q)) ws ≡ []) × Ended v after (end_of v (at free (place_after g.words) (held rows q)) ws)

-- one more word before words that do not fail
one_more : (v : Verb) (W W2 : Walk) (w : Text) (ws : List Text) (after : Given) → turn_fault (leaf v) [] W w ≡ [] → walked (rules v) [] W w ≡ W2
    → (tail_fault v W2 ws ≡ []) × Ended v after (end_of v W2 ws) → (tail_fault v W (w ∷ ws) ≡ []) × Ended v after (end_of v W (w ∷ ws))
one_more v W W2 w ws after turn goes rest =
    (back_tail v W w ws turn (ap (λ x. tail_fault v x ws) goes ∙ rest.0), subst (λ x. Ended v after (end_of v x ws)) (sym goes) rest.1)

pub none_left : (v : Verb) (w : Text) (words : List Text) → Takes v words w → arg_by_index (rules v) (place_after words) ≡ None → ⊥
none_left paths w [] t e = t
none_left paths w (a ∷ more) t e = t
none_left check w [] t e = cc
none_left check w (a ∷ more) t e = t
none_left run w [] t e = cc
none_left run w (a ∷ []) t e = cc
none_left run w (a ∷ b ∷ more) t e = t
none_left audit w [] t e = cc
none_left attempt w [] t e = cc
none_left audit w (a ∷ []) t e = cc
none_left attempt w (a ∷ []) t e = cc
none_left audit w (a ∷ b ∷ more) t e = t
none_left attempt w (a ∷ b ∷ more) t e = t
none_left serve w [] t e = cc
none_left serve w (a ∷ []) t e = cc
none_left serve w (a ∷ b ∷ []) t e = cc
none_left serve w (a ∷ b ∷ c ∷ more) t e = t
none_left keep w [] t e = cc
none_left keep w (a ∷ []) t e = cc
none_left keep w (a ∷ b ∷ []) t e = cc
none_left keep w (a ∷ b ∷ c ∷ more) t e = t

clash : false ≡ true → ⊥
clash x = cc

empty_tail : (v : Verb) (W : Walk) → tail_fault v W [] ≡ settle_fault (rules v) false W.held
unfolding walk_fault
empty_tail v W = refl

-- an option with its value in the next word, or in the same word, before words that do not fail
module _ (o : Choice) (v : Verb) (g : Given) (w n : Text) (more : List Text) (after : Given) (has : has_choice o v ≡ true) (off : Open o g) (allowed : Allows o n)
    (rows : List Row) (q : Option (Text × List Text)) (st : Stands v g rows q) where
  abbrev k : ℕ
  k = place_after g.words

  spaced_more : w ≡ word_of o → is_bare n ≡ true
      → (tail_fault v (at true k (held (rows_now v rows q) (Some (id_of o, n ∷ [])))) more ≡ []) × Ended v after (end_of v (at true k (held (rows_now v rows q) (Some (id_of o, n ∷ [])))) more)
      → Completes v true g (w ∷ n ∷ more) after rows q
  spaced_more is plain rest =
      one_more v (at true k (held rows q)) (waits k rows q o v) w (n ∷ more) after
      (ap (λ x. turn_fault (leaf v) [] (at true k (held rows q)) x) is ∙ spaced_turn k rows q o v has ∙ neither _ _ st.valid refl)
      (ap (λ x. walked (rules v) [] (at true k (held rows q)) x) is ∙ spaced_after k rows q o v has)
      (one_more v (waits k rows q o v) (at true k (held (rows_now v rows q) (Some (id_of o, n ∷ [])))) n more after (given_turn k rows q o v has n plain) (given_after k rows q o v has n plain) rest)

  joined_more : w ≡ joined_of o n
      → (tail_fault v (at true k (held (used (built_of o) (n ∷ []) (rows_now v rows q)) None)) more ≡ []) × Ended v after (end_of v (at true k (held (used (built_of o) (n ∷ []) (rows_now v rows q)) None)) more)
      → Completes v true g (w ∷ more) after rows q
  joined_more is rest =
      one_more v (at true k (held rows q)) (at true k (held (used (built_of o) (n ∷ []) (rows_now v rows q)) None)) w more after
      (ap (λ x. turn_fault (leaf v) [] (at true k (held rows q)) x) is ∙ joined_turn k rows q o v has n
      ∙ neither _ _ (neither _ _ st.valid (choice_use o n (rows_now v rows q) (no_choice_row o v has g rows q n st off allowed) allowed)) refl)
      (ap (λ x. walked (rules v) [] (at true k (held rows q)) x) is ∙ joined_after k rows q o v has n)
      rest

pub completes : (v : Verb) (free : Bool) (g : Given) (ws : List Text) (after : Given) → Gives v free g ws after
    → (rows : List Row) (q : Option (Text × List Text)) → Stands v g rows q → Completes v free g ws after rows q
completes v free g ws after (ends f x) rows q st =
    (empty_tail v (at free (place_after g.words) (held rows q)) ∙ st.valid, record { rows = rows; pending = q; is = refl; stands = st })
completes v free g ws after (word f x y w more is takes rest) rows q st = elim (place v g.words) [
  | inl p ↦ one_more v (at free (place_after g.words) (held rows q)) (at free (place_after (g.words ++ w ∷ [])) (held (rows_now v rows q) (Some (p.name, w ∷ [])))) w more after
      (word_turn v g.words p rows q free w is ∙ st.valid) (word_after v g.words p rows q free w is)
      (completes v free (record g { words = g.words ++ w ∷ [] }) more after rest (rows_now v rows q) (Some (p.name, w ∷ [])) (word_stands v g rows q p w st takes))
  | inr none ↦ absurd (none_left v w g.words takes none)
]
completes v free g ws after (explain x y w more is has off rest) rows q st =
    let none : seen (codes "explain") (rows_now v rows q) ≡ None = st.holds.explains ∙ ap (flag_seen (codes "explain")) off in
    one_more v (at true (place_after g.words) (held rows q)) (at true (place_after g.words) (held (used (flag (codes "explain")) [] (rows_now v rows q)) None)) w more after
    (ap (λ x. turn_fault (leaf v) [] (at true (place_after g.words) (held rows q)) x) is ∙ explain_turn (place_after g.words) rows q v has
    ∙ neither _ _ (neither _ _ st.valid (flag_use (codes "explain") (rows_now v rows q) none)) refl)
    (ap (λ x. walked (rules v) [] (at true (place_after g.words) (held rows q)) x) is ∙ explain_after (place_after g.words) rows q v has)
    (completes v true (record g { explains = true }) more after rest (used (flag (codes "explain")) [] (rows_now v rows q)) None (explain_stands v g rows q st off))
completes v free g ws after (silence x y w more is has off rest) rows q st =
    let none : seen (codes "no-explain") (rows_now v rows q) ≡ None = st.holds.silent ∙ ap (flag_seen (codes "no-explain")) off in
    one_more v (at true (place_after g.words) (held rows q)) (at true (place_after g.words) (held (used (flag (codes "no-explain")) [] (rows_now v rows q)) None)) w more after
    (ap (λ x. turn_fault (leaf v) [] (at true (place_after g.words) (held rows q)) x) is ∙ silence_turn (place_after g.words) rows q v has
    ∙ neither _ _ (neither _ _ st.valid (flag_use (codes "no-explain") (rows_now v rows q) none)) refl)
    (ap (λ x. walked (rules v) [] (at true (place_after g.words) (held rows q)) x) is ∙ silence_after (place_after g.words) rows q v has)
    (completes v true (record g { silent = true }) more after rest (used (flag (codes "no-explain")) [] (rows_now v rows q)) None (silence_stands v g rows q st off))
completes v free g ws after (stop x y w more is has off rest) rows q st =
    let none : seen (codes "stop-with-input") (rows_now v rows q) ≡ None = st.holds.stops ∙ ap (flag_seen (codes "stop-with-input")) off in
    one_more v (at true (place_after g.words) (held rows q)) (at true (place_after g.words) (held (used (flag (codes "stop-with-input")) [] (rows_now v rows q)) None)) w more after
    (ap (λ x. turn_fault (leaf v) [] (at true (place_after g.words) (held rows q)) x) is ∙ stop_turn (place_after g.words) rows q v has
    ∙ neither _ _ (neither _ _ st.valid (flag_use (codes "stop-with-input") (rows_now v rows q) none)) refl)
    (ap (λ x. walked (rules v) [] (at true (place_after g.words) (held rows q)) x) is ∙ stop_after (place_after g.words) rows q v has)
    (completes v true (record g { stops = true }) more after rest (used (flag (codes "stop-with-input")) [] (rows_now v rows q)) None (stop_stands v g rows q st off))
completes v free g ws after (stuck x y w more is has off rest) rows q st =
    let none : seen (codes "stuck") (rows_now v rows q) ≡ None = st.holds.stuck ∙ ap (flag_seen (codes "stuck")) off in
    one_more v (at true (place_after g.words) (held rows q)) (at true (place_after g.words) (held (used (flag (codes "stuck")) [] (rows_now v rows q)) None)) w more after
    (ap (λ x. turn_fault (leaf v) [] (at true (place_after g.words) (held rows q)) x) is ∙ stuck_turn (place_after g.words) rows q v has
    ∙ neither _ _ (neither _ _ st.valid (flag_use (codes "stuck") (rows_now v rows q) none)) refl)
    (ap (λ x. walked (rules v) [] (at true (place_after g.words) (held rows q)) x) is ∙ stuck_after (place_after g.words) rows q v has)
    (completes v true (record g { stuck = true }) more after rest (used (flag (codes "stuck")) [] (rows_now v rows q)) None (stuck_stands v g rows q st off))
completes v free g ws after (sessions x y w n more is plain has off number rest) rows q st =
    spaced_more of_sessions v g w n more after has off number rows q st is plain
    (completes v true (record g { sessions = Some n }) more after rest (rows_now v rows q) (Some (id_of of_sessions, n ∷ [])) (given_stands of_sessions v has g rows q n st off number))
completes v free g ws after (joined x y w n more is has off number rest) rows q st =
    joined_more of_sessions v g w n more after has off number rows q st is
    (completes v true (record g { sessions = Some n }) more after rest (used (built_of of_sessions) (n ∷ []) (rows_now v rows q)) None (joined_stands of_sessions v has g rows q n st off number))
completes v free g ws after (at_once x y w n more is plain has off number rest) rows q st =
    spaced_more of_at_once v g w n more after has off number rows q st is plain
    (completes v true (record g { at_once = Some n }) more after rest (rows_now v rows q) (Some (id_of of_at_once, n ∷ [])) (given_stands of_at_once v has g rows q n st off number))
completes v free g ws after (at_once_joined x y w n more is has off number rest) rows q st =
    joined_more of_at_once v g w n more after has off number rows q st is
    (completes v true (record g { at_once = Some n }) more after rest (used (built_of of_at_once) (n ∷ []) (rows_now v rows q)) None (joined_stands of_at_once v has g rows q n st off number))
completes v free g ws after (sync x y w n more is plain has off rest) rows q st =
    spaced_more of_sync v g w n more after has off tt rows q st is plain
    (completes v true (record g { sync = Some n }) more after rest (rows_now v rows q) (Some (id_of of_sync, n ∷ [])) (given_stands of_sync v has g rows q n st off tt))
completes v free g ws after (sync_joined x y w n more is has off rest) rows q st =
    joined_more of_sync v g w n more after has off tt rows q st is
    (completes v true (record g { sync = Some n }) more after rest (used (built_of of_sync) (n ∷ []) (rows_now v rows q)) None (joined_stands of_sync v has g rows q n st off tt))
completes v free g ws after (traces x y w n more is plain has off number rest) rows q st =
    spaced_more of_traces v g w n more after has off number rows q st is plain
    (completes v true (record g { traces = Some n }) more after rest (rows_now v rows q) (Some (id_of of_traces, n ∷ [])) (given_stands of_traces v has g rows q n st off number))
completes v free g ws after (traces_joined x y w n more is has off number rest) rows q st =
    joined_more of_traces v g w n more after has off number rows q st is
    (completes v true (record g { traces = Some n }) more after rest (used (built_of of_traces) (n ∷ []) (rows_now v rows q)) None (joined_stands of_traces v has g rows q n st off number))
completes v free g ws after (past x y w n more is plain has rest) rows q st =
    spaced_more of_past v g w n more after has tt tt rows q st is plain
    (completes v true (record g { past = g.past ++ n ∷ [] }) more after rest (rows_now v rows q) (Some (id_of of_past, n ∷ [])) (given_stands of_past v has g rows q n st tt tt))
completes v free g ws after (past_joined x y w n more is has rest) rows q st =
    joined_more of_past v g w n more after has tt tt rows q st is
    (completes v true (record g { past = g.past ++ n ∷ [] }) more after rest (used (built_of of_past) (n ∷ []) (rows_now v rows q)) None (joined_stands of_past v has g rows q n st tt tt))
completes v free g ws after (ends_flags x y w more is rest) rows q st =
    one_more v (at true (place_after g.words) (held rows q)) (at false (place_after g.words) (held rows q)) w more after
    (ap (λ x. turn_fault (leaf v) [] (at true (place_after g.words) (held rows q)) x) is ∙ hyphens_turn v (place_after g.words) (held rows q))
    (ap (λ x. walked (rules v) [] (at true (place_after g.words) (held rows q)) x) is ∙ hyphens_after v (place_after g.words) (held rows q))
    (completes v false g more after rest rows q st)

-- ---- words that do not fail give something

module _ (v : Verb) (words : List Text) (rows : List Row) (q : Option (Text × List Text)) where
  -- what is pending does not fail where a word is taken
  value_settles : step_fault (leaf v) (place_after words) (held rows q) value ≡ [] → settle v rows q ≡ []
  value_settles e = elim (place v words) [
    | inl p ↦ sym (step_is v words p rows q) ∙ e
    | inr none ↦ absurd (some_fault _ _ (sym (ap (λ a. option_map_or (λ a. positional_fault (rules v) false a (held rows q)) a (stray_fault (leaf v))) none) ∙ e))
  ]

  closed_settles : (waiting : Waiting) (ws : List Text) → tail_fault v (stands (leaf v) [] (place_after words) (held rows q) true waiting) ws ≡ [] → settle v rows q ≡ []
  closed_settles waiting [] e = sym (empty_tail v (stands (leaf v) [] (place_after words) (held rows q) true waiting)) ∙ e
  closed_settles waiting (w ∷ ws) e = value_settles (next_tail v (stands (leaf v) [] (place_after words) (held rows q) true waiting) w ws e).0

-- a short flag fails
short_absurd : (v : Verb) (k : ℕ) (rows : List Row) (q : Option (Text × List Text)) (waiting : Waiting) (w : Text) (x : ℕ) (xs : Text) (ch : ℕ) → subcommand_met [] waiting w ≡ None
    → slice_get (chars (x ∷ xs)) 0 ≡ Some ch → bytes_eq w dashes ≡ false → long_of w ≡ None → short_of w ≡ Some (x ∷ xs)
    → turn_fault (leaf v) [] (stands (leaf v) [] k (held rows q) false waiting) w ≡ [] → ⊥
short_absurd v k rows q waiting w x xs ch none char two no_long has e =
    let bundled = short_first (leaf v) [] k (held rows q) waiting w none two (x ∷ xs) no_long has e in
    let first = bundle_first (rules v) false x xs (held rows q) ch refl char bundled in
    short_fails (rules v) (held rows q) (104 == ch) (86 == ch) first.0 first.1
    (ap (λ o. short_fault (rules v) false o first.0 (held rows q) first.1) (sym (short_is v ch)) ∙ first.2)

pub settle_of : (v : Verb) (rows : List Row) (q : Option (Text × List Text)) (name : Text) (o : Option Text) → Passes (rules v) (held rows q) v name o → settle v rows q ≡ []
settle_of v rows q name o (is_explain has is none ok works) = ok
settle_of v rows q name o (is_silence has is none ok works) = ok
settle_of v rows q name o (is_stop has is none ok works) = ok
settle_of v rows q name o (is_stuck has is none ok works) = ok
settle_of v rows q name o (is_joined x n has is none ok works) = ok
settle_of v rows q name o (is_spaced x has is none ok) = ok

hyphens_wait : (v : Verb) (id : Text) (k : ℕ) (h : Held) → walked (rules v) [] (stands (leaf v) [] k h false (option id)) dashes ≡ stands (leaf v) [] k h true (option id)
unfolding walked
hyphens_wait v id k h = refl

-- what is pending does not fail where the words behind it do not
settles : (v : Verb) (free : Bool) (words : List Text) (rows : List Row) (q : Option (Text × List Text)) (ws : List Text)
    → tail_fault v (at free (place_after words) (held rows q)) ws ≡ [] → settle v rows q ≡ []
settles v false words rows q ws e = closed_settles v words rows q idle ws e
settles v true words rows q [] e = sym (empty_tail v (at true (place_after words) (held rows q))) ∙ e
settles v true words rows q (w ∷ ws) e =
    let next = next_tail v (at true (place_after words) (held rows q)) w ws e in
    elim (kind w) [
      | bare is word_is ↦ value_settles v words rows q (sym (bare_fault (leaf v) [] (place_after words) (held rows q) w (bare_word w is) refl refl) ∙ next.0)
      | hyphens is ↦ closed_settles v words rows q idle ws
          (ap (λ x. tail_fault v x ws) (sym (ap (λ x. walked (rules v) [] (at true (place_after words) (held rows q)) x) is ∙ hyphens_after v (place_after words) (held rows q))) ∙ next.1)
      | long t is two has ↦ settle_of v rows q (name_and_value t).0 (name_and_value t).1
          (passes v (held rows q) (name_and_value t).0 (name_and_value t).1 (long_first (leaf v) [] (place_after words) (held rows q) idle w refl two (name_and_value t) has next.0))
      | short x xs ch is two no_long has char ↦ absurd (short_absurd v (place_after words) rows q idle w x xs ch refl char two no_long has next.0)
    ]

abbrev pub Sound : Verb → Bool → Given → List Text → List Row → Option (Text × List Text) → Type 0
Sound v free g ws rows q = (after : Given) × Gives v free g ws after × Ended v after (end_of v (at free (place_after g.words) (held rows q)) ws)

abbrev pub Rest : Verb → List Text → Type 0
Rest v ws = (free : Bool) (g : Given) (rows : List Row) (q : Option (Text × List Text)) → Stands v g rows q
    → tail_fault v (at free (place_after g.words) (held rows q)) ws ≡ [] → Sound v free g ws rows q

abbrev pub RestTail : Verb → List Text → Type 0
RestTail v [] = ⊤
RestTail v (w ∷ ws) = Rest v ws

module _ (v : Verb) (g : Given) (rows : List Row) (q : Option (Text × List Text)) (st : Stands v g rows q) where
  abbrev here : Bool → Walk
  here free = at free (place_after g.words) (held rows q)

  -- what follows one word
  follows : (free : Bool) (W2 : Walk) (w : Text) (ws : List Text) → walked (rules v) [] (here free) w ≡ W2 → tail_fault v (here free) (w ∷ ws) ≡ [] → tail_fault v W2 ws ≡ []
  follows free W2 w ws goes e = ap (λ x. tail_fault v x ws) (sym goes) ∙ (next_tail v (here free) w ws e).1

  ended_back : (W W2 : Walk) (w : Text) (ws : List Text) (after : Given) → walked (rules v) [] W w ≡ W2 → Ended v after (end_of v W2 ws) → Ended v after (end_of v W (w ∷ ws))
  ended_back W W2 w ws after goes is = subst (λ x. Ended v after (end_of v x ws)) (sym goes) is

  sound_word : (free : Bool) (w : Text) (ws : List Text) → (free ≡ true → is_bare w ≡ true) → tail_fault v (here free) (w ∷ ws) ≡ [] → Rest v ws → Sound v free g (w ∷ ws) rows q
  sound_word free w ws is e rest = elim (place v g.words) [
    | inl p ↦
        let goes = word_after v g.words p rows q free w is in
        let later = follows free (at free (place_after (g.words ++ w ∷ [])) (held (rows_now v rows q) (Some (p.name, w ∷ [])))) w ws goes e in
        let pending = settles v free (g.words ++ w ∷ []) (rows_now v rows q) (Some (p.name, w ∷ [])) ws later in
        let takes = p.only w (word_accepted (place_after g.words) p.name p.parser p.must w (rows_now v rows q) (sym (pending_is v g.words p rows q w (rows_now v rows q)) ∙ pending)) in
        let found = rest free (record g { words = g.words ++ w ∷ [] }) (rows_now v rows q) (Some (p.name, w ∷ [])) (word_stands v g rows q p w st takes) later in
        (found.0, word free g found.0 w ws is takes found.1, ended_back (here free) _ w ws found.0 goes found.2)
    | inr none ↦ absurd (some_fault _ _ (sym (ap (λ a. option_map_or (λ a. positional_fault (rules v) false a (held rows q)) a (stray_fault (leaf v))) none) ∙ sym (turn_is free is) ∙ (next_tail v (here free) w ws e).0))
  ]
    where
      turn_is : (free : Bool) → (free ≡ true → is_bare w ≡ true) → turn_fault (leaf v) [] (at free (place_after g.words) (held rows q)) w ≡ step_fault (leaf v) (place_after g.words) (held rows q) value
      turn_is true is = bare_fault (leaf v) [] (place_after g.words) (held rows q) w (bare_word w (is refl)) refl refl
      turn_is false is = refl

  sound_hyphens : (w : Text) (ws : List Text) → w ≡ dashes → tail_fault v (here true) (w ∷ ws) ≡ [] → Rest v ws → Sound v true g (w ∷ ws) rows q
  sound_hyphens w ws is e rest =
      let goes = ap (λ x. walked (rules v) [] (here true) x) is ∙ hyphens_after v (place_after g.words) (held rows q) in
      let later = follows true (here false) w ws goes e in
      let found = rest false g rows q st later in
      (found.0, ends_flags g found.0 w ws is found.1, ended_back (here true) (here false) w ws found.0 goes found.2)

  sound_explain : (w : Text) (ws : List Text) → w ≡ codes "--explain" → has_explain v ≡ true → use_fault false (flag (codes "explain")) [] (rows_now v rows q) ≡ []
      → tail_fault v (here true) (w ∷ ws) ≡ [] → Rest v ws → Sound v true g (w ∷ ws) rows q
  sound_explain w ws is has works e rest =
      let off = not_given v g (rows_now v rows q) st.holds (codes "explain") g.explains st.holds.explains (flag_used (codes "explain") (rows_now v rows q) works) in
      let goes = ap (λ x. walked (rules v) [] (here true) x) is ∙ explain_after (place_after g.words) rows q v has in
      let later = follows true (at true (place_after g.words) (held (used (flag (codes "explain")) [] (rows_now v rows q)) None)) w ws goes e in
      let found = rest true (record g { explains = true }) (used (flag (codes "explain")) [] (rows_now v rows q)) None (explain_stands v g rows q st off) later in
      (found.0, explain g found.0 w ws is has off found.1, ended_back (here true) _ w ws found.0 goes found.2)

  sound_silence : (w : Text) (ws : List Text) → w ≡ codes "--no-explain" → has_explain v ≡ true → use_fault false (flag (codes "no-explain")) [] (rows_now v rows q) ≡ []
      → tail_fault v (here true) (w ∷ ws) ≡ [] → Rest v ws → Sound v true g (w ∷ ws) rows q
  sound_silence w ws is has works e rest =
      let off = not_given v g (rows_now v rows q) st.holds (codes "no-explain") g.silent st.holds.silent (flag_used (codes "no-explain") (rows_now v rows q) works) in
      let goes = ap (λ x. walked (rules v) [] (here true) x) is ∙ silence_after (place_after g.words) rows q v has in
      let later = follows true (at true (place_after g.words) (held (used (flag (codes "no-explain")) [] (rows_now v rows q)) None)) w ws goes e in
      let found = rest true (record g { silent = true }) (used (flag (codes "no-explain")) [] (rows_now v rows q)) None (silence_stands v g rows q st off) later in
      (found.0, silence g found.0 w ws is has off found.1, ended_back (here true) _ w ws found.0 goes found.2)

  sound_stop : (w : Text) (ws : List Text) → w ≡ codes "--stop-with-input" → has_stop v ≡ true → use_fault false (flag (codes "stop-with-input")) [] (rows_now v rows q) ≡ []
      → tail_fault v (here true) (w ∷ ws) ≡ [] → Rest v ws → Sound v true g (w ∷ ws) rows q
  sound_stop w ws is has works e rest =
      let off = not_given v g (rows_now v rows q) st.holds (codes "stop-with-input") g.stops st.holds.stops (flag_used (codes "stop-with-input") (rows_now v rows q) works) in
      let goes = ap (λ x. walked (rules v) [] (here true) x) is ∙ stop_after (place_after g.words) rows q v has in
      let later = follows true (at true (place_after g.words) (held (used (flag (codes "stop-with-input")) [] (rows_now v rows q)) None)) w ws goes e in
      let found = rest true (record g { stops = true }) (used (flag (codes "stop-with-input")) [] (rows_now v rows q)) None (stop_stands v g rows q st off) later in
      (found.0, stop g found.0 w ws is has off found.1, ended_back (here true) _ w ws found.0 goes found.2)

  sound_stuck : (w : Text) (ws : List Text) → w ≡ codes "--stuck" → has_stuck v ≡ true → use_fault false (flag (codes "stuck")) [] (rows_now v rows q) ≡ []
      → tail_fault v (here true) (w ∷ ws) ≡ [] → Rest v ws → Sound v true g (w ∷ ws) rows q
  sound_stuck w ws is has works e rest =
      let off = not_given v g (rows_now v rows q) st.holds (codes "stuck") g.stuck st.holds.stuck (flag_used (codes "stuck") (rows_now v rows q) works) in
      let goes = ap (λ x. walked (rules v) [] (here true) x) is ∙ stuck_after (place_after g.words) rows q v has in
      let later = follows true (at true (place_after g.words) (held (used (flag (codes "stuck")) [] (rows_now v rows q)) None)) w ws goes e in
      let found = rest true (record g { stuck = true }) (used (flag (codes "stuck")) [] (rows_now v rows q)) None (stuck_stands v g rows q st off) later in
      (found.0, stuck g found.0 w ws is has off found.1, ended_back (here true) _ w ws found.0 goes found.2)

  -- words that give an option, with its value, give what they say
  gives_joined : (o : Choice) (w n : Text) (ws : List Text) (after : Given) → w ≡ joined_of o n → has_choice o v ≡ true → Open o g → Allows o n → Gives v true (choose o n g) ws after
      → Gives v true g (w ∷ ws) after
  gives_joined of_sessions w n ws after is has off allowed rest = joined g after w n ws is has off allowed rest
  gives_joined of_at_once w n ws after is has off allowed rest = at_once_joined g after w n ws is has off allowed rest
  gives_joined of_sync w n ws after is has off allowed rest = sync_joined g after w n ws is has off rest
  gives_joined of_traces w n ws after is has off allowed rest = traces_joined g after w n ws is has off allowed rest
  gives_joined of_past w n ws after is has off allowed rest = past_joined g after w n ws is has rest

  gives_spaced : (o : Choice) (w n : Text) (ws : List Text) (after : Given) → w ≡ word_of o → is_bare n ≡ true → has_choice o v ≡ true → Open o g → Allows o n
      → Gives v true (choose o n g) ws after → Gives v true g (w ∷ n ∷ ws) after
  gives_spaced of_sessions w n ws after is plain has off allowed rest = sessions g after w n ws is plain has off allowed rest
  gives_spaced of_at_once w n ws after is plain has off allowed rest = at_once g after w n ws is plain has off allowed rest
  gives_spaced of_sync w n ws after is plain has off allowed rest = sync g after w n ws is plain has off rest
  gives_spaced of_traces w n ws after is plain has off allowed rest = traces g after w n ws is plain has off allowed rest
  gives_spaced of_past w n ws after is plain has off allowed rest = past g after w n ws is plain has rest

  -- the words stay as they were
  same_words : (o : Choice) (n : Text) → (choose o n g).words ≡ g.words
  same_words of_sessions n = refl
  same_words of_at_once n = refl
  same_words of_sync n = refl
  same_words of_traces n = refl
  same_words of_past n = refl

  -- what follows an option
  rest_of : (o : Choice) (n : Text) (ws : List Text) (rows2 : List Row) (q2 : Option (Text × List Text)) → Rest v ws → Stands v (choose o n g) rows2 q2
      → tail_fault v (at true (place_after g.words) (held rows2 q2)) ws ≡ []
      → (after : Given) × Gives v true (choose o n g) ws after × Ended v after (end_of v (at true (place_after g.words) (held rows2 q2)) ws)
  rest_of of_sessions n ws rows2 q2 rest st2 e = rest true (choose of_sessions n g) rows2 q2 st2 e
  rest_of of_at_once n ws rows2 q2 rest st2 e = rest true (choose of_at_once n g) rows2 q2 st2 e
  rest_of of_sync n ws rows2 q2 rest st2 e = rest true (choose of_sync n g) rows2 q2 st2 e
  rest_of of_traces n ws rows2 q2 rest st2 e = rest true (choose of_traces n g) rows2 q2 st2 e
  rest_of of_past n ws rows2 q2 rest st2 e = rest true (choose of_past n g) rows2 q2 st2 e

  sound_joined : (o : Choice) (w n : Text) (ws : List Text) → w ≡ joined_of o n → has_choice o v ≡ true → use_fault false (built_of o) (n ∷ []) (rows_now v rows q) ≡ []
      → tail_fault v (here true) (w ∷ ws) ≡ [] → Rest v ws → Sound v true g (w ∷ ws) rows q
  sound_joined o w n ws is has works e rest =
      let got = choice_used o n (rows_now v rows q) works in
      let off = opens v g (rows_now v rows q) st.holds o got.0 in
      let goes = ap (λ x. walked (rules v) [] (here true) x) is ∙ joined_after (place_after g.words) rows q o v has n in
      let later = follows true (at true (place_after g.words) (held (used (built_of o) (n ∷ []) (rows_now v rows q)) None)) w ws goes e in
      let found = rest_of o n ws (used (built_of o) (n ∷ []) (rows_now v rows q)) None rest (joined_stands o v has g rows q n st off got.1) later in
      (found.0, gives_joined o w n ws found.0 is has off got.1 found.1, ended_back (here true) _ w ws found.0 goes found.2)

  abbrev waiting : Choice → Walk
  waiting o = waits (place_after g.words) rows q o v

  sound_spaced : (o : Choice) (w : Text) (ws : List Text) → w ≡ word_of o → has_choice o v ≡ true → tail_fault v (here true) (w ∷ ws) ≡ [] → RestTail v ws
      → Sound v true g (w ∷ ws) rows q
  sound_spaced o w ws is has e rest = go ws rest later
    where
      goes : walked (rules v) [] (here true) w ≡ (waiting o)
      goes = ap (λ x. walked (rules v) [] (here true) x) is ∙ spaced_after (place_after g.words) rows q o v has

      later : tail_fault v (waiting o) ws ≡ []
      later = follows true (waiting o) w ws goes e

      fails : settle v (rows_now v rows q) (Some (id_of o, [])) ≡ [] → ⊥
      fails = no_value (place_after g.words) rows q o v has

      trailing_after : (n : Text) → n ≡ dashes → walked (rules v) [] (waiting o) n ≡ stands (leaf v) [] (place_after g.words) (held (rows_now v rows q) (Some (id_of o, []))) true (option (id_of o))
      trailing_after n at_end = ap (λ x. walked (rules v) [] (waiting o) x) at_end ∙ hyphens_wait v (id_of o) (place_after g.words) (held (rows_now v rows q) (Some (id_of o, [])))

      given : (n : Text) (more : List Text) → is_bare n ≡ true → tail_fault v (waiting o) (n ∷ more) ≡ [] → Rest v more → Sound v true g (w ∷ n ∷ more) rows q
      given n more plain e rest =
          let goes_on = given_after (place_after g.words) rows q o v has n plain in
          let last = ap (λ x. tail_fault v x more) (sym goes_on) ∙ (next_tail v (waiting o) n more e).1 in
          let pending = settles v true g.words (rows_now v rows q) (Some (id_of o, n ∷ [])) more last in
          let got = choice_used o n (rows_now v rows q) (sym (value_is (place_after g.words) rows q o v has n) ∙ pending) in
          let off = opens v g (rows_now v rows q) st.holds o got.0 in
          let found = rest_of o n more (rows_now v rows q) (Some (id_of o, n ∷ [])) rest (given_stands o v has g rows q n st off got.1) last in (
            found.0,
            gives_spaced o w n more found.0 is plain has off got.1 found.1,
            ended_back (here true) (waiting o) w (n ∷ more) found.0 goes (ended_back (waiting o) _ n more found.0 goes_on found.2),
          )

      go : (ws : List Text) → RestTail v ws → tail_fault v (waiting o) ws ≡ [] → Sound v true g (w ∷ ws) rows q
      go [] rest e = absurd (fails (sym (empty_tail v (waiting o)) ∙ e))
      go (n ∷ more) rest e =
          let next = next_tail v (waiting o) n more e in
          elim (kind n) [
            | bare plain word_is ↦ given n more plain e rest
            | hyphens at_end ↦ absurd (fails (closed_settles v g.words (rows_now v rows q) (Some (id_of o, [])) (option (id_of o)) more
                (ap (λ x. tail_fault v x more) (sym (trailing_after n at_end)) ∙ next.1)))
            | long t at_front two has_long ↦ absurd (fails (settle_of v (rows_now v rows q) (Some (id_of o, [])) (name_and_value t).0 (name_and_value t).1
                (passes v (held (rows_now v rows q) (Some (id_of o, []))) (name_and_value t).0 (name_and_value t).1
                (long_first (leaf v) [] (place_after g.words) (held (rows_now v rows q) (Some (id_of o, []))) (option (id_of o)) n refl two (name_and_value t) has_long next.0))))
            | short x xs ch at_front two no_long has_short char ↦ absurd (short_absurd v (place_after g.words) (rows_now v rows q) (Some (id_of o, [])) (option (id_of o)) n x xs ch refl char two no_long has_short next.0)
          ]

  -- a long flag
  sound_long : (w t : Text) (ws : List Text) → w ≡ 45 ∷ 45 ∷ t → bytes_eq w dashes ≡ false → long_of w ≡ Some (name_and_value t)
      → tail_fault v (here true) (w ∷ ws) ≡ [] → Rest v ws → RestTail v ws → Sound v true g (w ∷ ws) rows q
  sound_long w t ws is two has e rest rest_tail = by_cut (cut t)
    where
      passed : Passes (rules v) (held rows q) v (name_and_value t).0 (name_and_value t).1
      passed = passes v (held rows q) (name_and_value t).0 (name_and_value t).1
          (long_first (leaf v) [] (place_after g.words) (held rows q) idle w refl two (name_and_value t) has (next_tail v (here true) w ws e).0)

      alone : (name : Text) (o : Option Text) → t ≡ name → None ≡ o → Passes (rules v) (held rows q) v name o → Sound v true g (w ∷ ws) rows q
      alone name o is_name is_none (is_explain has_it named none ok works) = sound_explain w ws (is ∙ ap (λ (x : Text). 45 ∷ 45 ∷ x) (is_name ∙ named)) has_it works e rest
      alone name o is_name is_none (is_silence has_it named none ok works) = sound_silence w ws (is ∙ ap (λ (x : Text). 45 ∷ 45 ∷ x) (is_name ∙ named)) has_it works e rest
      alone name o is_name is_none (is_stop has_it named none ok works) = sound_stop w ws (is ∙ ap (λ (x : Text). 45 ∷ 45 ∷ x) (is_name ∙ named)) has_it works e rest
      alone name o is_name is_none (is_stuck has_it named none ok works) = sound_stuck w ws (is ∙ ap (λ (x : Text). 45 ∷ 45 ∷ x) (is_name ∙ named)) has_it works e rest
      alone name o is_name is_none (is_joined x n has_it named some ok works) = absurd (nothing (is_none ∙ some))
        where
          nothing : None ≡ Some n → ⊥
          nothing x = cc
      alone name o is_name is_none (is_spaced x has_it named none ok) = sound_spaced x w ws (is ∙ ap (λ (x : Text). 45 ∷ 45 ∷ x) (is_name ∙ named) ∙ dashed_id x) has_it e rest_tail

      paired : (name sign_text : Text) (o : Option Text) → t ≡ name ++ 61 ∷ sign_text → Some sign_text ≡ o → Passes (rules v) (held rows q) v name o → Sound v true g (w ∷ ws) rows q
      paired name sign_text o is_cut is_value (is_explain has_it named none ok works) = absurd (nothing (is_value ∙ none))
        where
          nothing : Some sign_text ≡ None → ⊥
          nothing x = cc
      paired name sign_text o is_cut is_value (is_silence has_it named none ok works) = absurd (nothing (is_value ∙ none))
        where
          nothing : Some sign_text ≡ None → ⊥
          nothing x = cc
      paired name sign_text o is_cut is_value (is_stop has_it named none ok works) = absurd (nothing (is_value ∙ none))
        where
          nothing : Some sign_text ≡ None → ⊥
          nothing x = cc
      paired name sign_text o is_cut is_value (is_stuck has_it named none ok works) = absurd (nothing (is_value ∙ none))
        where
          nothing : Some sign_text ≡ None → ⊥
          nothing x = cc
      paired name sign_text o is_cut is_value (is_joined x n has_it named some ok works) =
          let same_value : sign_text ≡ n = ap (λ (o : Option Text). unwrap_or o sign_text) (is_value ∙ some) in
          sound_joined x w n ws (is ∙ ap (λ (x : Text). 45 ∷ 45 ∷ x) (is_cut ∙ ap₂ (λ (x y : Text). x ++ 61 ∷ y) named same_value) ∙ dashed_value x n) has_it works e rest
      paired name sign_text o is_cut is_value (is_spaced x has_it named none ok) = absurd (nothing (is_value ∙ none))
        where
          nothing : Some sign_text ≡ None → ⊥
          nothing x = cc

      by_cut : Cut t → Sound v true g (w ∷ ws) rows q
      by_cut (whole is_whole) = alone (name_and_value t).0 (name_and_value t).1 (sym (ap (λ (p : Text × Option Text). p.0) is_whole)) (sym (ap (λ (p : Text × Option Text). p.1) is_whole)) passed
      by_cut (parts n sign_text is_cut is_parts) =
          paired (name_and_value t).0 sign_text (name_and_value t).1 (is_cut ∙ ap (λ (x : Text). x ++ 61 ∷ sign_text) (sym (ap (λ (p : Text × Option Text). p.0) is_parts))) (sym (ap (λ (p : Text × Option Text). p.1) is_parts)) passed

  sound_one : (free : Bool) (w : Text) (ws : List Text) → tail_fault v (here free) (w ∷ ws) ≡ [] → Rest v ws → RestTail v ws → Sound v free g (w ∷ ws) rows q
  sound_one false w ws e rest rest_tail = sound_word false w ws (λ x. absurd (clash x)) e rest
  sound_one true w ws e rest rest_tail = elim (kind w) [
    | bare is word_is ↦ sound_word true w ws (λ x. is) e rest
    | hyphens is ↦ sound_hyphens w ws is e rest
    | long t is two has ↦ sound_long w t ws is two has e rest rest_tail
    | short x xs ch is two no_long has char ↦ absurd (short_absurd v (place_after g.words) rows q idle w x xs ch refl char two no_long has (next_tail v (here true) w ws e).0)
  ]

both_sound : (v : Verb) (ws : List Text) → Rest v ws × RestTail v ws
both_sound v [] = (λ free g rows q st e. (g, ends free g, record { rows = rows; pending = q; is = refl; stands = st }), tt)
both_sound v (w ∷ ws) =
    let rest = both_sound v ws in
    (λ free g rows q st e. sound_one v g rows q st free w ws e rest.0 rest.1, rest.0)

pub sound : (v : Verb) (ws : List Text) → Rest v ws
sound v ws = (both_sound v ws).0

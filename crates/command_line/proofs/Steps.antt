-- What words give a subcommand is what the walk over them finds.
use Rattle.std.proofs.Common.{◌≡◌, ◌∙◌, ◌++◌, ◌&&◌, ◌||◌, cond, not, Bool, true, false, ℕ, List, [], ◌∷◌, Option, Some, None, is_some, refl, sym, ap, subst, codes, arith, option_map, bytes_eq}
use Rattle.std.specs.Prelude.{⊤, unwrap_or}
use Rattle.clap.specs.Walk.{Held, Row, Text, Walk, idle, has_row, settled_rows, with_values}
use Rattle.clap.specs.Kinds.{Kinds as Faults, or_else}
use Rattle.clap.specs.Faults.{settle_fault, use_fault}
use Rattle.clap.specs.ValueTests.{accepts}
use Rattle.clap.specs.Values.{refused_kind}
use Rattle.clap.specs.declared.error.kind.ErrorKind.TheVariants as kinds
use Rattle.clap.specs.declared.builder.value_parser.ValueParser.{ValueParser}
use Rattle.clap.specs.declared.builder.value_parser.ValueParser.TheVariants as parsers
use Rattle.clap.specs.declared.builder.value_parser.Reading.TheVariants.{AsWritten}
use Rattle.clap.specs.declared.parser.matches.ValueSource.TheVariants.{CommandLine}
use Rattle.command_line.specs.Forms.{Verb, paths, check, run, audit, attempt, serve, keep, Given, Takes, IsNumber}
use Rattle.command_line.proofs.Rows.{seen, row_with, seen_new, seen_other, no_row, any_found, again_row, again_more, more_other}
use Rattle.command_line.proofs.Turns.{some_fault, first_of, then_of, neither}
use Rattle.command_line.proofs.Levels.{rules, place_rule, place_names, text_row, Places, AreOthers, places_kept, places_more, Place, number_passes, passes_number, flag}
use Rattle.command_line.proofs.Choices.{Choice, of_sessions, of_at_once, of_sync, of_traces, of_past, id_of, built_of, Open, choose, Allows}

-- what is held between two words
abbrev pub held : List Row → Option (Text × List Text) → Held
held rows p = record { rows = rows; pending = p; skip = 0 }

abbrev pub at : Bool → ℕ → Held → Walk
at free k h = record { held = h; waiting = idle; position = k; is_trailing = not free; stopped = None }

-- the rows once the argument that is pending is used, and whether that fails
abbrev pub rows_now : Verb → List Row → Option (Text × List Text) → List Row
rows_now v rows p = settled_rows (rules v) p rows

abbrev pub settle : Verb → List Row → Option (Text × List Text) → Faults
settle v rows p = settle_fault (rules v) false (held rows p)

abbrev pub flag_row : Text → Row
flag_row name = row_with CommandLine name AsWritten (codes "true" ∷ [])

abbrev pub flag_seen : Text → Bool → Option Row
flag_seen name b = cond b (Some (flag_row name)) None

-- the rows hold what was given so far
pub record Holding (v : Verb) (g : Given) (rows : List Row) : Type 0 where
  pub places : Places (place_names v) g.words rows
  pub explains : seen (codes "explain") rows ≡ flag_seen (codes "explain") g.explains
  pub silent : seen (codes "no-explain") rows ≡ flag_seen (codes "no-explain") g.silent
  pub stops : seen (codes "stop-with-input") rows ≡ flag_seen (codes "stop-with-input") g.stops
  pub stuck : seen (codes "stuck") rows ≡ flag_seen (codes "stuck") g.stuck
  pub sessions : seen (codes "sessions") rows ≡ option_map (text_row (codes "sessions")) g.sessions
  pub at_once : seen (codes "at-once") rows ≡ option_map (text_row (codes "at-once")) g.at_once
  pub sync : seen (codes "sync") rows ≡ option_map (text_row (codes "sync")) g.sync
  pub traces : seen (codes "traces") rows ≡ option_map (text_row (codes "traces")) g.traces
  pub past : seen (codes "past") rows ≡ again_row (codes "past") g.past
  pub number : (n : Text) → g.sessions ≡ Some n → IsNumber 1 64 n
  pub most : (n : Text) → g.at_once ≡ Some n → IsNumber 1 10000 n
  pub megabytes : (n : Text) → g.traces ≡ Some n → IsNumber 1 1000000 n

pub record Stands (v : Verb) (g : Given) (rows : List Row) (p : Option (Text × List Text)) : Type 0 where
  pub valid : settle v rows p ≡ []
  pub holds : Holding v g (rows_now v rows p)

-- ---- one use of an argument

pub and_false : (b : Bool) → (b && false) ≡ false
and_false true = refl
and_false false = refl

pub or_false : (b : Bool) → (b || false) ≡ b
or_false true = refl
or_false false = refl

pub word_use : (i : ℕ) (name : Text) (parser : ValueParser) (must : Bool) (w : Text) (rows : List Row) → seen name rows ≡ None → accepts false parser w ≡ true
    → use_fault false (place_rule i name parser must) (w ∷ []) rows ≡ []
word_use i name parser must w rows none ok =
    neither _ _ (ap (λ b. cond (b && true) (kinds.ArgumentConflict ∷ []) []) (no_row name rows none))
    (ap (λ b. or_else (cond b [] (refused_kind parser ∷ [])) []) ok)

pub word_accepted : (i : ℕ) (name : Text) (parser : ValueParser) (must : Bool) (w : Text) (rows : List Row)
    → use_fault false (place_rule i name parser must) (w ∷ []) rows ≡ [] → accepts false parser w ≡ true
word_accepted i name parser must w rows e = go (accepts false parser w) (first_of _ [] (then_of (cond (has_row name rows && true) (kinds.ArgumentConflict ∷ []) []) _ e))
  where
    go : (b : Bool) → cond b [] (refused_kind parser ∷ []) ≡ [] → b ≡ true
    go true e = refl
    go false e = absurd (some_fault _ _ e)

-- no row stands against one more use of the option
abbrev pub Fresh : Choice → List Row → Type 0
Fresh of_sessions rows = seen (codes "sessions") rows ≡ None
Fresh of_at_once rows = seen (codes "at-once") rows ≡ None
Fresh of_sync rows = seen (codes "sync") rows ≡ None
Fresh of_traces rows = seen (codes "traces") rows ≡ None
Fresh of_past rows = ⊤

abbrev pub Unused : Choice → List Row → Type 0
Unused of_sessions rows = has_row (codes "sessions") rows ≡ false
Unused of_at_once rows = has_row (codes "at-once") rows ≡ false
Unused of_sync rows = has_row (codes "sync") rows ≡ false
Unused of_traces rows = has_row (codes "traces") rows ≡ false
Unused of_past rows = ⊤

-- the rows behind one more use of it
abbrev pub rows_with : Choice → Text → List Row → List Row
rows_with of_sessions n rows = rows ++ text_row (codes "sessions") n ∷ []
rows_with of_at_once n rows = rows ++ text_row (codes "at-once") n ∷ []
rows_with of_sync n rows = rows ++ text_row (codes "sync") n ∷ []
rows_with of_traces n rows = rows ++ text_row (codes "traces") n ∷ []
rows_with of_past n rows = with_values (codes "past") AsWritten CommandLine (n ∷ []) rows

pub choice_use : (o : Choice) (n : Text) (rows : List Row) → Fresh o rows → Allows o n → use_fault false (built_of o) (n ∷ []) rows ≡ []
choice_use of_sessions n rows none is =
    neither _ _ (ap (λ b. cond (b && true) (kinds.ArgumentConflict ∷ []) []) (no_row (codes "sessions") rows none))
    (ap (λ b. or_else (cond b [] (kinds.ValueValidation ∷ [])) []) (number_passes 1 64 n (omega arith) is))
choice_use of_at_once n rows none is =
    neither _ _ (ap (λ b. cond (b && true) (kinds.ArgumentConflict ∷ []) []) (no_row (codes "at-once") rows none))
    (ap (λ b. or_else (cond b [] (kinds.ValueValidation ∷ [])) []) (number_passes 1 10000 n (omega arith) is))
choice_use of_sync n rows none is =
    neither _ _ (ap (λ b. cond (b && true) (kinds.ArgumentConflict ∷ []) []) (no_row (codes "sync") rows none)) refl
choice_use of_traces n rows none is =
    neither _ _ (ap (λ b. cond (b && true) (kinds.ArgumentConflict ∷ []) []) (no_row (codes "traces") rows none))
    (ap (λ b. or_else (cond b [] (kinds.ValueValidation ∷ [])) []) (number_passes 1 1000000 n (omega arith) is))
choice_use of_past n rows none is = refl

no_conflict : (b : Bool) → cond (b && true) (kinds.ArgumentConflict ∷ []) [] ≡ [] → b ≡ false
no_conflict true e = absurd (some_fault _ _ e)
no_conflict false e = refl

passed : (b : Bool) → cond b [] (kinds.ValueValidation ∷ []) ≡ [] → b ≡ true
passed true e = refl
passed false e = absurd (some_fault _ _ e)

pub choice_used : (o : Choice) (n : Text) (rows : List Row) → use_fault false (built_of o) (n ∷ []) rows ≡ [] → Unused o rows × Allows o n
choice_used of_sessions n rows e = (
  no_conflict (has_row (codes "sessions") rows) (first_of (cond (has_row (codes "sessions") rows && true) (kinds.ArgumentConflict ∷ []) []) _ e),
  passes_number 1 64 n (passed (accepts false (parsers.Unsigned 1 64) n) (first_of _ [] (then_of (cond (has_row (codes "sessions") rows && true) (kinds.ArgumentConflict ∷ []) []) _ e))),
)
choice_used of_at_once n rows e = (
  no_conflict (has_row (codes "at-once") rows) (first_of (cond (has_row (codes "at-once") rows && true) (kinds.ArgumentConflict ∷ []) []) _ e),
  passes_number 1 10000 n (passed (accepts false (parsers.Unsigned 1 10000) n) (first_of _ [] (then_of (cond (has_row (codes "at-once") rows && true) (kinds.ArgumentConflict ∷ []) []) _ e))),
)
choice_used of_sync n rows e = (no_conflict (has_row (codes "sync") rows) (first_of (cond (has_row (codes "sync") rows && true) (kinds.ArgumentConflict ∷ []) []) _ e), tt)
choice_used of_traces n rows e = (
  no_conflict (has_row (codes "traces") rows) (first_of (cond (has_row (codes "traces") rows && true) (kinds.ArgumentConflict ∷ []) []) _ e),
  passes_number 1 1000000 n (passed (accepts false (parsers.Unsigned 1 1000000) n) (first_of _ [] (then_of (cond (has_row (codes "traces") rows && true) (kinds.ArgumentConflict ∷ []) []) _ e))),
)
choice_used of_past n rows e = (tt, tt)

pub flag_use : (name : Text) (rows : List Row) → seen name rows ≡ None → use_fault false (flag name) [] rows ≡ []
flag_use name rows none = neither _ _ (ap (λ b. cond (b && true) (kinds.ArgumentConflict ∷ []) []) (no_row name rows none)) refl

pub flag_used : (name : Text) (rows : List Row) → use_fault false (flag name) [] rows ≡ [] → has_row name rows ≡ false
flag_used name rows e = no_conflict (has_row name rows) (first_of (cond (has_row name rows && true) (kinds.ArgumentConflict ∷ []) []) _ e)

-- ---- what is held after one more use

-- no word of a subcommand has this name
others : (x : Text) → bytes_eq x (codes "FILE") ≡ false → bytes_eq x (codes "SCRIPT") ≡ false → bytes_eq x (codes "TRACE") ≡ false → bytes_eq x (codes "DIR") ≡ false
    → bytes_eq x (codes "PLACE") ≡ false → bytes_eq x (codes "NAME") ≡ false → (v : Verb) → AreOthers x (place_names v)
others x a b c d e f paths = tt
others x a b c d e f check = (a, tt)
others x a b c d e f run = (a, (b, tt))
others x a b c d e f audit = (a, (c, tt))
others x a b c d e f attempt = (a, (f, tt))
others x a b c d e f serve = (a, (d, (e, tt)))
others x a b c d e f keep = (a, (d, (e, tt)))

others_choice : (o : Choice) (v : Verb) → AreOthers (id_of o) (place_names v)
others_choice of_sessions v = others (codes "sessions") refl refl refl refl refl refl v
others_choice of_at_once v = others (codes "at-once") refl refl refl refl refl refl v
others_choice of_sync v = others (codes "sync") refl refl refl refl refl refl v
others_choice of_traces v = others (codes "traces") refl refl refl refl refl refl v
others_choice of_past v = others (codes "past") refl refl refl refl refl refl v

module _ (v : Verb) (g : Given) (rows : List Row) (h : Holding v g rows) where
  -- a flag or option was not given before where it has no row
  pub not_given : (name : Text) (b : Bool) → seen name rows ≡ flag_seen name b → has_row name rows ≡ false → b ≡ false
  not_given name false e none = refl
  not_given name true e none = absurd (clash (sym none ∙ (any_found name rows ∙ ap is_some e)))
    where
      clash : false ≡ true → ⊥
      clash x = cc

  pub no_choice : (id : Text) (o : Option Text) → seen id rows ≡ option_map (text_row id) o → has_row id rows ≡ false → o ≡ None
  no_choice id None e none = refl
  no_choice id (Some n) e none = absurd (clash (sym none ∙ (any_found id rows ∙ ap is_some e)))
    where
      clash : false ≡ true → ⊥
      clash x = cc

  -- an option may be given exactly where no row stands against it
  pub opens : (o : Choice) → Unused o rows → Open o g
  opens of_sessions none = no_choice (codes "sessions") g.sessions h.sessions none
  opens of_at_once none = no_choice (codes "at-once") g.at_once h.at_once none
  opens of_sync none = no_choice (codes "sync") g.sync h.sync none
  opens of_traces none = no_choice (codes "traces") g.traces h.traces none
  opens of_past none = tt

  pub fresh : (o : Choice) → Open o g → Fresh o rows
  fresh of_sessions off = h.sessions ∙ ap (option_map (text_row (codes "sessions"))) off
  fresh of_at_once off = h.at_once ∙ ap (option_map (text_row (codes "at-once"))) off
  fresh of_sync off = h.sync ∙ ap (option_map (text_row (codes "sync"))) off
  fresh of_traces off = h.traces ∙ ap (option_map (text_row (codes "traces"))) off
  fresh of_past off = tt

  pub holds_explain : g.explains ≡ false → Holding v (record g { explains = true }) (rows ++ flag_row (codes "explain") ∷ [])
  holds_explain off = record {
    places = places_kept (place_names v) g.words rows (flag_row (codes "explain")) (others (codes "explain") refl refl refl refl refl refl v) h.places;
    explains = seen_new (codes "explain") (flag_row (codes "explain")) rows refl (h.explains ∙ ap (flag_seen (codes "explain")) off);
    silent = seen_other (codes "no-explain") (flag_row (codes "explain")) rows refl ∙ h.silent;
    stops = seen_other (codes "stop-with-input") (flag_row (codes "explain")) rows refl ∙ h.stops;
    stuck = seen_other (codes "stuck") (flag_row (codes "explain")) rows refl ∙ h.stuck;
    sessions = seen_other (codes "sessions") (flag_row (codes "explain")) rows refl ∙ h.sessions;
    at_once = seen_other (codes "at-once") (flag_row (codes "explain")) rows refl ∙ h.at_once;
    sync = seen_other (codes "sync") (flag_row (codes "explain")) rows refl ∙ h.sync;
    traces = seen_other (codes "traces") (flag_row (codes "explain")) rows refl ∙ h.traces;
    past = seen_other (codes "past") (flag_row (codes "explain")) rows refl ∙ h.past;
    number = h.number;
    most = h.most;
    megabytes = h.megabytes;
  }

  pub holds_silence : g.silent ≡ false → Holding v (record g { silent = true }) (rows ++ flag_row (codes "no-explain") ∷ [])
  holds_silence off = record {
    places = places_kept (place_names v) g.words rows (flag_row (codes "no-explain")) (others (codes "no-explain") refl refl refl refl refl refl v) h.places;
    explains = seen_other (codes "explain") (flag_row (codes "no-explain")) rows refl ∙ h.explains;
    silent = seen_new (codes "no-explain") (flag_row (codes "no-explain")) rows refl (h.silent ∙ ap (flag_seen (codes "no-explain")) off);
    stops = seen_other (codes "stop-with-input") (flag_row (codes "no-explain")) rows refl ∙ h.stops;
    stuck = seen_other (codes "stuck") (flag_row (codes "no-explain")) rows refl ∙ h.stuck;
    sessions = seen_other (codes "sessions") (flag_row (codes "no-explain")) rows refl ∙ h.sessions;
    at_once = seen_other (codes "at-once") (flag_row (codes "no-explain")) rows refl ∙ h.at_once;
    sync = seen_other (codes "sync") (flag_row (codes "no-explain")) rows refl ∙ h.sync;
    traces = seen_other (codes "traces") (flag_row (codes "no-explain")) rows refl ∙ h.traces;
    past = seen_other (codes "past") (flag_row (codes "no-explain")) rows refl ∙ h.past;
    number = h.number;
    most = h.most;
    megabytes = h.megabytes;
  }

  pub holds_stop : g.stops ≡ false → Holding v (record g { stops = true }) (rows ++ flag_row (codes "stop-with-input") ∷ [])
  holds_stop off = record {
    places = places_kept (place_names v) g.words rows (flag_row (codes "stop-with-input")) (others (codes "stop-with-input") refl refl refl refl refl refl v) h.places;
    explains = seen_other (codes "explain") (flag_row (codes "stop-with-input")) rows refl ∙ h.explains;
    silent = seen_other (codes "no-explain") (flag_row (codes "stop-with-input")) rows refl ∙ h.silent;
    stops = seen_new (codes "stop-with-input") (flag_row (codes "stop-with-input")) rows refl (h.stops ∙ ap (flag_seen (codes "stop-with-input")) off);
    stuck = seen_other (codes "stuck") (flag_row (codes "stop-with-input")) rows refl ∙ h.stuck;
    sessions = seen_other (codes "sessions") (flag_row (codes "stop-with-input")) rows refl ∙ h.sessions;
    at_once = seen_other (codes "at-once") (flag_row (codes "stop-with-input")) rows refl ∙ h.at_once;
    sync = seen_other (codes "sync") (flag_row (codes "stop-with-input")) rows refl ∙ h.sync;
    traces = seen_other (codes "traces") (flag_row (codes "stop-with-input")) rows refl ∙ h.traces;
    past = seen_other (codes "past") (flag_row (codes "stop-with-input")) rows refl ∙ h.past;
    number = h.number;
    most = h.most;
    megabytes = h.megabytes;
  }

  pub holds_stuck : g.stuck ≡ false → Holding v (record g { stuck = true }) (rows ++ flag_row (codes "stuck") ∷ [])
  holds_stuck off = record {
    places = places_kept (place_names v) g.words rows (flag_row (codes "stuck")) (others (codes "stuck") refl refl refl refl refl refl v) h.places;
    explains = seen_other (codes "explain") (flag_row (codes "stuck")) rows refl ∙ h.explains;
    silent = seen_other (codes "no-explain") (flag_row (codes "stuck")) rows refl ∙ h.silent;
    stops = seen_other (codes "stop-with-input") (flag_row (codes "stuck")) rows refl ∙ h.stops;
    stuck = seen_new (codes "stuck") (flag_row (codes "stuck")) rows refl (h.stuck ∙ ap (flag_seen (codes "stuck")) off);
    sessions = seen_other (codes "sessions") (flag_row (codes "stuck")) rows refl ∙ h.sessions;
    at_once = seen_other (codes "at-once") (flag_row (codes "stuck")) rows refl ∙ h.at_once;
    sync = seen_other (codes "sync") (flag_row (codes "stuck")) rows refl ∙ h.sync;
    traces = seen_other (codes "traces") (flag_row (codes "stuck")) rows refl ∙ h.traces;
    past = seen_other (codes "past") (flag_row (codes "stuck")) rows refl ∙ h.past;
    number = h.number;
    most = h.most;
    megabytes = h.megabytes;
  }

  some_same : (n m : Text) → Some n ≡ Some m → n ≡ m
  some_same n m e = ap (λ (o : Option Text). unwrap_or o n) e

  pub holds_choice : (o : Choice) (n : Text) → Open o g → Allows o n → Holding v (choose o n g) (rows_with o n rows)
  holds_choice of_sessions n off is = record {
    places = places_kept (place_names v) g.words rows (text_row (codes "sessions") n) (others_choice of_sessions v) h.places;
    explains = seen_other (codes "explain") (text_row (codes "sessions") n) rows refl ∙ h.explains;
    silent = seen_other (codes "no-explain") (text_row (codes "sessions") n) rows refl ∙ h.silent;
    stops = seen_other (codes "stop-with-input") (text_row (codes "sessions") n) rows refl ∙ h.stops;
    stuck = seen_other (codes "stuck") (text_row (codes "sessions") n) rows refl ∙ h.stuck;
    sessions = seen_new (codes "sessions") (text_row (codes "sessions") n) rows refl (h.sessions ∙ ap (option_map (text_row (codes "sessions"))) off);
    at_once = seen_other (codes "at-once") (text_row (codes "sessions") n) rows refl ∙ h.at_once;
    sync = seen_other (codes "sync") (text_row (codes "sessions") n) rows refl ∙ h.sync;
    traces = seen_other (codes "traces") (text_row (codes "sessions") n) rows refl ∙ h.traces;
    past = seen_other (codes "past") (text_row (codes "sessions") n) rows refl ∙ h.past;
    number = λ m e. subst (IsNumber 1 64) (some_same n m e) is;
    most = h.most;
    megabytes = h.megabytes;
  }
  holds_choice of_at_once n off is = record {
    places = places_kept (place_names v) g.words rows (text_row (codes "at-once") n) (others_choice of_at_once v) h.places;
    explains = seen_other (codes "explain") (text_row (codes "at-once") n) rows refl ∙ h.explains;
    silent = seen_other (codes "no-explain") (text_row (codes "at-once") n) rows refl ∙ h.silent;
    stops = seen_other (codes "stop-with-input") (text_row (codes "at-once") n) rows refl ∙ h.stops;
    stuck = seen_other (codes "stuck") (text_row (codes "at-once") n) rows refl ∙ h.stuck;
    sessions = seen_other (codes "sessions") (text_row (codes "at-once") n) rows refl ∙ h.sessions;
    at_once = seen_new (codes "at-once") (text_row (codes "at-once") n) rows refl (h.at_once ∙ ap (option_map (text_row (codes "at-once"))) off);
    sync = seen_other (codes "sync") (text_row (codes "at-once") n) rows refl ∙ h.sync;
    traces = seen_other (codes "traces") (text_row (codes "at-once") n) rows refl ∙ h.traces;
    past = seen_other (codes "past") (text_row (codes "at-once") n) rows refl ∙ h.past;
    number = h.number;
    most = λ m e. subst (IsNumber 1 10000) (some_same n m e) is;
    megabytes = h.megabytes;
  }
  holds_choice of_sync n off is = record {
    places = places_kept (place_names v) g.words rows (text_row (codes "sync") n) (others_choice of_sync v) h.places;
    explains = seen_other (codes "explain") (text_row (codes "sync") n) rows refl ∙ h.explains;
    silent = seen_other (codes "no-explain") (text_row (codes "sync") n) rows refl ∙ h.silent;
    stops = seen_other (codes "stop-with-input") (text_row (codes "sync") n) rows refl ∙ h.stops;
    stuck = seen_other (codes "stuck") (text_row (codes "sync") n) rows refl ∙ h.stuck;
    sessions = seen_other (codes "sessions") (text_row (codes "sync") n) rows refl ∙ h.sessions;
    at_once = seen_other (codes "at-once") (text_row (codes "sync") n) rows refl ∙ h.at_once;
    sync = seen_new (codes "sync") (text_row (codes "sync") n) rows refl (h.sync ∙ ap (option_map (text_row (codes "sync"))) off);
    traces = seen_other (codes "traces") (text_row (codes "sync") n) rows refl ∙ h.traces;
    past = seen_other (codes "past") (text_row (codes "sync") n) rows refl ∙ h.past;
    number = h.number;
    most = h.most;
    megabytes = h.megabytes;
  }
  holds_choice of_traces n off is = record {
    places = places_kept (place_names v) g.words rows (text_row (codes "traces") n) (others_choice of_traces v) h.places;
    explains = seen_other (codes "explain") (text_row (codes "traces") n) rows refl ∙ h.explains;
    silent = seen_other (codes "no-explain") (text_row (codes "traces") n) rows refl ∙ h.silent;
    stops = seen_other (codes "stop-with-input") (text_row (codes "traces") n) rows refl ∙ h.stops;
    stuck = seen_other (codes "stuck") (text_row (codes "traces") n) rows refl ∙ h.stuck;
    sessions = seen_other (codes "sessions") (text_row (codes "traces") n) rows refl ∙ h.sessions;
    at_once = seen_other (codes "at-once") (text_row (codes "traces") n) rows refl ∙ h.at_once;
    sync = seen_other (codes "sync") (text_row (codes "traces") n) rows refl ∙ h.sync;
    traces = seen_new (codes "traces") (text_row (codes "traces") n) rows refl (h.traces ∙ ap (option_map (text_row (codes "traces"))) off);
    past = seen_other (codes "past") (text_row (codes "traces") n) rows refl ∙ h.past;
    number = h.number;
    most = h.most;
    megabytes = λ m e. subst (IsNumber 1 1000000) (some_same n m e) is;
  }
  holds_choice of_past n off is = record {
    places = places_more (place_names v) g.words rows (codes "past") (n ∷ []) (others_choice of_past v) h.places;
    explains = more_other (codes "past") (n ∷ []) (codes "explain") rows refl ∙ h.explains;
    silent = more_other (codes "past") (n ∷ []) (codes "no-explain") rows refl ∙ h.silent;
    stops = more_other (codes "past") (n ∷ []) (codes "stop-with-input") rows refl ∙ h.stops;
    stuck = more_other (codes "past") (n ∷ []) (codes "stuck") rows refl ∙ h.stuck;
    sessions = more_other (codes "past") (n ∷ []) (codes "sessions") rows refl ∙ h.sessions;
    at_once = more_other (codes "past") (n ∷ []) (codes "at-once") rows refl ∙ h.at_once;
    sync = more_other (codes "past") (n ∷ []) (codes "sync") rows refl ∙ h.sync;
    traces = more_other (codes "past") (n ∷ []) (codes "traces") rows refl ∙ h.traces;
    past = again_more (codes "past") n g.past rows h.past;
    number = h.number;
    most = h.most;
    megabytes = h.megabytes;
  }

  pub holds_word : (p : Place v g.words) (w : Text) → Takes v g.words w → Holding v (record g { words = g.words ++ w ∷ [] }) (rows ++ text_row p.name w ∷ [])
  holds_word p w t = record {
    places = p.adds w rows h.places;
    explains = seen_other (codes "explain") (text_row p.name w) rows p.no_explain ∙ h.explains;
    silent = seen_other (codes "no-explain") (text_row p.name w) rows p.no_silence ∙ h.silent;
    stops = seen_other (codes "stop-with-input") (text_row p.name w) rows p.no_stop ∙ h.stops;
    stuck = seen_other (codes "stuck") (text_row p.name w) rows p.no_stuck ∙ h.stuck;
    sessions = seen_other (codes "sessions") (text_row p.name w) rows p.no_sessions ∙ h.sessions;
    at_once = seen_other (codes "at-once") (text_row p.name w) rows p.no_at_once ∙ h.at_once;
    sync = seen_other (codes "sync") (text_row p.name w) rows p.no_sync ∙ h.sync;
    traces = seen_other (codes "traces") (text_row p.name w) rows p.no_traces ∙ h.traces;
    past = seen_other (codes "past") (text_row p.name w) rows p.no_past ∙ h.past;
    number = h.number;
    most = h.most;
    megabytes = h.megabytes;
  }

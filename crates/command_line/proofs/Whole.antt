-- What the parser makes of a whole command line is what its words ask for.
use Rattle.std.proofs.Common.{◌≡◌, ◌∙◌, ◌&&◌, ◌||◌, ◌==◌, cond, not, Bool, true, false, ℕ, List, [], ◌∷◌, Option, Some, None, is_some, refl, sym, ap, ap₂, subst, bytes_eq, codes, option_map, option_and_then, fold, slice_get}
use Rattle.std.specs.Prelude.{⊤, unwrap_or}
use Rattle.std.specs.Option.{option_map_or, option_or}
use Rattle.std.specs.List.{list_all, list_any}
use Rattle.std.proofs.lemmas.Slice.Eq.{bytes_eq-Decides}
use Rattle.clap.specs.Lexer.{name_and_value}
use Rattle.clap.specs.Walk.{Held, Names, Row, Rule, Text, Walk, idle, arg_by_index, arg_by_long, arg_by_short, finished, first_of as first_in, has_row, is_empty, nothing_held, one_of, row_text, rows_after, settled, stop_after, subcommand_met, value, walk, walk_from, walked, with_default}
use Rattle.clap.specs.Simple.{entered, is_simple, names_of, subcommand_of}
use Rattle.clap.specs.Takes.{is_given}
use Rattle.clap.specs.Values.{bool_text}
use Rattle.clap.specs.Facts.{explicit_source}
use Rattle.clap.specs.Kinds.{Kinds as Faults}
use Rattle.clap.specs.Faults.{built_fault, check_fault, default_fault, defaults_fault, entered_fault, fault_of, given_default_fault, is_simple_and_free, level_fault, long_fault, settle_fault, short_fault, step_fault, turn_fault, walk_fault}
use Rattle.clap.specs.declared.error.kind.ErrorKind.TheVariants as kinds
use Rattle.clap.specs.declared.builder.value_parser.Reading.TheVariants.{AsWritten}
use Rattle.clap.specs.declared.parser.matches.ValueSource.TheVariants.{DefaultValue}
use Rattle.clap.proofs.WalkLemmas.{both, walk_stopped}
use Rattle.clap.proofs.FaultLemmas.{stopped_fault}
use Rattle.command_line.specs.Forms.{Verb, paths, check, run, audit, attempt, serve, keep, name_of, Given, nothing, Gives, IsNumber, number_of, sessions_of, at_once_of, sync_of, traces_of, AreTried, Makes, Asks}
use Rattle.command_line.specs.Commands.{Holds, HoldsTraces, past_in, program}
use Rattle.command_line.specs.declared.request.Request.{Request}
use Rattle.command_line.specs.declared.request.Request.TheVariants as requests
use Rattle.command_line.proofs.Rows.{seen, row_with, seen_at_end, default_seen, again_row}
use Rattle.command_line.proofs.Sorts.{bare, hyphens, long, short, kind, bare_word, dashes}
use Rattle.command_line.proofs.Turns.{some_fault, first_of, then_of, neither, stands, bare_fault, long_first, short_first, bundle_first}
use Rattle.command_line.proofs.Levels.{rules, leaf, top, whole, place_names, text_row, Places, passes_number, shown_by, shown_rule, shown_short}
use Rattle.command_line.proofs.Steps.{held, at, rows_now, flag_seen, Holding, Stands}
use Rattle.command_line.proofs.Uses.{by_shown, short_fails}
use Rattle.command_line.proofs.Walks.{completes, sound, tail_fault}

clash : false ≡ true → ⊥
clash x = cc

-- ---- defaults do not fail

abbrev none_in : Faults → Bool
none_in [] = true
none_in (k ∷ ks) = false

abbrev default_ok : Rule → Bool
default_ok a = is_empty a.defaults || none_in (given_default_fault a a.defaults)

no_kinds : (ks : Faults) → none_in ks ≡ true → ks ≡ []
no_kinds [] e = refl
no_kinds (k ∷ ks) e = absurd (clash e)

one_default : (rows : List Row) (a : Rule) → default_ok a ≡ true → default_fault rows a ≡ []
one_default rows a ok = go (has_row a.id rows) (is_empty a.defaults) ok
  where
    go : (b e : Bool) → (e || none_in (given_default_fault a a.defaults)) ≡ true → cond (b || e) [] (given_default_fault a a.defaults) ≡ []
    go true e ok = refl
    go false true ok = refl
    go false false ok = no_kinds (given_default_fault a a.defaults) ok

no_default_fault : (c : List Rule) (rows : List Row) → list_all default_ok c ≡ true → defaults_fault rows c ≡ []
unfolding defaults_fault
no_default_fault [] rows ok = refl
no_default_fault (a ∷ rest) rows ok =
    let parts = both (default_ok a) (list_all default_ok rest) ok in
    neither _ _ (one_default rows a parts.0) (no_default_fault rest (with_default rows a) parts.1)

defaults_ok : (v : Verb) → list_all default_ok (rules v) ≡ true
defaults_ok paths = refl
defaults_ok check = refl
defaults_ok run = refl
defaults_ok audit = refl
defaults_ok attempt = refl
defaults_ok serve = refl
defaults_ok keep = refl

-- ---- the end of the words of a subcommand

-- a subcommand has all its words
abbrev pub IsFull : Verb → List Text → Type 0
IsFull paths ws = ⊤
IsFull check (a ∷ []) = ⊤
IsFull run (a ∷ b ∷ []) = ⊤
IsFull audit (a ∷ b ∷ []) = ⊤
IsFull attempt (a ∷ []) = ⊤
IsFull attempt (a ∷ b ∷ []) = ⊤
IsFull serve (a ∷ b ∷ c ∷ []) = ⊤
IsFull keep (a ∷ b ∷ c ∷ []) = ⊤
IsFull v ws = ⊥

abbrev lacks : Verb → List Row → Bool
lacks v rows = list_any (λ a. a.required && not (is_given a.id rows)) (rules v)

check_is : (v : Verb) (rows : List Row) → check_fault (leaf v) rows false ≡ cond (lacks v rows) (kinds.MissingRequiredArgument ∷ []) []
check_is v rows = refl

lacks_none : (v : Verb) (rows : List Row) → check_fault (leaf v) rows false ≡ [] → lacks v rows ≡ false
lacks_none v rows e = go (lacks v rows) (sym (check_is v rows) ∙ e)
  where
    go : (b : Bool) → cond b (kinds.MissingRequiredArgument ∷ []) [] ≡ [] → b ≡ false
    go true e = absurd (some_fault _ _ e)
    go false e = refl

module _ (v : Verb) (R : List Row) where
  abbrev last : List Row
  last = fold with_default R (rules v)

  seen_last : (id w : Text) → seen id R ≡ Some (text_row id w) → seen id last ≡ Some (text_row id w)
  seen_last id w e = seen_at_end id (rules v) R ∙ ap (λ o. option_or o (default_seen id (rules v))) e

  unseen_last : (id : Text) → default_seen id (rules v) ≡ None → seen id R ≡ None → seen id last ≡ None
  unseen_last id none e = seen_at_end id (rules v) R ∙ ap₂ option_or e none

  given_last : (id w : Text) → seen id R ≡ Some (text_row id w) → is_given id last ≡ true
  given_last id w e = ap (λ (o : Option Row). option_map_or (λ r. explicit_source r.source) o false) (seen_last id w e)

  missing_last : (id : Text) → default_seen id (rules v) ≡ None → seen id R ≡ None → is_given id last ≡ false
  missing_last id none e = ap (λ (o : Option Row). option_map_or (λ r. explicit_source r.source) o false) (unseen_last id none e)

  word_last : (id w : Text) → seen id R ≡ Some (text_row id w) → first_in id last ≡ Some w
  word_last id w e = ap (option_and_then (λ (r : Row). slice_get r.values 0)) (seen_last id w e)

  no_word_last : (id : Text) → default_seen id (rules v) ≡ None → seen id R ≡ None → first_in id last ≡ None
  no_word_last id none e = ap (option_and_then (λ (r : Row). slice_get r.values 0)) (unseen_last id none e)

  one_last : (id w : Text) → seen id R ≡ Some (text_row id w) → one_of id last ≡ Some w
  one_last id w e = ap (option_and_then row_text) (seen_last id w e)

  flag_last : (id : Text) (b : Bool) → default_seen id (rules v) ≡ Some (row_with DefaultValue id AsWritten (codes "false" ∷ [])) → seen id R ≡ flag_seen id b
      → one_of id last ≡ Some (bool_text b)
  flag_last id true off e = ap (option_and_then row_text) (seen_at_end id (rules v) R ∙ ap₂ option_or e off)
  flag_last id false off e = ap (option_and_then row_text) (seen_at_end id (rules v) R ∙ ap₂ option_or e off)

-- nothing lacks where one thing more is given
lacks_one : (a : Bool) (rest : Bool) → a ≡ true → (not a || rest) ≡ rest
lacks_one a rest e = ap (λ b. not b || rest) e

lacks_this : (a rest : Bool) → a ≡ false → (not a || rest) ≡ false → ⊥
lacks_this a rest e none = clash (sym none ∙ ap (λ b. not b || rest) e)

lacks_later : (a rest : Bool) → (not a || rest) ≡ false → rest ≡ false
lacks_later true rest none = none
lacks_later false rest none = absurd (clash (sym none))

abbrev FILE : Text
FILE = codes "FILE"

sessions_last : (g : Given) (R : List Row) → Holding serve g R → (t : Text) × (one_of (codes "sessions") (last serve R) ≡ Some t) × IsNumber 1 64 t × (sessions_of g.sessions ≡ number_of t)
sessions_last g R h = go g.sessions refl
  where
    go : (o : Option Text) → g.sessions ≡ o → (t : Text) × (one_of (codes "sessions") (last serve R) ≡ Some t) × IsNumber 1 64 t × (sessions_of g.sessions ≡ number_of t)
    go (Some n) e = (n, one_last serve R (codes "sessions") n (h.sessions ∙ ap (option_map (text_row (codes "sessions"))) e), h.number n e, ap sessions_of e)
    go None e = (
      codes "16",
      ap (option_and_then row_text) (seen_at_end (codes "sessions") (rules serve) R ∙ ap (λ o. option_or o (default_seen (codes "sessions") (rules serve))) (h.sessions ∙ ap (option_map (text_row (codes "sessions"))) e)),
      passes_number 1 64 (codes "16") refl,
      ap sessions_of e,
    )

at_once_last : (g : Given) (R : List Row) → Holding keep g R → (t : Text) × (one_of (codes "at-once") (last keep R) ≡ Some t) × IsNumber 1 10000 t × (at_once_of g.at_once ≡ number_of t)
at_once_last g R h = go g.at_once refl
  where
    go : (o : Option Text) → g.at_once ≡ o → (t : Text) × (one_of (codes "at-once") (last keep R) ≡ Some t) × IsNumber 1 10000 t × (at_once_of g.at_once ≡ number_of t)
    go (Some n) e = (n, one_last keep R (codes "at-once") n (h.at_once ∙ ap (option_map (text_row (codes "at-once"))) e), h.most n e, ap at_once_of e)
    go None e = (
      codes "1000",
      ap (option_and_then row_text) (seen_at_end (codes "at-once") (rules keep) R ∙ ap (λ o. option_or o (default_seen (codes "at-once") (rules keep))) (h.at_once ∙ ap (option_map (text_row (codes "at-once"))) e)),
      passes_number 1 10000 (codes "1000") refl,
      ap at_once_of e,
    )

sync_last : (g : Given) (R : List Row) → Holding keep g R → (t : Text) × (first_in (codes "sync") (last keep R) ≡ Some t) × (sync_of g.sync ≡ t)
sync_last g R h = go g.sync refl
  where
    go : (o : Option Text) → g.sync ≡ o → (t : Text) × (first_in (codes "sync") (last keep R) ≡ Some t) × (sync_of g.sync ≡ t)
    go (Some w) e = (w, word_last keep R (codes "sync") w (h.sync ∙ ap (option_map (text_row (codes "sync"))) e), ap sync_of e)
    go None e = (
      codes "always",
      ap (option_and_then (λ (r : Row). slice_get r.values 0)) (seen_at_end (codes "sync") (rules keep) R ∙ ap (λ o. option_or o (default_seen (codes "sync") (rules keep))) (h.sync ∙ ap (option_map (text_row (codes "sync"))) e)),
      ap sync_of e,
    )

traces_last : (g : Given) (R : List Row) → Holding keep g R → HoldsTraces g (last keep R)
traces_last g R h = go g.traces refl
  where
    go : (o : Option Text) → g.traces ≡ o → HoldsTraces g (last keep R)
    go (Some n) e = (n, one_last keep R (codes "traces") n (h.traces ∙ ap (option_map (text_row (codes "traces"))) e), h.megabytes n e, ap traces_of e)
    go None e = (
      codes "300",
      ap (option_and_then row_text) (seen_at_end (codes "traces") (rules keep) R ∙ ap (λ o. option_or o (default_seen (codes "traces") (rules keep))) (h.traces ∙ ap (option_map (text_row (codes "traces"))) e)),
      passes_number 1 1000000 (codes "300") refl,
      ap traces_of e,
    )

again_values : (id : Text) (ws : List Text) → unwrap_or (option_map (λ (r : Row). r.values) (option_or (again_row id ws) None)) [] ≡ ws
again_values id [] = refl
again_values id (w ∷ ws) = refl

past_last : (g : Given) (R : List Row) → Holding keep g R → past_in (last keep R) ≡ g.past
past_last g R h =
    ap (λ (o : Option Row). unwrap_or (option_map (λ (r : Row). r.values) o) []) (seen_at_end (codes "past") (rules keep) R ∙ ap (λ o. option_or o None) h.past)
    ∙ again_values (codes "past") g.past

-- what lacks nothing holds what was given
holds_all : (v : Verb) (g : Given) (ws : List Text) (R : List Row) → g.words ≡ ws → Places (place_names v) ws R → Holding v g R → lacks v (last v R) ≡ false
    → IsFull v ws × Holds v g (last v R)
holds_all paths g [] R e places h none = (tt, tt)
holds_all paths g (a ∷ more) R e places h none = absurd places
holds_all check g [] R e places h none = absurd (lacks_this _ _ (missing_last check R FILE refl places.0) none)
holds_all check g (a ∷ []) R e places h none =
    (tt, (a, e, word_last check R FILE a places.0, flag_last check R (codes "stuck") g.stuck refl h.stuck, (flag_last check R (codes "explain") g.explains refl h.explains, flag_last check R (codes "no-explain") g.silent refl h.silent)))
holds_all check g (a ∷ b ∷ more) R e places h none = absurd places.1
holds_all run g [] R e places h none = absurd (lacks_this _ _ (missing_last run R FILE refl places.0) none)
holds_all run g (a ∷ []) R e places h none = absurd (lacks_this _ _ (missing_last run R (codes "SCRIPT") refl places.1.0) (lacks_later _ _ none))
holds_all run g (a ∷ b ∷ []) R e places h none =
    (tt, (a, b, e, word_last run R FILE a places.0, word_last run R (codes "SCRIPT") b places.1.0, (flag_last run R (codes "explain") g.explains refl h.explains, flag_last run R (codes "no-explain") g.silent refl h.silent)))
holds_all run g (a ∷ b ∷ c ∷ more) R e places h none = absurd places.1.1
holds_all audit g [] R e places h none = absurd (lacks_this _ _ (missing_last audit R FILE refl places.0) none)
holds_all audit g (a ∷ []) R e places h none = absurd (lacks_this _ _ (missing_last audit R (codes "TRACE") refl places.1.0) (lacks_later _ _ none))
holds_all audit g (a ∷ b ∷ []) R e places h none =
    (tt, (a, b, e, word_last audit R FILE a places.0, word_last audit R (codes "TRACE") b places.1.0, (flag_last audit R (codes "explain") g.explains refl h.explains, flag_last audit R (codes "no-explain") g.silent refl h.silent)))
holds_all audit g (a ∷ b ∷ c ∷ more) R e places h none = absurd places.1.1
holds_all attempt g [] R e places h none = absurd (lacks_this _ _ (missing_last attempt R FILE refl places.0) none)
holds_all attempt g (a ∷ []) R e places h none =
    (tt, (a, word_last attempt R FILE a places.0, subst (AreTried g.words a) (sym (no_word_last attempt R (codes "NAME") refl places.1.0)) e, (flag_last attempt R (codes "explain") g.explains refl h.explains, flag_last attempt R (codes "no-explain") g.silent refl h.silent)))
holds_all attempt g (a ∷ b ∷ []) R e places h none =
    (tt, (a, word_last attempt R FILE a places.0, subst (AreTried g.words a) (sym (word_last attempt R (codes "NAME") b places.1.0)) e, (flag_last attempt R (codes "explain") g.explains refl h.explains, flag_last attempt R (codes "no-explain") g.silent refl h.silent)))
holds_all attempt g (a ∷ b ∷ c ∷ more) R e places h none = absurd places.1.1
holds_all serve g [] R e places h none = absurd (lacks_this _ _ (missing_last serve R FILE refl places.0) none)
holds_all serve g (a ∷ []) R e places h none = absurd (lacks_this _ _ (missing_last serve R (codes "DIR") refl places.1.0) (lacks_later _ _ none))
holds_all serve g (a ∷ b ∷ []) R e places h none = absurd (lacks_this _ _ (missing_last serve R (codes "PLACE") refl places.1.1.0) (lacks_later _ _ (lacks_later _ _ none)))
holds_all serve g (a ∷ b ∷ c ∷ []) R e places h none =
    let s = sessions_last g R h in (
      tt,
      (
        a,
        b,
        c,
        s.0,
        e,
        word_last serve R FILE a places.0,
        word_last serve R (codes "DIR") b places.1.0,
        word_last serve R (codes "PLACE") c places.1.1.0,
        s.1,
        s.2,
        s.3,
        flag_last serve R (codes "stop-with-input") g.stops refl h.stops,
        (flag_last serve R (codes "explain") g.explains refl h.explains, flag_last serve R (codes "no-explain") g.silent refl h.silent),
      ),
    )
holds_all serve g (a ∷ b ∷ c ∷ d ∷ more) R e places h none = absurd places.1.1.1
holds_all keep g [] R e places h none = absurd (lacks_this _ _ (missing_last keep R FILE refl places.0) none)
holds_all keep g (a ∷ []) R e places h none = absurd (lacks_this _ _ (missing_last keep R (codes "DIR") refl places.1.0) (lacks_later _ _ none))
holds_all keep g (a ∷ b ∷ []) R e places h none = absurd (lacks_this _ _ (missing_last keep R (codes "PLACE") refl places.1.1.0) (lacks_later _ _ (lacks_later _ _ none)))
holds_all keep g (a ∷ b ∷ c ∷ []) R e places h none =
    let s = at_once_last g R h in
    let y = sync_last g R h in (
      tt,
      (
        a,
        b,
        c,
        s.0,
        y.0,
        e,
        word_last keep R FILE a places.0,
        word_last keep R (codes "DIR") b places.1.0,
        word_last keep R (codes "PLACE") c places.1.1.0,
        s.1,
        s.2,
        s.3,
        y.1,
        y.2,
        flag_last keep R (codes "stop-with-input") g.stops refl h.stops,
        traces_last g R h,
        past_last g R h,
        (flag_last keep R (codes "explain") g.explains refl h.explains, flag_last keep R (codes "no-explain") g.silent refl h.silent),
      ),
    )
holds_all keep g (a ∷ b ∷ c ∷ d ∷ more) R e places h none = absurd places.1.1.1

full_lacks_none : (v : Verb) (ws : List Text) (R : List Row) → Places (place_names v) ws R → IsFull v ws → lacks v (last v R) ≡ false
full_lacks_none paths ws R places full = refl
full_lacks_none check [] R places full = absurd full
full_lacks_none check (a ∷ []) R places full = lacks_one _ _ (given_last check R FILE a places.0)
full_lacks_none check (a ∷ b ∷ more) R places full = absurd full
full_lacks_none run [] R places full = absurd full
full_lacks_none run (a ∷ []) R places full = absurd full
full_lacks_none run (a ∷ b ∷ []) R places full =
    lacks_one _ _ (given_last run R FILE a places.0) ∙ lacks_one _ _ (given_last run R (codes "SCRIPT") b places.1.0)
full_lacks_none run (a ∷ b ∷ c ∷ more) R places full = absurd full
full_lacks_none audit [] R places full = absurd full
full_lacks_none audit (a ∷ []) R places full = absurd full
full_lacks_none audit (a ∷ b ∷ []) R places full =
    lacks_one _ _ (given_last audit R FILE a places.0) ∙ lacks_one _ _ (given_last audit R (codes "TRACE") b places.1.0)
full_lacks_none audit (a ∷ b ∷ c ∷ more) R places full = absurd full
full_lacks_none attempt [] R places full = absurd full
full_lacks_none attempt (a ∷ []) R places full = lacks_one _ _ (given_last attempt R FILE a places.0)
full_lacks_none attempt (a ∷ b ∷ []) R places full = lacks_one _ _ (given_last attempt R FILE a places.0)
full_lacks_none attempt (a ∷ b ∷ c ∷ more) R places full = absurd full
full_lacks_none serve [] R places full = absurd full
full_lacks_none serve (a ∷ []) R places full = absurd full
full_lacks_none serve (a ∷ b ∷ []) R places full = absurd full
full_lacks_none serve (a ∷ b ∷ c ∷ []) R places full =
    lacks_one _ _ (given_last serve R FILE a places.0) ∙ lacks_one _ _ (given_last serve R (codes "DIR") b places.1.0) ∙ lacks_one _ _ (given_last serve R (codes "PLACE") c places.1.1.0)
full_lacks_none serve (a ∷ b ∷ c ∷ d ∷ more) R places full = absurd full
full_lacks_none keep [] R places full = absurd full
full_lacks_none keep (a ∷ []) R places full = absurd full
full_lacks_none keep (a ∷ b ∷ []) R places full = absurd full
full_lacks_none keep (a ∷ b ∷ c ∷ []) R places full =
    lacks_one _ _ (given_last keep R FILE a places.0) ∙ lacks_one _ _ (given_last keep R (codes "DIR") b places.1.0) ∙ lacks_one _ _ (given_last keep R (codes "PLACE") c places.1.1.0)
full_lacks_none keep (a ∷ b ∷ c ∷ d ∷ more) R places full = absurd full

-- ---- one subcommand

pub nothing_stands : (v : Verb) → Stands v nothing [] None
nothing_stands v = record {
  valid = refl;
  holds = record { places = none_placed v; explains = refl; silent = refl; stops = refl; stuck = refl; sessions = refl; at_once = refl; sync = refl; traces = refl; past = refl; number = λ n e. absurd (none_some n e); most = λ n e. absurd (none_some n e); megabytes = λ n e. absurd (none_some n e) };
}
  where
    none_some : (n : Text) → None ≡ Some n → ⊥
    none_some n e = cc

    none_placed : (v : Verb) → Places (place_names v) [] []
    none_placed paths = tt
    none_placed check = (refl, tt)
    none_placed run = (refl, (refl, tt))
    none_placed audit = (refl, (refl, tt))
    none_placed attempt = (refl, (refl, tt))
    none_placed serve = (refl, (refl, (refl, tt)))
    none_placed keep = (refl, (refl, (refl, tt)))

abbrev pub start : Walk
start = walk_from nothing_held

module _ (v : Verb) (ws : List Text) where
  abbrev at_end : Held
  at_end = (walk (rules v) [] nothing_held ws).held

  level_parts : level_fault (leaf v) [] nothing_held ws false [] ≡ []
      → (tail_fault v (at true 1 (held [] None)) ws ≡ []) × (check_fault (leaf v) (finished (rules v) at_end) false ≡ [])
  level_parts e =
      let walks = first_of (walk_fault (leaf v) [] start ws) _ e in
      let more = then_of (walk_fault (leaf v) [] start ws) _ e in
      let settles = first_of (settle_fault (rules v) false at_end) _ more in
      (neither _ _ walks settles, then_of (defaults_fault (settled (rules v) at_end).rows (rules v)) _ (then_of (settle_fault (rules v) false at_end) _ more))

  level_back : tail_fault v (at true 1 (held [] None)) ws ≡ [] → check_fault (leaf v) (finished (rules v) at_end) false ≡ [] → level_fault (leaf v) [] nothing_held ws false [] ≡ []
  level_back tail checked =
      neither _ _ (first_of (walk_fault (leaf v) [] start ws) _ tail)
      (neither _ _ (then_of (walk_fault (leaf v) [] start ws) _ tail)
      (neither _ _ (no_default_fault (rules v) (settled (rules v) at_end).rows (defaults_ok v)) checked))

  pub level_completes : (g : Given) → Gives v true nothing ws g → IsFull v g.words → level_fault (leaf v) [] nothing_held ws false [] ≡ []
  level_completes g gives full =
      let done = completes v true nothing ws g gives [] None (nothing_stands v) in
      let R = rows_now v done.1.rows done.1.pending in
      level_back done.0 (ap (λ h. check_fault (leaf v) (finished (rules v) h) false) done.1.is
      ∙ check_is v (last v R) ∙ ap (λ b. cond b (kinds.MissingRequiredArgument ∷ []) []) (full_lacks_none v g.words R done.1.stands.holds.places full))

  pub level_holds : (g : Given) → Gives v true nothing ws g → IsFull v g.words → Holds v g (rows_after (rules v) [] ws)
  level_holds g gives full =
      let done = (completes v true nothing ws g gives [] None (nothing_stands v)).1 in
      let R = rows_now v done.rows done.pending in
      let none = full_lacks_none v g.words R done.stands.holds.places full in
      subst (λ h. Holds v g (finished (rules v) h)) (sym done.is)
      (holds_all v g g.words R refl done.stands.holds.places done.stands.holds none).1

  pub level_sound : level_fault (leaf v) [] nothing_held ws false [] ≡ []
      → (g : Given) × Gives v true nothing ws g × IsFull v g.words × Holds v g (rows_after (rules v) [] ws)
  level_sound e =
      let parts = level_parts e in
      let found = sound v ws true nothing [] None (nothing_stands v) parts.0 in
      let R = rows_now v found.2.rows found.2.pending in
      let none = lacks_none v (last v R) (ap (λ h. check_fault (leaf v) (finished (rules v) h) false) (sym found.2.is) ∙ parts.1) in
      let held_all = holds_all v found.0 found.0.words R refl found.2.stands.holds.places found.2.stands.holds none in
      (found.0, found.1, held_all.0, subst (λ h. Holds v found.0 (finished (rules v) h)) (sym found.2.is) held_all.1)

-- ---- the whole line

abbrev pub names : Names
names = names_of whole

verb_turn : (v : Verb) → turn_fault top names start (name_of v) ≡ []
verb_turn paths = refl
verb_turn check = refl
verb_turn run = refl
verb_turn audit = refl
verb_turn attempt = refl
verb_turn serve = refl
verb_turn keep = refl

verb_after : (v : Verb) → walked top.rules names start (name_of v) ≡ record start { stopped = Some (name_of v, []) }
unfolding walked
verb_after paths = refl
verb_after check = refl
verb_after run = refl
verb_after audit = refl
verb_after attempt = refl
verb_after serve = refl
verb_after keep = refl

verb_walk : (v : Verb) (ws : List Text) → walk top.rules names nothing_held (name_of v ∷ ws) ≡ record start { stopped = Some (name_of v, ws) }
verb_walk v ws = ap (λ w. fold (walked top.rules names) w ws) (verb_after v) ∙ sym (walk_stopped top.rules names start (name_of v) [] ws)

pub verb_walks : (v : Verb) (ws : List Text) → walk_fault top names start (name_of v ∷ ws) ≡ []
unfolding walk_fault
verb_walks v ws = neither _ _ (verb_turn v) (ap (λ w. walk_fault top names w ws) (verb_after v) ∙ stopped_fault top names start (name_of v, []) ws)

top_defaults : (rows : List Row) → defaults_fault rows top.rules ≡ []
top_defaults rows = no_default_fault top.rules rows refl

entered_is : (v : Verb) (ws : List Text) → entered whole (Some (name_of v, ws)) ≡ Some (name_of v, rows_after (rules v) [] ws)
entered_is paths ws = refl
entered_is check ws = refl
entered_is run ws = refl
entered_is audit ws = refl
entered_is attempt ws = refl
entered_is serve ws = refl
entered_is keep ws = refl

below_is : (v : Verb) (ws : List Text) → entered_fault whole (Some (name_of v, ws)) ≡ level_fault (leaf v) [] nothing_held ws false []
below_is paths ws = refl
below_is check ws = refl
below_is run ws = refl
below_is audit ws = refl
below_is attempt ws = refl
below_is serve ws = refl
below_is keep ws = refl

module _ (v : Verb) (ws : List Text) where
  abbrev line : List Text
  line = name_of v ∷ ws

  stop_is : (walk top.rules names nothing_held line).stopped ≡ Some (name_of v, ws)
  stop_is = ap (λ (w : Walk). w.stopped) (verb_walk v ws)

  held_is : (walk top.rules names nothing_held line).held ≡ nothing_held
  held_is = ap (λ (w : Walk). w.held) (verb_walk v ws)

  pub whole_is : built_fault whole nothing_held line ≡ level_fault top names nothing_held line true (level_fault (leaf v) [] nothing_held ws false [])
  whole_is = ap (λ stop. level_fault top names nothing_held line (is_some (entered whole stop)) (entered_fault whole stop)) stop_is
      ∙ ap (λ o. level_fault top names nothing_held line (is_some o) (entered_fault whole (Some (name_of v, ws)))) (entered_is v ws)
      ∙ ap (level_fault top names nothing_held line true) (below_is v ws)

  pub whole_completes : level_fault (leaf v) [] nothing_held ws false [] ≡ [] → built_fault whole nothing_held line ≡ []
  whole_completes e = whole_is ∙ neither _ _ (verb_walks v ws) (neither _ _ e
      (neither _ _ (ap (settle_fault top.rules false) held_is)
      (neither _ _ (top_defaults (settled top.rules (walk top.rules names nothing_held line).held).rows) refl)))

  pub whole_sound : built_fault whole nothing_held line ≡ [] → level_fault (leaf v) [] nothing_held ws false [] ≡ []
  whole_sound e = first_of (level_fault (leaf v) [] nothing_held ws false []) _ (then_of (walk_fault top names start line) _ (sym whole_is ∙ e))

  pub found_is : entered whole (stop_after top.rules names line) ≡ Some (name_of v, rows_after (rules v) [] ws)
  found_is = ap (entered whole) stop_is ∙ entered_is v ws

-- ---- a line that names no subcommand

data First (w : Text) : Type 0 where
  verb : (v : Verb) → w ≡ name_of v → First w
  help : w ≡ codes "help" → First w
  other : subcommand_met names idle w ≡ None → First w

abbrev pick : Bool → Bool → Bool → Bool → Bool → Bool → Bool → Bool → Option Text
pick a b c d n e k f = option_map (λ (s : Text × List Text). s.0) (cond (a || false) (Some (codes "paths", [])) (cond (b || false) (Some (codes "check", [])) (cond (c || false) (Some (codes "run", []))
    (cond (d || false) (Some (codes "audit", [])) (cond (n || false) (Some (codes "try", [])) (cond (e || false) (Some (codes "serve", [])) (cond (k || false) (Some (codes "keep", [])) (cond (f || false) (Some (codes "help", [])) None))))))))

first : (w : Text) → First w
first w = go (bytes_eq (codes "paths") w) (bytes_eq (codes "check") w) (bytes_eq (codes "run") w) (bytes_eq (codes "audit") w) (bytes_eq (codes "try") w) (bytes_eq (codes "serve") w) (bytes_eq (codes "keep") w)
    (bytes_eq (codes "help") w) refl refl refl refl refl refl refl refl refl
  where
    is : (n : Text) → bytes_eq n w ≡ true → w ≡ n
    is n e = sym ((bytes_eq-Decides n w).0 e)

    go : (a b c d n e k f : Bool) → bytes_eq (codes "paths") w ≡ a → bytes_eq (codes "check") w ≡ b → bytes_eq (codes "run") w ≡ c → bytes_eq (codes "audit") w ≡ d → bytes_eq (codes "try") w ≡ n → bytes_eq (codes "serve") w ≡ e
        → bytes_eq (codes "keep") w ≡ k → bytes_eq (codes "help") w ≡ f → subcommand_met names idle w ≡ pick a b c d n e k f → First w
    go true b c d n e k f p q r s x t v u m = verb paths (is (codes "paths") p)
    go false true c d n e k f p q r s x t v u m = verb check (is (codes "check") q)
    go false false true d n e k f p q r s x t v u m = verb run (is (codes "run") r)
    go false false false true n e k f p q r s x t v u m = verb audit (is (codes "audit") s)
    go false false false false true e k f p q r s x t v u m = verb attempt (is (codes "try") x)
    go false false false false false true k f p q r s x t v u m = verb serve (is (codes "serve") t)
    go false false false false false false true f p q r s x t v u m = verb keep (is (codes "keep") v)
    go false false false false false false false true p q r s x t v u m = help (is (codes "help") u)
    go false false false false false false false false p q r s x t v u m = other m

top_shown : (name : Text) → arg_by_long top.rules name ≡ shown_by name
top_shown name = refl

top_short : (x : ℕ) → arg_by_short top.rules x ≡ shown_short x
top_short x = refl

shown_fails : (a b : Bool) (o : Option Text) (h : Held) → long_fault top.rules false (shown_rule a b) o h ≡ [] → ⊥
shown_fails a b o h e = by_shown top.rules h paths [] o a b e

no_index : (k : ℕ) → arg_by_index top.rules k ≡ None
no_index k = refl

stray : (k : ℕ) (h : Held) → step_fault top k h value ≡ [] → ⊥
stray k h e = some_fault _ _ e

module _ (w : Text) (ws : List Text) (none : subcommand_met names idle w ≡ None) (e : built_fault whole nothing_held (w ∷ ws) ≡ []) where
  walks : walk_fault top names start (w ∷ ws) ≡ []
  walks = first_of (walk_fault top names start (w ∷ ws)) _ e

  turn_none : turn_fault top names start w ≡ []
  unfolding walk_fault
  turn_none = first_of (turn_fault top names start w) _ walks

  later : walk_fault top names (walked top.rules names start w) ws ≡ []
  unfolding walk_fault
  later = then_of (turn_fault top names start w) _ walks

abbrev behind : Walk
behind = stands top names 1 nothing_held true idle

hyphens_go : walked top.rules names start dashes ≡ behind
unfolding walked
hyphens_go = refl

behind_fails : (ws : List Text) → walk_fault top names behind ws ≡ [] → ws ≡ []
unfolding walk_fault
behind_fails [] e = refl
behind_fails (w ∷ ws) e = absurd (stray 1 nothing_held (first_of (turn_fault top names behind w) (walk_fault top names (walked top.rules names behind w) ws) e))

checked_none : (ws : List Text) (w : Walk) → walk top.rules names nothing_held ws ≡ w → w.stopped ≡ None → built_fault whole nothing_held ws ≡ [] → ⊥
checked_none ws w is none e =
    let stop : (walk top.rules names nothing_held ws).stopped ≡ None = ap (λ (w : Walk). w.stopped) is ∙ none in
    let whole_none : level_fault top names nothing_held ws false [] ≡ [] =
    sym (ap (λ stop. level_fault top names nothing_held ws (is_some (entered whole stop)) (entered_fault whole stop)) stop) ∙ e in
    some_fault _ _ (then_of (defaults_fault (settled top.rules (walk top.rules names nothing_held ws).held).rows top.rules) _
    (then_of (settle_fault top.rules false (walk top.rules names nothing_held ws).held) _ (then_of (walk_fault top names start ws) _ whole_none)))

no_subcommand : (w : Text) (ws : List Text) → subcommand_met names idle w ≡ None → built_fault whole nothing_held (w ∷ ws) ≡ [] → ⊥
no_subcommand w ws none e = elim (kind w) [
  | bare is word_is ↦ stray 1 nothing_held (sym (bare_fault top names 1 nothing_held w (bare_word w is) refl none) ∙ turn_none w ws none e)
  | long t is two has ↦ shown_fails (bytes_eq (codes "help") (name_and_value t).0) (bytes_eq (codes "version") (name_and_value t).0) (name_and_value t).1 nothing_held
      (ap (λ o. long_fault top.rules false o (name_and_value t).1 nothing_held) (sym (top_shown (name_and_value t).0))
      ∙ long_first top names 1 nothing_held idle w none two (name_and_value t) has (turn_none w ws none e))
  | short x xs ch is two no_long has char ↦
      let bundled = short_first top names 1 nothing_held idle w none two (x ∷ xs) no_long has (turn_none w ws none e) in
      let got = bundle_first top.rules false x xs nothing_held ch refl char bundled in
      short_fails top.rules nothing_held (104 == ch) (86 == ch) got.0 got.1 (ap (λ o. short_fault top.rules false o got.0 nothing_held got.1) (sym (top_short ch)) ∙ got.2)
  | hyphens is ↦
      let goes : walked top.rules names start w ≡ behind = ap (λ x. walked top.rules names start x) is ∙ hyphens_go in
      let ends = behind_fails ws (ap (λ x. walk_fault top names x ws) (sym goes) ∙ later w ws none e) in
      checked_none (w ∷ ws) behind (ap (λ x. fold (walked top.rules names) x ws) goes ∙ ap (λ xs. fold (walked top.rules names) behind xs) ends) refl e
]

help_turn : turn_fault top names start (codes "help") ≡ kinds.DisplayHelp ∷ kinds.InvalidSubcommand ∷ []
help_turn = refl

helped : (w : Text) (ws : List Text) → built_fault whole nothing_held (w ∷ ws) ≡ [] → turn_fault top names start w ≡ []
unfolding walk_fault
helped w ws e = first_of (turn_fault top names start w) _ (first_of (walk_fault top names start (w ∷ ws)) _ e)

-- a line that does not fail names a subcommand
pub named : (rest : List Text) → built_fault whole nothing_held rest ≡ [] → (v : Verb) × (ws : List Text) × (rest ≡ name_of v ∷ ws)
named [] e = absurd (checked_none [] start refl refl e)
named (w ∷ ws) e = elim (first w) [
  | verb v is ↦ (v, ws, ap (λ x. x ∷ ws) is)
  | help is ↦ absurd (some_fault _ _ (sym (ap (turn_fault top names start) is ∙ help_turn) ∙ helped w ws e))
  | other none ↦ absurd (no_subcommand w ws none e)
]

-- ---- the laws of the command line

pub simple : is_simple program ≡ true
simple = refl

pub simple_and_free : is_simple_and_free program ≡ true
simple_and_free = refl

abbrev pub Found : List Text → Type 0
Found words = (p : Text) × (v : Verb) × (ws : List Text) × (g : Given) × (words ≡ p ∷ name_of v ∷ ws) × Gives v true nothing ws g × IsFull v g.words
    × (subcommand_of program words ≡ Some (name_of v, rows_after (rules v) [] ws)) × Holds v g (rows_after (rules v) [] ws)

pub line_sound : (words : List Text) → fault_of program words ≡ [] → Found words
line_sound [] e = absurd (checked_none [] start refl refl e)
line_sound (p ∷ rest) e =
    let is = named rest e in
    let here : built_fault whole nothing_held (name_of is.0 ∷ is.1) ≡ [] = ap (built_fault whole nothing_held) (sym is.2) ∙ e in
    let below = level_sound is.0 is.1 (whole_sound is.0 is.1 here) in (
      p,
      is.0,
      is.1,
      below.0,
      ap (λ xs. p ∷ xs) is.2,
      below.1,
      below.2,
      ap (λ xs. entered whole (stop_after top.rules names xs)) is.2 ∙ found_is is.0 is.1,
      below.3,
    )

pub full_from : (v : Verb) (g : Given) (q : Request) → Makes v g q → IsFull v g.words
full_from paths g q m = tt
full_from check g (requests.Check file when asked) m = subst (IsFull check) (sym m.0) tt
full_from check g q m = absurd m
full_from run g (requests.Run file script when) m = subst (IsFull run) (sym m.0) tt
full_from run g q m = absurd m
full_from audit g (requests.Audit file trace when) m = subst (IsFull audit) (sym m.0) tt
full_from attempt g (requests.Try file None when) m = subst (IsFull attempt) (sym m.0) tt
full_from attempt g (requests.Try file (Some name) when) m = subst (IsFull attempt) (sym m.0) tt
full_from audit g q m = absurd m
full_from attempt g q m = absurd m
full_from serve g (requests.Serve s) m = subst (IsFull serve) (sym m.1) tt
full_from serve g q m = absurd m
full_from keep g (requests.Keep k) m = subst (IsFull keep) (sym m.1) tt
full_from keep g q m = absurd m

pub line_completes : (words : List Text) (q : Request) → Asks words q → fault_of program words ≡ []
line_completes words q a = ap (fault_of program) a.are
    ∙ whole_completes a.verb a.rest (level_completes a.verb a.rest a.given a.gives (full_from a.verb a.given q a.makes))

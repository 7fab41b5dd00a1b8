-- The arguments of each subcommand, as the parser has them once it is built.
use Rattle.std.proofs.Common.{◌≡◌, ◌∙◌, ◌++◌, ◌||◌, ◌==◌, ◌⊎◌, inl, inr, cond, Bool, true, false, ℕ, List, [], ◌∷◌, Option, Some, None, refl, bytes_eq, codes, arith, ◌<◌}
use Rattle.std.specs.Prelude.{⊤}
use Rattle.clap.specs.Walk.{Row, Rule, Text, arg_by_id, arg_by_index, arg_by_long, arg_by_short, next_position, with_values}
use Rattle.clap.specs.Simple.{App, Shape, filled, filled_from, help_rule, version_rule, help_shape, built, built_leaf, new_shape}
use Rattle.clap.specs.ValueTests.{accepts}
use Rattle.clap.specs.Values.{reading_of}
use Rattle.clap.proofs.ValueTestLemmas.{accepts-Accepts, Accepts-accepts}
use Rattle.clap.specs.declared.builder.action.ArgAction.TheVariants.{Set}
use Rattle.clap.specs.declared.builder.value_parser.ValueParser.{ValueParser}
use Rattle.clap.specs.declared.builder.value_parser.ValueParser.TheVariants as parsers
use Rattle.clap.specs.declared.builder.value_parser.Reading.TheVariants.{AsWritten}
use Rattle.clap.specs.declared.parser.matches.ValueSource.TheVariants.{CommandLine}
use Rattle.command_line.specs.Forms.{Verb, paths, check, run, audit, attempt, serve, keep, name_of, Takes, IsNumber}
use Rattle.command_line.specs.Commands.{at_once_rule, flag_rule, own_rules, past_rule, program, sessions_rule, sync_rule, traces_rule}
use Rattle.command_line.proofs.Rows.{seen, row_with, seen_new, seen_other, more_other}

abbrev pub rules : Verb → List Rule
rules v = filled_from 1 (own_rules v ++ help_rule ∷ version_rule ∷ [])

abbrev pub leaf : Verb → Shape
leaf v = record (new_shape (name_of v)) { rules = rules v; is_built = true; disable_help_subcommand = true; has_version = true; propagate_version = true }

abbrev pub top : Shape
top = record (new_shape (codes "pathserve")) {
  rules = filled_from 1 (help_rule ∷ version_rule ∷ []);
  is_leaf = false;
  subcommand_required = true;
  is_built = true;
  has_version = true;
  propagate_version = true;
}

abbrev pub leaves : List Shape
leaves = leaf paths ∷ leaf check ∷ leaf run ∷ leaf audit ∷ leaf attempt ∷ leaf serve ∷ leaf keep ∷ built_leaf help_shape ∷ []

abbrev pub whole : App
whole = record { top = top; subs = leaves }

pub built_is : built program ≡ whole
built_is = refl

-- a word at place i, which has to be there or not
abbrev pub place_rule : ℕ → Text → ValueParser → Bool → Rule
place_rule i name parser must = record {
  id = name;
  long = None;
  aliases = [];
  short = None;
  short_aliases = [];
  index = Some i;
  action = Some Set;
  range = Some (record { start_inclusive = 1; end_inclusive = 1 });
  value_names = 0;
  defaults = [];
  missing = [];
  trailing_var_arg = false;
  parser = Some parser;
  ignore_case = false;
  required = must;
  is_simple = true;
  is_free = true;
}

abbrev pub flag : Text → Rule
flag name = filled (flag_rule name)

abbrev pub sessions_built : Rule
sessions_built = filled sessions_rule

abbrev pub at_once_built : Rule
at_once_built = filled at_once_rule

abbrev pub sync_built : Rule
sync_built = filled sync_rule

abbrev pub traces_built : Rule
traces_built = filled traces_rule

abbrev pub past_built : Rule
past_built = filled past_rule

abbrev pub help_built : Rule
help_built = filled help_rule

abbrev pub version_built : Rule
version_built = filled version_rule

-- the place of the next word
abbrev pub place_after : List Text → ℕ
place_after [] = 1
place_after (a ∷ []) = 2
place_after (a ∷ b ∷ []) = 3
place_after (a ∷ b ∷ c ∷ more) = 4

-- the names of the words of a subcommand
abbrev pub place_names : Verb → List Text
place_names paths = []
place_names check = codes "FILE" ∷ []
place_names run = codes "FILE" ∷ codes "SCRIPT" ∷ []
place_names audit = codes "FILE" ∷ codes "TRACE" ∷ []
place_names attempt = codes "FILE" ∷ codes "NAME" ∷ []
place_names serve = codes "FILE" ∷ codes "DIR" ∷ codes "PLACE" ∷ []
place_names keep = codes "FILE" ∷ codes "DIR" ∷ codes "PLACE" ∷ []

abbrev pub text_row : Text → Text → Row
text_row name word = row_with CommandLine name AsWritten (word ∷ [])

-- the words stand under these names, and under no name that is left
abbrev pub Places : List Text → List Text → List Row → Type 0
Places [] [] rows = ⊤
Places [] (w ∷ ws) rows = ⊥
Places (n ∷ ns) [] rows = (seen n rows ≡ None) × Places ns [] rows
Places (n ∷ ns) (w ∷ ws) rows = (seen n rows ≡ Some (text_row n w)) × Places ns ws rows

abbrev pub AreOthers : Text → List Text → Type 0
AreOthers x [] = ⊤
AreOthers x (n ∷ ns) = (bytes_eq x n ≡ false) × AreOthers x ns

pub places_more : (ns ws : List Text) (rows : List Row) (id : Text) (values : List Text) → AreOthers id ns → Places ns ws rows → Places ns ws (with_values id AsWritten CommandLine values rows)
places_more [] [] rows id values others h = h
places_more [] (w ∷ ws) rows id values others h = h
places_more (n ∷ ns) [] rows id values others h = (more_other id values n rows others.0 ∙ h.0, places_more ns [] rows id values others.1 h.1)
places_more (n ∷ ns) (w ∷ ws) rows id values others h = (more_other id values n rows others.0 ∙ h.0, places_more ns ws rows id values others.1 h.1)

pub places_kept : (ns ws : List Text) (rows : List Row) (r : Row) → AreOthers r.id ns → Places ns ws rows → Places ns ws (rows ++ r ∷ [])
places_kept [] [] rows r others h = h
places_kept [] (w ∷ ws) rows r others h = h
places_kept (n ∷ ns) [] rows r others h = (seen_other n r rows others.0 ∙ h.0, places_kept ns [] rows r others.1 h.1)
places_kept (n ∷ ns) (w ∷ ws) rows r others h = (seen_other n r rows others.0 ∙ h.0, places_kept ns ws rows r others.1 h.1)

-- what the parser knows of the place of the next word
pub record Place (v : Verb) (words : List Text) : Type 0 where
  pub name : Text
  pub parser : ValueParser
  pub must : Bool
  pub indexed : arg_by_index (rules v) (place_after words) ≡ Some (place_rule (place_after words) name parser must)
  pub by_id : arg_by_id (rules v) name ≡ Some (place_rule (place_after words) name parser must)
  pub next : (w : Text) → next_position (place_rule (place_after words) name parser must) (place_after words) ≡ place_after (words ++ w ∷ [])
  pub read : reading_of parser ≡ AsWritten
  pub takes : (w : Text) → Takes v words w → accepts false parser w ≡ true
  pub only : (w : Text) → accepts false parser w ≡ true → Takes v words w
  pub unseen : (rows : List Row) → Places (place_names v) words rows → seen name rows ≡ None
  pub adds : (w : Text) (rows : List Row) → Places (place_names v) words rows → Places (place_names v) (words ++ w ∷ []) (rows ++ text_row name w ∷ [])
  pub no_explain : bytes_eq name (codes "explain") ≡ false
  pub no_silence : bytes_eq name (codes "no-explain") ≡ false
  pub no_stop : bytes_eq name (codes "stop-with-input") ≡ false
  pub no_stuck : bytes_eq name (codes "stuck") ≡ false
  pub no_sessions : bytes_eq name (codes "sessions") ≡ false
  pub no_at_once : bytes_eq name (codes "at-once") ≡ false
  pub no_sync : bytes_eq name (codes "sync") ≡ false
  pub no_traces : bytes_eq name (codes "traces") ≡ false
  pub no_past : bytes_eq name (codes "past") ≡ false

-- numbers
pub number_passes : (low high : ℕ) (w : Text) → high < 18446744073709551616 → IsNumber low high w → accepts false (parsers.Unsigned low high) w ≡ true
number_passes low high w small is = Accepts-accepts false (parsers.Unsigned low high) w
    (is.digits, omega (arith, is.below, small), is.above, is.below)

pub passes_number : (low high : ℕ) (w : Text) → accepts false (parsers.Unsigned low high) w ≡ true → IsNumber low high w
passes_number low high w e =
    let got = accepts-Accepts false (parsers.Unsigned low high) w e in
    record { digits = got.0; above = got.2; below = got.3 }

abbrev new_row : (n w : Text) → bytes_eq n n ≡ true → (rows : List Row) → seen n rows ≡ None → seen n (rows ++ text_row n w ∷ []) ≡ Some (text_row n w)
new_row n w same rows none = seen_new n (text_row n w) rows same none

-- the place of the next word, or there is none
pub place : (v : Verb) (words : List Text) → Place v words ⊎ (arg_by_index (rules v) (place_after words) ≡ None)
place paths [] = inr refl
place paths (a ∷ []) = inr refl
place paths (a ∷ b ∷ []) = inr refl
place paths (a ∷ b ∷ c ∷ more) = inr refl
place check [] = inl (record {
  name = codes "FILE";
  parser = parsers.String;
  must = true;
  indexed = refl;
  by_id = refl;
  next = λ w. refl;
  read = refl;
  takes = λ w t. refl;
  only = λ w e. tt;
  unseen = λ rows h. h.0;
  adds = λ w rows h. (new_row (codes "FILE") w refl rows h.0, tt);
  no_explain = refl;
  no_silence = refl;
  no_stop = refl;
  no_stuck = refl;
  no_sessions = refl;
  no_at_once = refl;
  no_sync = refl;
  no_traces = refl;
  no_past = refl;
})
place check (a ∷ []) = inr refl
place check (a ∷ b ∷ []) = inr refl
place check (a ∷ b ∷ c ∷ more) = inr refl
place run [] = inl (record {
  name = codes "FILE";
  parser = parsers.String;
  must = true;
  indexed = refl;
  by_id = refl;
  next = λ w. refl;
  read = refl;
  takes = λ w t. refl;
  only = λ w e. tt;
  unseen = λ rows h. h.0;
  adds = λ w rows h. (new_row (codes "FILE") w refl rows h.0, (seen_other (codes "SCRIPT") (text_row (codes "FILE") w) rows refl ∙ h.1.0, tt));
  no_explain = refl;
  no_silence = refl;
  no_stop = refl;
  no_stuck = refl;
  no_sessions = refl;
  no_at_once = refl;
  no_sync = refl;
  no_traces = refl;
  no_past = refl;
})
place run (a ∷ []) = inl (record {
  name = codes "SCRIPT";
  parser = parsers.String;
  must = true;
  indexed = refl;
  by_id = refl;
  next = λ w. refl;
  read = refl;
  takes = λ w t. refl;
  only = λ w e. tt;
  unseen = λ rows h. h.1.0;
  adds = λ w rows h. (seen_other (codes "FILE") (text_row (codes "SCRIPT") w) rows refl ∙ h.0, (new_row (codes "SCRIPT") w refl rows h.1.0, tt));
  no_explain = refl;
  no_silence = refl;
  no_stop = refl;
  no_stuck = refl;
  no_sessions = refl;
  no_at_once = refl;
  no_sync = refl;
  no_traces = refl;
  no_past = refl;
})
place run (a ∷ b ∷ []) = inr refl
place run (a ∷ b ∷ c ∷ more) = inr refl
place audit [] = inl (record {
  name = codes "FILE";
  parser = parsers.String;
  must = true;
  indexed = refl;
  by_id = refl;
  next = λ w. refl;
  read = refl;
  takes = λ w t. refl;
  only = λ w e. tt;
  unseen = λ rows h. h.0;
  adds = λ w rows h. (new_row (codes "FILE") w refl rows h.0, (seen_other (codes "TRACE") (text_row (codes "FILE") w) rows refl ∙ h.1.0, tt));
  no_explain = refl;
  no_silence = refl;
  no_stop = refl;
  no_stuck = refl;
  no_sessions = refl;
  no_at_once = refl;
  no_sync = refl;
  no_traces = refl;
  no_past = refl;
})
place audit (a ∷ []) = inl (record {
  name = codes "TRACE";
  parser = parsers.String;
  must = true;
  indexed = refl;
  by_id = refl;
  next = λ w. refl;
  read = refl;
  takes = λ w t. refl;
  only = λ w e. tt;
  unseen = λ rows h. h.1.0;
  adds = λ w rows h. (seen_other (codes "FILE") (text_row (codes "TRACE") w) rows refl ∙ h.0, (new_row (codes "TRACE") w refl rows h.1.0, tt));
  no_explain = refl;
  no_silence = refl;
  no_stop = refl;
  no_stuck = refl;
  no_sessions = refl;
  no_at_once = refl;
  no_sync = refl;
  no_traces = refl;
  no_past = refl;
})
place audit (a ∷ b ∷ []) = inr refl
place audit (a ∷ b ∷ c ∷ more) = inr refl
place attempt [] = inl (record {
  name = codes "FILE";
  parser = parsers.String;
  must = true;
  indexed = refl;
  by_id = refl;
  next = λ w. refl;
  read = refl;
  takes = λ w t. refl;
  only = λ w e. tt;
  unseen = λ rows h. h.0;
  adds = λ w rows h. (new_row (codes "FILE") w refl rows h.0, (seen_other (codes "NAME") (text_row (codes "FILE") w) rows refl ∙ h.1.0, tt));
  no_explain = refl;
  no_silence = refl;
  no_stop = refl;
  no_stuck = refl;
  no_sessions = refl;
  no_at_once = refl;
  no_sync = refl;
  no_traces = refl;
  no_past = refl;
})
place attempt (a ∷ []) = inl (record {
  name = codes "NAME";
  parser = parsers.String;
  must = false;
  indexed = refl;
  by_id = refl;
  next = λ w. refl;
  read = refl;
  takes = λ w t. refl;
  only = λ w e. tt;
  unseen = λ rows h. h.1.0;
  adds = λ w rows h. (seen_other (codes "FILE") (text_row (codes "NAME") w) rows refl ∙ h.0, (new_row (codes "NAME") w refl rows h.1.0, tt));
  no_explain = refl;
  no_silence = refl;
  no_stop = refl;
  no_stuck = refl;
  no_sessions = refl;
  no_at_once = refl;
  no_sync = refl;
  no_traces = refl;
  no_past = refl;
})
place attempt (a ∷ b ∷ []) = inr refl
place attempt (a ∷ b ∷ c ∷ more) = inr refl
place serve [] = inl (record {
  name = codes "FILE";
  parser = parsers.String;
  must = true;
  indexed = refl;
  by_id = refl;
  next = λ w. refl;
  read = refl;
  takes = λ w t. refl;
  only = λ w e. tt;
  unseen = λ rows h. h.0;
  adds = λ w rows h. (new_row (codes "FILE") w refl rows h.0, (seen_other (codes "DIR") (text_row (codes "FILE") w) rows refl ∙ h.1.0, (seen_other (codes "PLACE") (text_row (codes "FILE") w) rows refl ∙ h.1.1.0, tt)));
  no_explain = refl;
  no_silence = refl;
  no_stop = refl;
  no_stuck = refl;
  no_sessions = refl;
  no_at_once = refl;
  no_sync = refl;
  no_traces = refl;
  no_past = refl;
})
place serve (a ∷ []) = inl (record {
  name = codes "DIR";
  parser = parsers.String;
  must = true;
  indexed = refl;
  by_id = refl;
  next = λ w. refl;
  read = refl;
  takes = λ w t. refl;
  only = λ w e. tt;
  unseen = λ rows h. h.1.0;
  adds = λ w rows h. (seen_other (codes "FILE") (text_row (codes "DIR") w) rows refl ∙ h.0, (new_row (codes "DIR") w refl rows h.1.0, (seen_other (codes "PLACE") (text_row (codes "DIR") w) rows refl ∙ h.1.1.0, tt)));
  no_explain = refl;
  no_silence = refl;
  no_stop = refl;
  no_stuck = refl;
  no_sessions = refl;
  no_at_once = refl;
  no_sync = refl;
  no_traces = refl;
  no_past = refl;
})
place serve (a ∷ b ∷ []) = inl (record {
  name = codes "PLACE";
  parser = parsers.String;
  must = true;
  indexed = refl;
  by_id = refl;
  next = λ w. refl;
  read = refl;
  takes = λ w t. refl;
  only = λ w e. tt;
  unseen = λ rows h. h.1.1.0;
  adds = λ w rows h. (seen_other (codes "FILE") (text_row (codes "PLACE") w) rows refl ∙ h.0, (seen_other (codes "DIR") (text_row (codes "PLACE") w) rows refl ∙ h.1.0, (new_row (codes "PLACE") w refl rows h.1.1.0, tt)));
  no_explain = refl;
  no_silence = refl;
  no_stop = refl;
  no_stuck = refl;
  no_sessions = refl;
  no_at_once = refl;
  no_sync = refl;
  no_traces = refl;
  no_past = refl;
})
place serve (a ∷ b ∷ c ∷ more) = inr refl
place keep [] = inl (record {
  name = codes "FILE";
  parser = parsers.String;
  must = true;
  indexed = refl;
  by_id = refl;
  next = λ w. refl;
  read = refl;
  takes = λ w t. refl;
  only = λ w e. tt;
  unseen = λ rows h. h.0;
  adds = λ w rows h. (new_row (codes "FILE") w refl rows h.0, (seen_other (codes "DIR") (text_row (codes "FILE") w) rows refl ∙ h.1.0, (seen_other (codes "PLACE") (text_row (codes "FILE") w) rows refl ∙ h.1.1.0, tt)));
  no_explain = refl;
  no_silence = refl;
  no_stop = refl;
  no_stuck = refl;
  no_sessions = refl;
  no_at_once = refl;
  no_sync = refl;
  no_traces = refl;
  no_past = refl;
})
place keep (a ∷ []) = inl (record {
  name = codes "DIR";
  parser = parsers.String;
  must = true;
  indexed = refl;
  by_id = refl;
  next = λ w. refl;
  read = refl;
  takes = λ w t. refl;
  only = λ w e. tt;
  unseen = λ rows h. h.1.0;
  adds = λ w rows h. (seen_other (codes "FILE") (text_row (codes "DIR") w) rows refl ∙ h.0, (new_row (codes "DIR") w refl rows h.1.0, (seen_other (codes "PLACE") (text_row (codes "DIR") w) rows refl ∙ h.1.1.0, tt)));
  no_explain = refl;
  no_silence = refl;
  no_stop = refl;
  no_stuck = refl;
  no_sessions = refl;
  no_at_once = refl;
  no_sync = refl;
  no_traces = refl;
  no_past = refl;
})
place keep (a ∷ b ∷ []) = inl (record {
  name = codes "PLACE";
  parser = parsers.String;
  must = true;
  indexed = refl;
  by_id = refl;
  next = λ w. refl;
  read = refl;
  takes = λ w t. refl;
  only = λ w e. tt;
  unseen = λ rows h. h.1.1.0;
  adds = λ w rows h. (seen_other (codes "FILE") (text_row (codes "PLACE") w) rows refl ∙ h.0, (seen_other (codes "DIR") (text_row (codes "PLACE") w) rows refl ∙ h.1.0, (new_row (codes "PLACE") w refl rows h.1.1.0, tt)));
  no_explain = refl;
  no_silence = refl;
  no_stop = refl;
  no_stuck = refl;
  no_sessions = refl;
  no_at_once = refl;
  no_sync = refl;
  no_traces = refl;
  no_past = refl;
})
place keep (a ∷ b ∷ c ∷ more) = inr refl

-- ---- long names

-- what is shown, by which name it is asked for
abbrev pub shown_rule : Bool → Bool → Option Rule
shown_rule help version = cond (help || false) (Some help_built) (cond (version || false) (Some version_built) None)

abbrev pub explain_rule : Bool → Bool → Option Rule → Option Rule
explain_rule explain silence more =
    cond (explain || false) (Some (flag (codes "explain"))) (cond (silence || false) (Some (flag (codes "no-explain"))) more)

-- the argument of a long name, by which name it is
abbrev pub stop_rule : Bool → Option Rule → Option Rule
stop_rule stop more = cond (stop || false) (Some (flag (codes "stop-with-input"))) more

abbrev pub stuck_rule : Bool → Option Rule → Option Rule
stuck_rule stuck more = cond (stuck || false) (Some (flag (codes "stuck"))) more

abbrev pub long_rule : Verb → Bool → Bool → Bool → Bool → Bool → Bool → Bool → Bool → Bool → Option Rule → Option Rule
long_rule paths explain silence stop stuck sessions at_once sync traces past more = more
long_rule serve explain silence stop stuck sessions at_once sync traces past more =
    cond (sessions || false) (Some sessions_built) (stop_rule stop (explain_rule explain silence more))
long_rule keep explain silence stop stuck sessions at_once sync traces past more =
    cond (at_once || false) (Some at_once_built) (cond (sync || false) (Some sync_built) (cond (traces || false) (Some traces_built) (cond (past || false) (Some past_built)
    (stop_rule stop (explain_rule explain silence more)))))
long_rule check explain silence stop stuck sessions at_once sync traces past more = stuck_rule stuck (explain_rule explain silence more)
long_rule run explain silence stop stuck sessions at_once sync traces past more = explain_rule explain silence more
long_rule audit explain silence stop stuck sessions at_once sync traces past more = explain_rule explain silence more
long_rule attempt explain silence stop stuck sessions at_once sync traces past more = explain_rule explain silence more

abbrev pub shown_by : Text → Option Rule
shown_by name = shown_rule (bytes_eq (codes "help") name) (bytes_eq (codes "version") name)

abbrev pub shown_short : ℕ → Option Rule
shown_short x = shown_rule (104 == x) (86 == x)

pub long_is : (v : Verb) (name : Text) → arg_by_long (rules v) name
    ≡ long_rule v (bytes_eq (codes "explain") name) (bytes_eq (codes "no-explain") name) (bytes_eq (codes "stop-with-input") name) (bytes_eq (codes "stuck") name) (bytes_eq (codes "sessions") name)
    (bytes_eq (codes "at-once") name) (bytes_eq (codes "sync") name) (bytes_eq (codes "traces") name) (bytes_eq (codes "past") name) (shown_by name)
long_is paths name = refl
long_is check name = refl
long_is run name = refl
long_is audit name = refl
long_is attempt name = refl
long_is serve name = refl
long_is keep name = refl

pub short_is : (v : Verb) (x : ℕ) → arg_by_short (rules v) x ≡ shown_short x
short_is paths x = refl
short_is check x = refl
short_is run x = refl
short_is audit x = refl
short_is attempt x = refl
short_is serve x = refl
short_is keep x = refl

-- What the parser knows of the program: its subcommands with their arguments, and what it finds in words.
use Rattle.std.specs.Prelude.{◌≡◌, ⊤, true, List, [], ◌∷◌, Some, codes, unwrap_or}
use Rattle.clap.specs.Walk.{Row, Rule, all_of, first_of, one_of}
use Rattle.clap.specs.Faults.{fault_of}
use Rattle.clap.specs.Kinds.{Kinds, or_else}
use Rattle.clap.specs.Values.{bool_text}
use Rattle.clap.specs.Simple.{App, new_app, new_rule, on_top, subcommand_rows_of, with_rule, with_subcommand}
use Rattle.clap.specs.declared.builder.action.ArgAction.TheVariants.{Append, SetTrue}
use Rattle.clap.specs.declared.builder.value_parser.ValueParser.TheVariants as parsers
use Rattle.clap.specs.declared.error.kind.ErrorKind.TheVariants as kinds
use Rattle.clap.specs.declared.parser.matches.ArgMatches.{ArgMatches}
use Rattle.command_line.specs.Forms.{Text, Verb, paths, check, run, audit, attempt, serve, keep, name_of, Given, IsNumber}
use Rattle.command_line.specs.Forms.{AreTried, number_of, sessions_of, at_once_of, sync_of, traces_of}

-- a word that has to be there
abbrev pub required_rule : Text → Rule
required_rule name = record (new_rule name) { required = true }

-- a word that may be there
abbrev pub optional_rule : Text → Rule
optional_rule name = new_rule name

abbrev pub flag_rule : Text → Rule
flag_rule name = record (new_rule name) { long = Some name; action = Some SetTrue }

abbrev pub sessions_rule : Rule
sessions_rule = record (new_rule (codes "sessions")) {
  long = Some (codes "sessions");
  value_names = 1;
  defaults = codes "16" ∷ [];
  parser = Some (parsers.Unsigned 1 64);
}

abbrev pub at_once_rule : Rule
at_once_rule = record (new_rule (codes "at-once")) {
  long = Some (codes "at-once");
  value_names = 1;
  defaults = codes "1000" ∷ [];
  parser = Some (parsers.Unsigned 1 10000);
}

-- a word that the program itself looks at, as PLACE
abbrev pub sync_rule : Rule
sync_rule = record (new_rule (codes "sync")) {
  long = Some (codes "sync");
  value_names = 1;
  defaults = codes "always" ∷ [];
}

abbrev pub traces_rule : Rule
traces_rule = record (new_rule (codes "traces")) {
  long = Some (codes "traces");
  value_names = 1;
  defaults = codes "300" ∷ [];
  parser = Some (parsers.Unsigned 1 1000000);
}

-- an option that may come again and again, whose words the program itself looks at
abbrev pub past_rule : Rule
past_rule = record (new_rule (codes "past")) {
  long = Some (codes "past");
  value_names = 1;
  action = Some Append;
}

-- whether a refusal is explained
abbrev pub explain_rules : List Rule
explain_rules = flag_rule (codes "explain") ∷ flag_rule (codes "no-explain") ∷ []

-- the arguments of a subcommand
abbrev pub own_rules : Verb → List Rule
own_rules paths = []
own_rules check = required_rule (codes "FILE") ∷ flag_rule (codes "stuck") ∷ explain_rules
own_rules run = required_rule (codes "FILE") ∷ required_rule (codes "SCRIPT") ∷ explain_rules
own_rules audit = required_rule (codes "FILE") ∷ required_rule (codes "TRACE") ∷ explain_rules
own_rules attempt = required_rule (codes "FILE") ∷ optional_rule (codes "NAME") ∷ explain_rules
own_rules serve =
    required_rule (codes "FILE") ∷ required_rule (codes "DIR") ∷ required_rule (codes "PLACE") ∷ sessions_rule
    ∷ flag_rule (codes "stop-with-input") ∷ explain_rules
own_rules keep =
    required_rule (codes "FILE") ∷ required_rule (codes "DIR") ∷ required_rule (codes "PLACE") ∷ at_once_rule
    ∷ sync_rule ∷ traces_rule ∷ past_rule ∷ flag_rule (codes "stop-with-input") ∷ explain_rules

abbrev pub with_rules : App → List Rule → App
with_rules a [] = a
with_rules a (r ∷ rs) = with_rules (with_rule a r) rs

abbrev pub app_for : Verb → App
app_for v = with_rules (new_app (name_of v)) (own_rules v)

-- the program without its subcommands
abbrev pub program_top : App
program_top =
    on_top (λ s. record s { subcommand_required = true; has_version = true; propagate_version = true })
    (new_app (codes "pathserve"))

abbrev pub program : App
program = with_subcommand (with_subcommand (with_subcommand (with_subcommand (with_subcommand (with_subcommand (with_subcommand
    program_top
    (app_for paths).top) (app_for check).top) (app_for run).top) (app_for audit).top) (app_for attempt).top)
    (app_for serve).top)
    (app_for keep).top

-- the flags about explanations, as what is found has them
abbrev pub HoldsExplain : Given → List Row → Type 0
HoldsExplain g rows =
    (one_of (codes "explain") rows ≡ Some (bool_text g.explains))
    × (one_of (codes "no-explain") rows ≡ Some (bool_text g.silent))

-- the option `--traces`, as what is found has it
abbrev pub HoldsTraces : Given → List Row → Type 0
HoldsTraces g rows = (traces : Text) × (one_of (codes "traces") rows ≡ Some traces) × IsNumber 1 1000000 traces
    × (traces_of g.traces ≡ number_of traces)

-- the values of `--past` that are found, in order
abbrev pub past_in : List Row → List Text
past_in rows = unwrap_or (all_of (codes "past") rows) []

-- what is found holds what a subcommand was given, each word under its name
abbrev pub Holds : Verb → Given → List Row → Type 0
Holds paths g rows = ⊤
Holds check g rows = (file : Text) × (g.words ≡ file ∷ []) × (first_of (codes "FILE") rows ≡ Some file)
    × (one_of (codes "stuck") rows ≡ Some (bool_text g.stuck)) × HoldsExplain g rows
Holds run g rows = (file script : Text) × (g.words ≡ file ∷ script ∷ []) × (first_of (codes "FILE") rows ≡ Some file)
    × (first_of (codes "SCRIPT") rows ≡ Some script) × HoldsExplain g rows
Holds audit g rows = (file trace : Text) × (g.words ≡ file ∷ trace ∷ []) × (first_of (codes "FILE") rows ≡ Some file)
    × (first_of (codes "TRACE") rows ≡ Some trace) × HoldsExplain g rows
Holds attempt g rows = (file : Text) × (first_of (codes "FILE") rows ≡ Some file)
    × AreTried g.words file (first_of (codes "NAME") rows) × HoldsExplain g rows
Holds serve g rows =
    (file folder place sessions : Text) × (g.words ≡ file ∷ folder ∷ place ∷ [])
    × (first_of (codes "FILE") rows ≡ Some file)
    × (first_of (codes "DIR") rows ≡ Some folder) × (first_of (codes "PLACE") rows ≡ Some place)
    × (one_of (codes "sessions") rows ≡ Some sessions) × IsNumber 1 64 sessions
    × (sessions_of g.sessions ≡ number_of sessions)
    × (one_of (codes "stop-with-input") rows ≡ Some (bool_text g.stops)) × HoldsExplain g rows
Holds keep g rows =
    (file folder place at_once sync : Text) × (g.words ≡ file ∷ folder ∷ place ∷ [])
    × (first_of (codes "FILE") rows ≡ Some file)
    × (first_of (codes "DIR") rows ≡ Some folder) × (first_of (codes "PLACE") rows ≡ Some place)
    × (one_of (codes "at-once") rows ≡ Some at_once) × IsNumber 1 10000 at_once
    × (at_once_of g.at_once ≡ number_of at_once)
    × (first_of (codes "sync") rows ≡ Some sync) × (sync_of g.sync ≡ sync)
    × (one_of (codes "stop-with-input") rows ≡ Some (bool_text g.stops)) × HoldsTraces g rows
    × (past_in rows ≡ g.past) × HoldsExplain g rows

-- the matches are those of a subcommand that was given this
abbrev pub IsMatched : Verb → Given → ArgMatches → Type 0
IsMatched v g m = (rows : List Row) × (subcommand_rows_of m ≡ Some (name_of v, rows)) × Holds v g rows

-- the kinds of error that words may give: those of the parser, and where it takes them that of a PLACE, or of a word
-- behind `--sync`, that is none
abbrev pub faults : List Text → Kinds
faults words = or_else (fault_of program words) (kinds.ValueValidation ∷ [])

-- What a parse of a command line gives, and when it fails.
use Rattle.std.proofs.Common.{◌≡◌, ◌∙◌, inl, inr, true, List, [], ◌∷◌, Result, Ok, Err, ap, subst, sym}
use Rattle.std.specs.Prelude.{IfErr, IsErrAnd}
use Rattle.clap.specs.Kinds.{HasKind, IsAmong, Kinds, or_else}
use Rattle.clap.specs.Faults.{fault_of, is_simple_and_free}
use Rattle.clap.specs.Simple.{HasMatchesOf, app_of, subcommand_of}
use Rattle.clap.specs.declared.builder.command.Command.{Command}
use Rattle.clap.specs.Walk.{rows_after}
use Rattle.clap.specs.Values.{kind_of}
use Rattle.clap.specs.declared.error.Error.{Error}
use Rattle.clap.specs.declared.error.kind.ErrorKind.TheVariants.{OutOfMemory}
use Rattle.clap.specs.declared.parser.matches.ArgMatches.{ArgMatches}
use Rattle.command_line.specs.declared.request.Request.{Request}
use Rattle.command_line.specs.Forms.{Text, Verb, Given, Makes, Asks}
use Rattle.command_line.specs.Commands.{IsMatched, program}
use Rattle.command_line.proofs.Levels.{rules}
use Rattle.command_line.proofs.Once.{finds}
use Rattle.command_line.proofs.Whole.{Found, found_is, full_from, level_holds, line_completes, line_sound, simple, simple_and_free}

-- what matches say that words ask for
pub record Asked (words : List Text) (m : ArgMatches) : Type 0 where
  pub verb : Verb
  pub given : Given
  pub matched : IsMatched verb given m
  pub asks : (q : Request) → Makes verb given q → Asks words q

asked_from : (words : List Text) (m : ArgMatches) → Found words → HasMatchesOf program words m → Asked words m
asked_from words m f has = record {
  verb = f.1;
  given = f.3;
  matched = (rows_after (rules f.1) [] f.2, (has simple).1 ∙ f.7, f.8);
  asks = λ q makes. record { program = f.0; verb = f.1; rest = f.2; given = f.3; are = f.4; gives = f.5; makes = makes };
}

-- of a command that is that of the program
module _ (words : List Text) (command : Command) (is : app_of command ≡ program) where
  pub none_of : (is_simple_and_free (app_of command) ≡ true → fault_of (app_of command) words ≡ []) → fault_of program words ≡ []
  none_of kinds = subst (λ a. fault_of a words ≡ []) is (kinds (ap is_simple_and_free is ∙ simple_and_free))

  pub has_of : (m : ArgMatches) → HasMatchesOf (app_of command) words m → HasMatchesOf program words m
  has_of m has = subst (λ a. HasMatchesOf a words m) is has

  -- the kinds of an error of the parser are those of the words
  pub kinds_of : (e : Error) → (is_simple_and_free (app_of command) ≡ true → HasKind (fault_of (app_of command) words) e) → HasKind (fault_of program words) e
  kinds_of e kinds = subst (λ a. HasKind (fault_of a words) e) is (kinds (ap is_simple_and_free is ∙ simple_and_free))

module _ (words : List Text) where
  pub asked : (m : ArgMatches) → fault_of program words ≡ [] → HasMatchesOf program words m → Asked words m
  asked m none has = asked_from words m (line_sound words none) has

  -- the matches are those of the words that ask for something
  pub matched_by : (m : ArgMatches) (q : Request) → HasMatchesOf program words m → Asks words q → (v : Verb) × (g : Given) × IsMatched v g m × Makes v g q
  matched_by m q has asks =
      let f = finds words q asks in
      (f.verb, f.given, (f.rows, (has simple).1 ∙ f.found, f.holds), f.makes)

  -- the matches are those of what the words ask for
  pub asks_matched : (m : ArgMatches) (q : Request) → HasMatchesOf program words m → (a : Asks words q) → IsMatched a.verb a.given m
  asks_matched m q has a = (
    rows_after (rules a.verb) [] a.rest,
    (has simple).1 ∙ (ap (subcommand_of program) a.are ∙ found_is a.verb a.rest),
    level_holds a.verb a.rest a.given a.gives (full_from a.verb a.given q a.makes),
  )

  pub refused : (e : Error) (q : Request) → HasKind (fault_of program words) e → Asks words q → kind_of e ≡ OutOfMemory
  refused e q (inl memory) asks = memory
  refused e q (inr among) asks = absurd (subst (λ ks. IsAmong (kind_of e) ks) (line_completes words q asks) among)

-- what holds of an error in turn
pub if_err_then : {T E : Type 0} (r : Result T E) (P Q : E → Type 0) → ((e : E) → P e → Q e) → IfErr r P → IfErr r Q
if_err_then (Ok x) P Q then_holds h = h
if_err_then (Err e) P Q then_holds h = then_holds e h

-- what is among the first kinds is among them, or else among others
pub first_kinds : (ks more : Kinds) (e : Error) → HasKind ks e → HasKind (or_else ks more) e
first_kinds [] more e (inl memory) = inl memory
first_kinds [] more e (inr among) = absurd among
first_kinds (k ∷ ks) more e has = has

pub other_kinds : (ks more : Kinds) (e : Error) → ks ≡ [] → HasKind more e → HasKind (or_else ks more) e
other_kinds ks more e none has = subst (λ x. HasKind (or_else x more) e) (sym none) has

-- `?` passes an error up as it is
pub passed_and : {T : Type 0} (r : Result T Error) (e : Error) (P : Error → Type 0) → IsErrAnd r (λ y. y ≡ e) → P e → IsErrAnd r P
passed_and (Ok x) e P is p = absurd is
passed_and (Err y) e P is p = subst P (sym is) p

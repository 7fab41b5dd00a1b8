-- What is read of matches that hold what a subcommand was given.
use Rattle.std.proofs.Common.{◌≡◌, ◌∙◌, ◌<◌, ◌^◌, cond, Bool, true, false, ℕ, List, [], ◌∷◌, Option, Some, None, Result, Ok, Err, refl, sym, ap, subst, bytes_eq, codes, arith, option_map, Box}
use Rattle.std.specs.Prelude.{unwrap_or}
use Rattle.std.specs.Box.{box_value}
use Rattle.std.specs.List.{slice_index_or}
use Rattle.std.specs.Str.Parse.{ParsesUnsigned}
use Rattle.clap.specs.Walk.{Row, Text, first_of, one_of, rows_of}
use Rattle.clap.specs.Matches.{ReadsOne, first_value, one_text, subcommand_name_of}
use Rattle.clap.specs.Simple.{subcommand_rows}
use Rattle.clap.specs.Values.{bool_text}
use Rattle.clap.specs.declared.parser.matches.ArgMatches.{ArgMatches}
use Rattle.clap.specs.declared.parser.matches.ArgMatches.TheViews.{out-ArgMatches, out-SubCommand}
use Rattle.clap.specs.declared.parser.matches.SubCommand.{SubCommand}
use Rattle.clap.specs.declared.parser.matches.Found.{Found}
use Rattle.clap.proofs.WalkLemmas.{first_value-rows, one_text-rows}
use Rattle.command_line.specs.declared.request.Address.{Address}
use Rattle.command_line.specs.Forms.{Verb, paths, check, run, audit, attempt, serve, keep, name_of, Given, Makes, IsAddressOf, IsSyncOf, IsNumber, number_of, sync_of}
use Rattle.command_line.specs.declared.request.Sync.{Sync}
use Rattle.command_line.specs.declared.request.Request.{Request}
use Rattle.command_line.specs.declared.request.Request.TheVariants as requests
use Rattle.command_line.specs.Commands.{Holds, IsMatched}

pub some_same : {X : Type 0} (x y : X) → Some x ≡ Some y → x ≡ y
some_same x y e = ap (λ o. unwrap_or o x) e

-- the text of a word
pub text_is : (f : Found) (id t u : Text) → first_of id (rows_of f) ≡ Some t → first_value f id ≡ Some u → t ≡ u
text_is f id t u e read = some_same t u (sym (first_value-rows f id ∙ e) ∙ read)

pub has_text : (f : Found) (id t : Text) → first_of id (rows_of f) ≡ Some t → first_value f id ≡ Some t
has_text f id t e = first_value-rows f id ∙ e

pub has_one : (f : Found) (id t : Text) → one_of id (rows_of f) ≡ Some t → one_text f id ≡ Some t
has_one f id t e = one_text-rows f id ∙ e

-- the third of three words
pub third_is : (a b c x y z : Text) → a ∷ b ∷ c ∷ [] ≡ x ∷ y ∷ z ∷ [] → c ≡ z
third_is a b c x y z e = ap (λ (ws : List Text). slice_index_or ws 2 []) e

-- the third word of what `serve` asks for is an address
pub address_made : (g : Given) (q : Request) (a b p : Text) → g.words ≡ a ∷ b ∷ p ∷ [] → Makes serve g q → (address : Address) × IsAddressOf p address
address_made g (requests.Serve s) a b p e m = (s.address, subst (λ w. IsAddressOf w s.address) (third_is s.file.now s.folder.now m.0 a b p (sym m.1 ∙ e)) m.2)
address_made g q a b p e m = absurd m

-- the third word of what `keep` asks for is an address, and what is said of lines on the disk is said by a word
pub keep_made : (g : Given) (q : Request) (a b p : Text) → g.words ≡ a ∷ b ∷ p ∷ [] → Makes keep g q
    → (address : Address) × IsAddressOf p address × (sync : Sync) × IsSyncOf (sync_of g.sync) sync
keep_made g (requests.Keep k) a b p e m = (k.address, subst (λ w. IsAddressOf w k.address) (third_is k.file.now k.folder.now m.0 a b p (sym m.1 ∙ e)) m.2, k.sync, m.4)
keep_made g q a b p e m = absurd m

-- whether a flag is there
pub flag_is : (f : Found) (id : Text) (b r : Bool) → one_of id (rows_of f) ≡ Some (bool_text b)
    → (one_text f id ≡ Some (codes "true") → r ≡ true) → (one_text f id ≡ Some (codes "false") → r ≡ false) → b ≡ r
flag_is f id true r e yes_is no_is = sym (yes_is (one_text-rows f id ∙ e))
flag_is f id false r e yes_is no_is = sym (no_is (one_text-rows f id ∙ e))

-- a number that is in its range is read
pub number_read : {E : Type 0} (G : Text → Result ℕ E → Type 0) (k low high : ℕ) (t : Text) (r : Option ℕ) → ReadsOne G t r
    → ((u : Text) (x : Result ℕ E) → G u x → ParsesUnsigned k 10 u x) → high < 2 ^ k → IsNumber low high t → r ≡ Some (number_of t)
number_read G k low high t (Some n) reads parses small is = ap (λ x. Some x) (parses t (Ok n) reads).1
number_read G k low high t None reads parses small is = absurd (parses t (Err reads.0) reads.1 (is.digits, omega (arith, is.below, small)))

-- ---- the subcommand

verb_in : Text → Option Verb
verb_in t = cond (bytes_eq t (codes "paths")) (Some paths) (cond (bytes_eq t (codes "check")) (Some check) (cond (bytes_eq t (codes "run")) (Some run)
    (cond (bytes_eq t (codes "audit")) (Some audit) (cond (bytes_eq t (codes "try")) (Some attempt) (cond (bytes_eq t (codes "serve")) (Some serve)
    (cond (bytes_eq t (codes "keep")) (Some keep) None))))))

verb_named : (v : Verb) → verb_in (name_of v) ≡ Some v
unfolding verb_in
verb_named paths = refl
verb_named check = refl
verb_named run = refl
verb_named audit = refl
verb_named attempt = refl
verb_named serve = refl
verb_named keep = refl

pub same_verb : (v u : Verb) → name_of v ≡ name_of u → v ≡ u
same_verb v u e = some_same v u (sym (verb_named v) ∙ ap verb_in e ∙ verb_named u)

-- the name of the subcommand, of its rows
name_in : {Z : Type 0} (s : Option (Box SubCommand Z)) → option_map (λ (p : Text × List Row). p.0) (subcommand_rows s) ≡ option_map (λ b. (out-SubCommand (box_value b)).name.now) s
name_in None = refl
name_in (Some b) = refl

pub matched_name : (m : ArgMatches) (v : Verb) (g : Given) → IsMatched v g m → subcommand_name_of m ≡ Some (name_of v)
matched_name m v g is = sym (name_in (out-ArgMatches m).subcommand) ∙ ap (option_map (λ (p : Text × List Row). p.0)) is.1

-- the subcommand of this name is the one that is matched, with what it holds
pub matched_is : (m : ArgMatches) (v u : Verb) (g : Given) (rows : List Row) → IsMatched v g m → subcommand_name_of m ≡ Some (name_of u)
    → option_map (λ p. p.1) (subcommand_rows (out-ArgMatches m).subcommand) ≡ Some rows → (v ≡ u) × Holds v g rows
matched_is m v u g rows is named has =
    let names : Some (name_of v) ≡ Some (name_of u) = sym (matched_name m v g is) ∙ named in
    let same_rows : Some is.0 ≡ Some rows = sym (ap (option_map (λ (p : Text × List Row). p.1)) is.1) ∙ has in
    (same_verb v u (some_same (name_of v) (name_of u) names), subst (Holds v g) (some_same is.0 rows same_rows) is.2)

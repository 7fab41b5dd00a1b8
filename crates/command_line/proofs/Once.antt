-- Words ask for one thing at most.
use Rattle.std.proofs.Common.{◌≡◌, ◌∙◌, arith, Bool, true, false, ℕ, List, [], ◌∷◌, Option, Some, None, option_map, refl, sym, ap, ap₂, subst, codes, bytes_eq}
use Rattle.std.specs.List.{slice_index_or}
use Rattle.clap.specs.Walk.{Row, Text, first_of, one_of, rows_after}
use Rattle.clap.specs.Simple.{subcommand_of}
use Rattle.clap.specs.Values.{bool_text}
use Rattle.command_line.specs.declared.request.Request.{Request}
use Rattle.command_line.specs.declared.request.Request.TheVariants as requests
use Rattle.command_line.specs.declared.request.Address.{Address}
use Rattle.command_line.specs.declared.request.Address.TheVariants as addresses
use Rattle.command_line.specs.declared.request.Sync.{Sync}
use Rattle.command_line.specs.declared.request.Sync.TheVariants as syncs
use Rattle.command_line.specs.Forms.{Verb, paths, check, run, audit, attempt, serve, keep, name_of, Given, IsNumber, number_of, explain_of, has_slash, IsAddressOf, IsSyncOf, AreTried, Makes, Asks}
use Rattle.command_line.specs.Commands.{Holds, HoldsExplain, program}
use Rattle.command_line.specs.Laws.{IsSame, IsSameAddress, AsksOnce}
use Rattle.command_line.proofs.Found.{same_verb, some_same}
use Rattle.command_line.proofs.Levels.{rules}
use Rattle.command_line.proofs.Whole.{level_holds, full_from, found_is}

module _ (rows : List Row) where
  same_first : (id a b : Text) → first_of id rows ≡ Some a → first_of id rows ≡ Some b → a ≡ b
  same_first id a b e f = some_same a b (sym e ∙ f)

  same_one : (id a b : Text) → one_of id rows ≡ Some a → one_of id rows ≡ Some b → a ≡ b
  same_one id a b e f = some_same a b (sym e ∙ f)

bools : (b c : Bool) → bool_text b ≡ bool_text c → b ≡ c
bools true true e = refl
bools false false e = refl
bools true false e = ap (λ t. bytes_eq t (codes "true")) e
bools false true e = ap (λ t. bytes_eq t (codes "true")) e

not_both : false ≡ true → ⊥
not_both e = cc

abbrev word_at : ℕ → List Text → Text
word_at k ws = slice_index_or ws k []

-- the same word of two lists that end alike
same_at : (k : ℕ) (ws us vs xs : List Text) → ws ≡ us → vs ≡ xs → word_at k us ≡ word_at k xs → word_at k ws ≡ word_at k vs
same_at k ws us vs xs e f same = ap (word_at k) e ∙ same ∙ sym (ap (word_at k) f)

-- what is said of explanations
same_explain : (g h : Given) (rows : List Row) → HoldsExplain g rows → HoldsExplain h rows → explain_of g.explains g.silent ≡ explain_of h.explains h.silent
same_explain g h rows a b = ap₂ explain_of (bools g.explains h.explains (same_one rows (codes "explain") _ _ a.0 b.0)) (bools g.silent h.silent (same_one rows (codes "no-explain") _ _ a.1 b.1))

-- a word says one address at most
same_address : (u w : Text) (a b : Address) → u ≡ w → IsAddressOf u a → IsAddressOf w b → IsSameAddress a b
same_address u w (addresses.Port n) (addresses.Port k) e one other = one.2 ∙ ap number_of e ∙ sym other.2
same_address u w (addresses.Path p) (addresses.Path q) e one other = one.1 ∙ e ∙ sym other.1
same_address u w (addresses.Port n) (addresses.Path q) e one other = absurd (not_both (sym one.0 ∙ ap has_slash e ∙ other.0))
same_address u w (addresses.Path p) (addresses.Port k) e one other = absurd (not_both (sym other.0 ∙ sym (ap has_slash e) ∙ one.0))

-- a word that is no number
no_number : IsNumber 1 60000 (codes "always") → ⊥
no_number is = omega (arith, is.below)

-- a word says one thing at most of lines on the disk
same_sync : (u w : Text) (a b : Sync) → u ≡ w → IsSyncOf u a → IsSyncOf w b → a ≡ b
same_sync u w syncs.Always syncs.Always e one other = refl
same_sync u w (syncs.Millis n) (syncs.Millis k) e one other = ap syncs.Millis (one.1 ∙ ap number_of e ∙ sym other.1)
same_sync u w syncs.Always (syncs.Millis k) e one other = absurd (no_number (subst (IsNumber 1 60000) (sym e ∙ one) other.0))
same_sync u w (syncs.Millis n) syncs.Always e one other = absurd (no_number (subst (IsNumber 1 60000) (e ∙ other) one.0))

one_same : (f f2 : Text) → (f ∷ []) ≡ (f2 ∷ []) → f ≡ f2
one_same f f2 e = cc

one_two : (f f2 y : Text) → (f ∷ []) ≡ (f2 ∷ y ∷ []) → ⊥
one_two f f2 y e = cc

both_same : (f f2 x y : Text) → (f ∷ x ∷ []) ≡ (f2 ∷ y ∷ []) → (f ≡ f2) × (Some x ≡ Some y)
both_same f f2 x y e = (cc, cc)

-- the words of `try` are of one file, and of one name or of none
same_tried : (words : List Text) (f f2 : Text) (n n2 : Option Text) → AreTried words f n → AreTried words f2 n2 → (f ≡ f2) × (n ≡ n2)
same_tried words f f2 None None a b = (one_same f f2 (sym a ∙ b), refl)
same_tried words f f2 None (Some y) a b = absurd (one_two f f2 y (sym a ∙ b))
same_tried words f f2 (Some x) None a b = absurd (one_two f2 f x (sym b ∙ a))
same_tried words f f2 (Some x) (Some y) a b = both_same f f2 x y (sym a ∙ b)

same_made : (v : Verb) (g h : Given) (rows : List Row) (p q : Request) → Holds v g rows → Holds v h rows → Makes v g p → Makes v h q → IsSame p q
same_made paths g h rows requests.Paths requests.Paths a b m n = tt
same_made paths g h rows requests.Paths q a b m n = absurd n
same_made paths g h rows p q a b m n = absurd m
same_made check g h rows (requests.Check file explain asked) (requests.Check file2 explain2 asked2) a b m n = (
  same_at 0 (file.now ∷ []) (a.0 ∷ []) (file2.now ∷ []) (b.0 ∷ []) (sym m.0 ∙ a.1) (sym n.0 ∙ b.1) (same_first rows (codes "FILE") a.0 b.0 a.2 b.2),
  m.1 ∙ same_explain g h rows a.4 b.4 ∙ sym n.1,
  sym m.2 ∙ bools g.stuck h.stuck (same_one rows (codes "stuck") _ _ a.3 b.3) ∙ n.2,
)
same_made check g h rows (requests.Check file explain asked) q a b m n = absurd n
same_made check g h rows p q a b m n = absurd m
same_made run g h rows (requests.Run file script explain) (requests.Run file2 script2 explain2) a b m n =
    let first = same_first rows (codes "FILE") a.0 b.0 a.3 b.3 in
    let second = same_first rows (codes "SCRIPT") a.1 b.1 a.4 b.4 in (
      same_at 0 (file.now ∷ script.now ∷ []) (a.0 ∷ a.1 ∷ []) (file2.now ∷ script2.now ∷ []) (b.0 ∷ b.1 ∷ []) (sym m.0 ∙ a.2) (sym n.0 ∙ b.2) first,
      same_at 1 (file.now ∷ script.now ∷ []) (a.0 ∷ a.1 ∷ []) (file2.now ∷ script2.now ∷ []) (b.0 ∷ b.1 ∷ []) (sym m.0 ∙ a.2) (sym n.0 ∙ b.2) second,
      m.1 ∙ same_explain g h rows a.5 b.5 ∙ sym n.1,
    )
same_made run g h rows (requests.Run file script explain) q a b m n = absurd n
same_made run g h rows p q a b m n = absurd m
same_made audit g h rows (requests.Audit file trace explain) (requests.Audit file2 trace2 explain2) a b m n =
    let first = same_first rows (codes "FILE") a.0 b.0 a.3 b.3 in
    let second = same_first rows (codes "TRACE") a.1 b.1 a.4 b.4 in (
      same_at 0 (file.now ∷ trace.now ∷ []) (a.0 ∷ a.1 ∷ []) (file2.now ∷ trace2.now ∷ []) (b.0 ∷ b.1 ∷ []) (sym m.0 ∙ a.2) (sym n.0 ∙ b.2) first,
      same_at 1 (file.now ∷ trace.now ∷ []) (a.0 ∷ a.1 ∷ []) (file2.now ∷ trace2.now ∷ []) (b.0 ∷ b.1 ∷ []) (sym m.0 ∙ a.2) (sym n.0 ∙ b.2) second,
      m.1 ∙ same_explain g h rows a.5 b.5 ∙ sym n.1,
    )
same_made audit g h rows (requests.Audit file trace explain) q a b m n = absurd n
same_made audit g h rows p q a b m n = absurd m
same_made attempt g h rows (requests.Try file name explain) (requests.Try file2 name2 explain2) a b m n =
    let first = same_first rows (codes "FILE") a.0 b.0 a.1 b.1 in
    let mine = same_tried g.words file.now a.0 (option_map (λ w. w.now) name) (first_of (codes "NAME") rows) m.0 a.2 in
    let other = same_tried h.words file2.now b.0 (option_map (λ w. w.now) name2) (first_of (codes "NAME") rows) n.0 b.2 in
    (mine.0 ∙ first ∙ sym other.0, mine.1 ∙ sym other.1, m.1 ∙ same_explain g h rows a.3 b.3 ∙ sym n.1)
same_made attempt g h rows (requests.Try file name explain) q a b m n = absurd n
same_made attempt g h rows p q a b m n = absurd m
same_made serve g h rows (requests.Serve s) (requests.Serve t) a b m n =
    let first = same_first rows (codes "FILE") a.0 b.0 a.5 b.5 in
    let second = same_first rows (codes "DIR") a.1 b.1 a.6 b.6 in
    let third = same_first rows (codes "PLACE") a.2 b.2 a.7 b.7 in
    let mine = same_at 2 (s.file.now ∷ s.folder.now ∷ m.0 ∷ []) (a.0 ∷ a.1 ∷ a.2 ∷ []) (t.file.now ∷ t.folder.now ∷ n.0 ∷ []) (b.0 ∷ b.1 ∷ b.2 ∷ []) (sym m.1 ∙ a.4) (sym n.1 ∙ b.4) third in
    let counts = same_one rows (codes "sessions") a.3 b.3 a.8 b.8 in (
      same_at 0 (s.file.now ∷ s.folder.now ∷ m.0 ∷ []) (a.0 ∷ a.1 ∷ a.2 ∷ []) (t.file.now ∷ t.folder.now ∷ n.0 ∷ []) (b.0 ∷ b.1 ∷ b.2 ∷ []) (sym m.1 ∙ a.4) (sym n.1 ∙ b.4) first,
      same_at 1 (s.file.now ∷ s.folder.now ∷ m.0 ∷ []) (a.0 ∷ a.1 ∷ a.2 ∷ []) (t.file.now ∷ t.folder.now ∷ n.0 ∷ []) (b.0 ∷ b.1 ∷ b.2 ∷ []) (sym m.1 ∙ a.4) (sym n.1 ∙ b.4) second,
      same_address m.0 n.0 s.address t.address mine m.2 n.2,
      m.3 ∙ a.10 ∙ ap number_of counts ∙ sym b.10 ∙ sym n.3,
      sym m.4 ∙ bools g.stops h.stops (same_one rows (codes "stop-with-input") _ _ a.11 b.11) ∙ n.4,
      m.5 ∙ same_explain g h rows a.12 b.12 ∙ sym n.5,
    )
same_made serve g h rows (requests.Serve s) q a b m n = absurd n
same_made serve g h rows p q a b m n = absurd m
same_made keep g h rows (requests.Keep s) (requests.Keep t) a b m n =
    let first = same_first rows (codes "FILE") a.0 b.0 a.6 b.6 in
    let second = same_first rows (codes "DIR") a.1 b.1 a.7 b.7 in
    let third = same_first rows (codes "PLACE") a.2 b.2 a.8 b.8 in
    let mine = same_at 2 (s.file.now ∷ s.folder.now ∷ m.0 ∷ []) (a.0 ∷ a.1 ∷ a.2 ∷ []) (t.file.now ∷ t.folder.now ∷ n.0 ∷ []) (b.0 ∷ b.1 ∷ b.2 ∷ []) (sym m.1 ∙ a.5) (sym n.1 ∙ b.5) third in
    let counts = same_one rows (codes "at-once") a.3 b.3 a.9 b.9 in
    let syncs_same = same_first rows (codes "sync") a.4 b.4 a.12 b.12 in (
      same_at 0 (s.file.now ∷ s.folder.now ∷ m.0 ∷ []) (a.0 ∷ a.1 ∷ a.2 ∷ []) (t.file.now ∷ t.folder.now ∷ n.0 ∷ []) (b.0 ∷ b.1 ∷ b.2 ∷ []) (sym m.1 ∙ a.5) (sym n.1 ∙ b.5) first,
      same_at 1 (s.file.now ∷ s.folder.now ∷ m.0 ∷ []) (a.0 ∷ a.1 ∷ a.2 ∷ []) (t.file.now ∷ t.folder.now ∷ n.0 ∷ []) (b.0 ∷ b.1 ∷ b.2 ∷ []) (sym m.1 ∙ a.5) (sym n.1 ∙ b.5) second,
      same_address m.0 n.0 s.address t.address mine m.2 n.2,
      m.3 ∙ a.11 ∙ ap number_of counts ∙ sym b.11 ∙ sym n.3,
      same_sync _ _ s.sync t.sync (a.13 ∙ syncs_same ∙ sym b.13) m.4 n.4,
      sym m.5 ∙ bools g.stops h.stops (same_one rows (codes "stop-with-input") _ _ a.14 b.14) ∙ n.5,
      m.6 ∙ a.15.3 ∙ ap number_of (same_one rows (codes "traces") a.15.0 b.15.0 a.15.1 b.15.1) ∙ sym b.15.3 ∙ sym n.6,
      m.7 ∙ same_explain g h rows a.17 b.17 ∙ sym n.7,
    )
same_made keep g h rows (requests.Keep s) q a b m n = absurd n
same_made keep g h rows p q a b m n = absurd m

-- what words ask for is what the walk finds in them
pub record Finds (words : List Text) (q : Request) : Type 0 where
  pub verb : Verb
  pub given : Given
  pub rows : List Row
  pub found : subcommand_of program words ≡ Some (name_of verb, rows)
  pub holds : Holds verb given rows
  pub makes : Makes verb given q

pub finds : (words : List Text) (q : Request) → Asks words q → Finds words q
finds words q a = record {
  verb = a.verb;
  given = a.given;
  rows = rows_after (rules a.verb) [] a.rest;
  found = ap (subcommand_of program) a.are ∙ found_is a.verb a.rest;
  holds = level_holds a.verb a.rest a.given a.gives (full_from a.verb a.given q a.makes);
  makes = a.makes;
}

both_found : (words : List Text) (p q : Request) → Finds words p → Finds words q → IsSame p q
both_found words p q a b =
    let same = some_same (name_of a.verb, a.rows) (name_of b.verb, b.rows) (sym a.found ∙ b.found) in
    let verbs : a.verb ≡ b.verb = same_verb a.verb b.verb (ap (λ (x : Text × List Row). x.0) same) in
    let rows_same : a.rows ≡ b.rows = ap (λ (x : Text × List Row). x.1) same in
    same_made a.verb a.given b.given a.rows p q a.holds
    (subst (λ v. Holds v b.given a.rows) (sym verbs) (subst (Holds b.verb b.given) (sym rows_same) b.holds))
    a.makes (subst (λ v. Makes v b.given q) (sym verbs) b.makes)

pub asks_once : AsksOnce
asks_once words p q a b = both_found words p q (finds words p a) (finds words q b)

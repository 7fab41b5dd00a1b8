-- What the text of a file tells, as it grows; and what a crash leaves of a file that checks itself.
use Rattle.std.proofs.Common.{◌≡◌, ◌≢◌, ◌⊎◌, inl, inr, ⊎_elim, ℕ, zero, suc, ◌+◌, ◌^◌, ◌<◌, ◌≤◌, List, [], ◌∷◌, ◌++◌, length, take, drop, refl, sym, ◌∙◌, ap, subst, arith, append_assoc, length-append}
use Rattle.std.specs.Prelude.{Bool, true, false, cond, ◌==◌, if◌then◌else◌, codes, decimal}
use lib.ListN.{replicate}
use Rattle.std.proofs.lemmas.List.{append-nil, take_at, drop_at, drop-drop}
use Rattle.std.proofs.lemmas.Bool.{cases_eq}
use Rattle.std.proofs.lemmas.Bool.Decides.{nat_tests}
use Rattle.keep_loop.specs.Journal.{written, has_end, whole, recovered, IsSolid, AreLines, Begins, IsBetween, IsLoose}
use Rattle.keep_loop.specs.Taken.{onto, cut, is_check, has_front, plain, stored_word, says_stored, format_words, IsWord, Names, IsChecked, AreRight, without_form, with_form, told, taken, IsKept, IsTaken, TellsBetween}
use Rattle.keep_loop.specs.Order.{SaysAtMost, SayAtMost}
use Rattle.keep_loop.proofs.Lines.{whole_keeps, written_solid, written_zero, written_past, written_blank, found, whole_past, recovered_lines, loose_append, lines_append, between, begins_on}
use Rattle.keep_loop.proofs.CheckLines.{quiet_says, at_most_at}
use Rattle.keep_loop.proofs.Named.{first, cut_first, first_names, names_more}
use Rattle.keep_loop.proofs.Quiet.{IsQuiet, line_ends}
use Rattle.keep_loop.proofs.Texts.{cut_end, cut_on, cut_append, concat_cut, plain_append, plain_other, front_stays, right_front, onto_all, onto_all_parts, cut_onto, head, behind, IsOne}

-- a text that has so many spaces, and 9 bytes behind them

abbrev IsLong : ℕ → List ℕ → Type 0
IsLong zero text = 9 ≤ length text
IsLong (suc spaces) [] = ⊥
IsLong (suc spaces) (byte ∷ text) = IsLong (if byte == 32 then spaces else suc spaces) text

drop_past : (n : ℕ) (a b : List ℕ) → n ≤ length a → drop n (a ++ b) ≡ drop n a ++ b
drop_past zero a b le = refl
drop_past (suc n) [] b le = absurd (omega (arith, le))
drop_past (suc n) (x ∷ a) b le = drop_past n a b (omega (arith, le))

-- what comes behind such a text is told as it is
pub without_past : (spaces : ℕ) (text more : List ℕ) → IsLong spaces text → without_form spaces (text ++ more) ≡ without_form spaces text ++ more
without_past zero text more long = drop_past 9 text more long
without_past (suc spaces) [] more long = absurd long
without_past (suc spaces) (byte ∷ text) more long =
    ap (λ (l : List ℕ). byte ∷ l) (without_past (if byte == 32 then spaces else suc spaces) text more long)

pub without_with : (spaces : ℕ) (text : List ℕ) → without_form spaces (with_form spaces text) ≡ text
without_with zero text = refl
without_with (suc spaces) [] = refl
without_with (suc spaces) (byte ∷ text) = ap (λ (l : List ℕ). byte ∷ l) (without_with (if byte == 32 then spaces else suc spaces) text)

-- a word ends at its space
long_word : (word rest : List ℕ) → IsWord word → 9 ≤ length rest → IsLong 1 (word ++ 32 ∷ rest)
long_word [] rest are long = long
long_word (byte ∷ word) rest are long =
    let apart : (byte == 32) ≡ false = (let h = are.0 in grind (arith, nat_tests)) in
    subst (λ b. IsLong (cond b 0 1) (word ++ 32 ∷ rest)) (sym apart) (long_word word rest are.2 long)

length_more : (a b : List ℕ) → length a ≤ length (a ++ b)
length_more a b = omega (arith, length-append a b)

module _ (line rest : List ℕ) (names : Names line (format_words ++ rest)) where
  named_is : line ≡ codes "object " ++ (names.word ++ 32 ∷ (format_words ++ rest))
  named_is = names.is ∙ append_assoc (codes "object ") names.word (32 ∷ (format_words ++ rest))

  -- line 1 is no check line
  pub named_plain : is_check line ≡ false
  named_plain = ap is_check named_is

  pub named_long : (more : List ℕ) → IsLong 2 (line ++ more)
  named_long more =
      let tail = format_words ++ rest in
      let is : line ++ more ≡ codes "object " ++ (names.word ++ 32 ∷ (tail ++ more)) =
      ap (λ (l : List ℕ). l ++ more) named_is ∙ append_assoc (codes "object ") (names.word ++ 32 ∷ tail) more ∙ ap (λ (l : List ℕ). codes "object " ++ l) (append_assoc names.word (32 ∷ tail) more) in
      subst (IsLong 2) (sym is) (long_word names.word (tail ++ more) names.is_word (length_more format_words (rest ++ more)))

-- The text of a file that is as it was written

module _ (text : List ℕ) (c : IsChecked text) where
  checked_long : IsLong 2 (plain (cut text))
  checked_long =
      let line = first text c.rest c.names in
      let names = first_names text c.rest c.names in
      let others = behind (cut c.rest) in
      let is : plain (cut text) ≡ line ++ plain others = ap plain (cut_first text c.rest c.names) ∙ plain_other line others (named_plain line (head (cut c.rest)) names) in
      subst (IsLong 2) (sym is) (named_long line (head (cut c.rest)) names (plain others))

  -- what it tells, and what more lines tell
  pub told_past : (more : List ℕ) → whole text ≡ text → told (text ++ more) ≡ told text ++ plain (cut more)
  told_past more is =
      ap (λ ls. without_form 2 (plain ls)) (cut_append text more is) ∙ ap (λ (l : List ℕ). without_form 2 l) (plain_append (cut text) (cut more))
      ∙ without_past 2 (plain (cut text)) (plain (cut more)) checked_long

  -- with more lines that are right it is one
  pub checked_more : (more : List ℕ) → whole text ≡ text → AreRight [] (cut (text ++ more)) → IsChecked (text ++ more)
  checked_more more is right = record {
    rest = c.rest ++ more;
    names = subst (λ (l : List ℕ). Names (text ++ more) l) (append_assoc format_words c.rest more) (names_more text (format_words ++ c.rest) c.names more);
    fronted = subst (λ l. has_front l ≡ true) (sym (cut_append text more is)) (front_stays (cut text) (cut more) c.fronted);
    right = right;
  }

-- A line that says what was stored, where a crash left it

loose_solid : (bytes file : List ℕ) → IsLoose bytes file → IsSolid file → bytes ≡ file
loose_solid [] [] loose solid = refl
loose_solid [] (is ∷ file) loose solid = absurd loose
loose_solid (byte ∷ bytes) [] loose solid = absurd loose
loose_solid (byte ∷ bytes) (is ∷ file) loose solid =
    let same : is ≡ byte = ⊎_elim (λ none. absurd (solid.0 none)) (λ s. s) loose.0 in
    ap (λ (l : List ℕ). byte ∷ l) (loose_solid bytes file loose.1 solid.1) ∙ ap (λ (b : ℕ). b ∷ file) (sym same)

loose_split : (bytes a b : List ℕ) → IsLoose bytes (a ++ b) → (one two : List ℕ) × (bytes ≡ one ++ two) × IsLoose one a × IsLoose two b
loose_split bytes [] b loose = ([], bytes, refl, tt, loose)
loose_split [] (x ∷ a) b loose = absurd loose
loose_split (byte ∷ bytes) (x ∷ a) b loose =
    let later = loose_split bytes a b loose.1 in
    (byte ∷ later.0, later.1, ap (λ (l : List ℕ). byte ∷ l) later.2, (loose.0, later.3), later.4)

loose_blank : (room : ℕ) → IsLoose (replicate room 0) (replicate room 0)
loose_blank zero = tt
loose_blank (suc room) = (inl refl, loose_blank room)

no_end_in_blank : (room : ℕ) (a rest : List ℕ) → replicate room 0 ≡ a ++ 10 ∷ rest → ⊥
no_end_in_blank zero [] rest is = absurd (cc is)
no_end_in_blank zero (x ∷ a) rest is = absurd (cc is)
no_end_in_blank (suc room) [] rest is = absurd (cc is)
no_end_in_blank (suc room) (x ∷ a) rest is = no_end_in_blank room a rest (cc is)

-- what ends in front of zeros stands in the text before them
ends_before : (text : List ℕ) (room : ℕ) (a rest : List ℕ) → text ++ replicate room 0 ≡ a ++ 10 ∷ rest →
    (more : List ℕ) × (text ≡ a ++ 10 ∷ more) × (more ++ replicate room 0 ≡ rest)
ends_before [] room a rest is = absurd (no_end_in_blank room a rest is)
ends_before (byte ∷ text) room [] rest is = (text, cc is, cc is)
ends_before (byte ∷ text) room (x ∷ a) rest is =
    let later = ends_before text room a rest (cc is) in
    (later.0, cc (is, later.1), later.2)

-- and so does what has no byte 0
solid_before : (text : List ℕ) (room : ℕ) (a rest : List ℕ) → IsSolid a → text ++ replicate room 0 ≡ a ++ rest → (more : List ℕ) × (text ≡ a ++ more)
solid_before text room [] rest solid is = (text, refl)
solid_before [] zero (x ∷ a) rest solid is = absurd (cc is)
solid_before [] (suc room) (x ∷ a) rest solid is = absurd (solid.0 (sym (cc is)))
solid_before (byte ∷ text) room (x ∷ a) rest solid is =
    let later = solid_before text room a rest solid.1 (cc is) in
    let same : byte ≡ x = cc is in
    (later.0, ap (λ (b : ℕ). b ∷ text) same ∙ ap (λ (l : List ℕ). x ∷ l) later.1)

one_quiet : (text : List ℕ) → IsQuiet text → IsOne text
one_quiet [] quiet = tt
one_quiet (byte ∷ text) quiet = (quiet.1, one_quiet text quiet.2)

solid_quiet : (text : List ℕ) → IsQuiet text → IsSolid text
solid_quiet [] quiet = tt
solid_quiet (byte ∷ text) quiet = (quiet.0, solid_quiet text quiet.2)

-- a file is what is written of it, and what stands behind that
split_written : (file : List ℕ) → file ≡ written file ++ drop (length (written file)) file
split_written [] = refl
split_written (byte ∷ file) = elim (cases_eq byte 0) [
  | inl none ↦ subst (λ w. byte ∷ file ≡ w ++ drop (length w) (byte ∷ file)) (sym (written_zero byte file none)) refl
  | inr solid ↦ subst (λ w. byte ∷ file ≡ w ++ drop (length w) (byte ∷ file)) (sym (written_solid byte file solid)) (ap (λ (l : List ℕ). byte ∷ l) (split_written file))
]

cancel_front : (a x y : List ℕ) → a ++ x ≡ a ++ y → x ≡ y
cancel_front [] x y is = is
cancel_front (byte ∷ a) x y is = cancel_front a x y (cc is)

pub ended_whole : (text : List ℕ) → whole (text ++ 10 ∷ []) ≡ text ++ 10 ∷ []
ended_whole [] = refl
ended_whole (byte ∷ text) = whole_keeps byte (text ++ 10 ∷ []) (line_ends (byte ∷ text) []) ∙ ap (λ (l : List ℕ). byte ∷ l) (ended_whole text)

module _ (stored loose holes : List ℕ) (room : ℕ) (lines : AreLines stored) (is_loose : IsLoose loose holes) where
  abbrev left : List ℕ
  left = stored ++ holes ++ replicate room 0

  abbrev tail : List ℕ
  tail = holes ++ replicate room 0

  -- a line behind the first 0 that says what was stored was written behind what is stored
  line_was_written : (before rest : List ℕ) (size : ℕ) → size < 2 ^ 64 → drop (length (written left)) left ≡ before ++ 10 ∷ says_stored size rest →
      (one more : List ℕ) × (loose ≡ one ++ 10 ∷ (says_stored size [] ++ more))
  line_was_written before rest size small is =
      let p = says_stored size [] in
      let says : says_stored size rest ≡ p ++ rest = sym (append_assoc (stored_word ++ decimal size) (32 ∷ []) rest) in
      let quiet = quiet_says size small in
      let parts : left ≡ stored ++ tail = append_assoc stored holes (replicate room 0) in
      let w = written tail in
      let wrote : written left ≡ stored ++ w = ap written parts ∙ written_past stored tail lines.solid in
      let behind_is : drop (length (written left)) left ≡ before ++ 10 ∷ (p ++ rest) = is ∙ ap (λ (l : List ℕ). before ++ 10 ∷ l) says in
      let all : stored ++ tail ≡ stored ++ (w ++ (before ++ 10 ∷ (p ++ rest))) =
      sym parts ∙ split_written left ∙ ap (λ (l : List ℕ). written left ++ l) behind_is ∙ ap (λ (l : List ℕ). l ++ (before ++ 10 ∷ (p ++ rest))) wrote ∙ append_assoc stored w (before ++ 10 ∷ (p ++ rest)) in
      let tail_is : tail ≡ (w ++ before) ++ ((10 ∷ p) ++ rest) = cancel_front stored _ _ all ∙ sym (append_assoc w before (10 ∷ (p ++ rest))) in
      let torn : IsLoose (loose ++ replicate room 0) tail = loose_append loose (replicate room 0) holes (replicate room 0) is_loose (loose_blank room) in
      let first = loose_split (loose ++ replicate room 0) (w ++ before) ((10 ∷ p) ++ rest) (subst (IsLoose (loose ++ replicate room 0)) tail_is torn) in
      let second = loose_split first.1 (10 ∷ p) rest first.4 in
      let solid : IsSolid (10 ∷ p) = (λ none. absurd (omega (arith, none)), solid_quiet p quiet) in
      let line_is : second.0 ≡ 10 ∷ p = loose_solid second.0 (10 ∷ p) second.3 solid in
      let there : loose ++ replicate room 0 ≡ first.0 ++ 10 ∷ (p ++ second.1) =
      first.2 ∙ ap (λ (l : List ℕ). first.0 ++ l) (second.2 ∙ ap (λ (l : List ℕ). l ++ second.1) line_is) in
      let ends = ends_before loose room first.0 (p ++ second.1) there in
      let again = solid_before ends.0 room p second.1 (solid_quiet p quiet) ends.2 in
      (first.0, again.0, ends.1 ∙ ap (λ (l : List ℕ). first.0 ++ 10 ∷ l) again.1)

  kept : SayAtMost (length stored) (cut (stored ++ loose)) → IsKept left
  kept say has =
      let before = has.0 in
      let rest = has.3.1 in
      let size = has.3.0 in
      let small = has.3.2 in
      let is = has.2 ∙ ap (λ (l : List ℕ). before ++ 10 ∷ l) has.3.3 in
      let p = says_stored size [] in
      let was = line_was_written before rest size small is in
      let front = (stored ++ was.0) ++ 10 ∷ [] in
      let text : stored ++ loose ≡ front ++ (p ++ was.1) =
      ap (λ (l : List ℕ). stored ++ l) was.2 ∙ sym (append_assoc stored was.0 (10 ∷ (p ++ was.1))) ∙ sym (append_assoc (stored ++ was.0) (10 ∷ []) (p ++ was.1)) in
      let line : cut (p ++ was.1) ≡ (p ++ head (cut was.1)) ∷ behind (cut was.1) = cut_onto p was.1 (one_quiet p (quiet_says size small)) ∙ onto_all_parts 115 ((codes "tored " ++ decimal size) ++ 32 ∷ []) (cut was.1) in
      let cuts : cut (stored ++ loose) ≡ cut front ++ (p ++ head (cut was.1)) ∷ behind (cut was.1) =
      ap cut text ∙ cut_append front (p ++ was.1) (ended_whole (stored ++ was.0)) ∙ ap (λ (l : List (List ℕ)). cut front ++ l) line in
      let most = at_most_at (length stored) (cut front) (behind (cut was.1)) (p ++ head (cut was.1)) (subst (SayAtMost (length stored)) cuts say) size (head (cut was.1)) small
      (append_assoc (stored_word ++ decimal size) (32 ∷ []) (head (cut was.1))) in
      let wrote : written left ≡ stored ++ written tail = ap written (append_assoc stored holes (replicate room 0)) ∙ written_past stored tail lines.solid in
      omega (arith, most, has.3.4, ap length wrote, length-append stored (written tail))

  -- What a crash leaves is taken, and tells all that was stored, and of what was handed some more
  pub leaves_tell : IsChecked stored → AreRight [] (cut (stored ++ loose)) → SayAtMost (length stored) (cut (stored ++ loose)) → TellsBetween (told stored) (told (stored ++ loose)) left
  leaves_tell checked right say =
      let raw = between stored loose holes room lines is_loose in
      let found_text = recovered left in
      let more = raw.all_stored in
      let later = raw.nothing_else in
      let are = recovered_lines left in
      let cuts : cut (stored ++ loose) ≡ cut found_text ++ cut later.0 = ap cut later.1 ∙ cut_append found_text later.0 are.ended in
      let front_right : AreRight [] (cut found_text) = right_front [] (cut found_text) (cut later.0) (subst (AreRight []) cuts right) in
      let found_checked : IsChecked found_text = subst IsChecked (sym more.1) (checked_more stored checked more.0 lines.ended (subst (λ t. AreRight [] (cut t)) more.1 front_right)) in
      record {
        is_taken = record { checked = found_checked; kept = kept say };
        between = record {
          all_stored = (plain (cut more.0), ap told more.1 ∙ told_past stored checked more.0 lines.ended);
          nothing_else = (plain (cut later.0), ap told later.1 ∙ told_past found_text found_checked later.0 are.ended);
        };
      }

-- A front as it stands in a file: it checks itself, and tells the front.
use Rattle.std.proofs.Common.{◌≡◌, ◌≢◌, ◌⊎◌, inl, inr, ⊎_elim, ℕ, zero, suc, ◌+◌, ◌^◌, ◌<◌, ◌≤◌, List, [], ◌∷◌, ◌++◌, length, take, refl, sym, ◌∙◌, ap, subst, arith, append_assoc, length-append}
use Rattle.std.specs.Prelude.{Bool, true, false, cond, codes, ◌||◌, ◌==◌}
use Rattle.std.specs.List.{concat}
use lib.ListN.{replicate}
use Rattle.std.proofs.lemmas.List.{append-nil, take_at, length-replicate}
use Rattle.std.proofs.lemmas.Bool.{cases_eq}
use Rattle.std.proofs.lemmas.Bool.Decides.{nat_tests}
use Rattle.keep_loop.specs.Crc.{crc_more, crc_start, crc_of}
use Rattle.std.specs.Prelude.{Option, Some}
use Rattle.keep_loop.specs.Device.{Only, IsChanged, Replaces}
use Rattle.keep_loop.specs.Journal.{has_end, whole, IsSolid, AreLines, recovered, Stands}
use Rattle.keep_loop.specs.Order.{SayAtMost, Checks}
use Rattle.keep_loop.specs.Taken.{cut, begins_with, stored_word, is_check, is_front_line, has_check, has_front, plain, since, check_line, front_word, format_words, IsWord, Names, IsRight, AreRight, IsChecked, IsFront, ArePlain, without_form, with_form, with_check, in_file, told, taken, IsTaken, Tells}
use Rattle.keep_loop.proofs.Lines.{whole_parts, whole_keeps, solid_append, lines_append, no_lines}
use Rattle.keep_loop.proofs.Quiet.{IsQuiet}
use Rattle.keep_loop.proofs.Texts.{or_parts, cut_append, concat_cut, plain_append, plain_check, plain_none, front_stays, since_none, since_check, right_append, right_plain, has_front_append, onto_all, IsOne, one_append, cut_onto, behind, head, onto_all_parts}
use Rattle.keep_loop.proofs.CheckLines.{body, check_is, quiet_front_body, lines_quiet, cut_line, front_is, front_is_check, front_no_stored, at_most_append, at_most_plain, at_most_front}
use Rattle.keep_loop.proofs.Named.{begin, named_parts, form_parts, begin_one, cut_text, cut_first, names_more, solid_format}
use Rattle.keep_loop.proofs.Told.{leaves_tell, without_with}
use Rattle.keep_loop.proofs.KeptLines.{front_text, changed_from}
use Rattle.keep_loop.proofs.Begun.{begun_stands}
use Rattle.keep_loop.proofs.KeptTold.{lines_found}

-- the end of a text that ends a line, behind a beginning that does not

pub whole_behind : (text more : List ℕ) → whole (text ++ more) ≡ text ++ more → whole more ≡ more
whole_behind [] more is = is
whole_behind (byte ∷ text) more is = whole_behind text more (whole_parts byte (text ++ more) is).1

pub ends_behind : (text more : List ℕ) → IsOne text → has_end (text ++ more) ≡ true → has_end more ≡ true
ends_behind [] more one ends = ends
ends_behind (byte ∷ text) more one ends =
    let later : has_end (text ++ more) ≡ true = (let h = one.0 in grind (arith, nat_tests)) in ends_behind text more one.1 later

ends_on_behind : (text more : List ℕ) → has_end more ≡ true → has_end (text ++ more) ≡ true
ends_on_behind [] more ends = ends
ends_on_behind (byte ∷ text) more ends = let later : has_end (text ++ more) ≡ true = ends_on_behind text more ends in grind (arith, nat_tests)

pub whole_in_front : (text more : List ℕ) → has_end more ≡ true → whole more ≡ more → whole (text ++ more) ≡ text ++ more
whole_in_front [] more ends is = is
whole_in_front (byte ∷ text) more ends is =
    whole_keeps byte (text ++ more) (ends_on_behind (byte ∷ text) more ends) ∙ ap (λ (l : List ℕ). byte ∷ l) (whole_in_front text more ends is)

pub solid_behind : (text more : List ℕ) → IsSolid (text ++ more) → IsSolid more
solid_behind [] more solid = solid
solid_behind (byte ∷ text) more solid = solid_behind text more solid.1

pub solid_front : (text more : List ℕ) → IsSolid (text ++ more) → IsSolid text
solid_front [] more solid = tt
solid_front (byte ∷ text) more solid = (solid.0, solid_front text more solid.1)

-- what begins as the first line of a journal is no check line
no_check_o : (text : List ℕ) (lines : List (List ℕ)) → has_check ((111 ∷ text) ∷ lines) ≡ has_check lines
no_check_o text lines = refl

module _ (text rest : List ℕ) (names : Names text rest) where
  pub form_names : Names (with_form 2 text) (format_words ++ rest)
  form_names = record {
    word = names.word;
    is_word = names.is_word;
    some = names.some;
    is = form_parts text rest names ∙ append_assoc (codes "object ") (names.word ++ 32 ∷ []) (format_words ++ rest)
        ∙ ap (λ (l : List ℕ). codes "object " ++ l) (append_assoc names.word (32 ∷ []) (format_words ++ rest))
        ∙ sym (append_assoc (codes "object ") names.word (32 ∷ (format_words ++ rest)));
  }

  -- line 1 alone is another one
  form_none : has_check (cut text) ≡ false → has_check (cut (with_form 2 text)) ≡ false
  form_none none = ap has_check (cut_first (with_form 2 text) rest form_names) ∙ (ap has_check (sym (cut_text text rest names)) ∙ none)

  form_lines : AreLines text → AreLines (with_form 2 text)
  form_lines are =
      let solid = subst IsSolid (named_parts text rest names) are.solid in
      let whole_is : whole ((begin text rest names) ++ rest) ≡ (begin text rest names) ++ rest = ap whole (sym (named_parts text rest names)) ∙ are.ended ∙ (named_parts text rest names) in
      let ends : has_end ((begin text rest names) ++ rest) ≡ true = (whole_parts 111 ((codes "bject " ++ (names.word ++ 32 ∷ [])) ++ rest) whole_is).0 in
      let rest_ends : has_end rest ≡ true = ends_behind (begin text rest names) rest (begin_one text rest names) ends in
      let rest_whole = whole_behind (begin text rest names) rest whole_is in
      let form_whole = whole_in_front format_words rest rest_ends rest_whole in
      subst AreLines (sym (form_parts text rest names)) (record {
        solid = solid_append (begin text rest names) (format_words ++ rest) (solid_front (begin text rest names) rest solid) (solid_append format_words rest solid_format (solid_behind (begin text rest names) rest solid));
        ended = whole_in_front (begin text rest names) (format_words ++ rest) (ends_on_behind format_words rest rest_ends) form_whole;
      })

module _ (front : List ℕ) (is : IsFront front) (small : length (with_form 2 front) < 2 ^ 64) where
  abbrev form : List ℕ
  form = with_form 2 front

  abbrev line : List ℕ
  line = check_line front_word (length form) (crc_of form)

  form_are : AreLines form
  form_are = form_lines front is.rest is.names is.are_plain.are_lines

  form_bare : has_check (cut form) ≡ false
  form_bare = form_none front is.rest is.names is.are_plain.none

  line_cut : cut line ≡ line ∷ []
  line_cut =
      ap cut (check_is front_word (length form) (crc_of form)) ∙ cut_line (body front_word (length form) (crc_of form)) [] (quiet_front_body (length form) (crc_of form) small)
      ∙ ap (λ (l : List ℕ). l ∷ []) (sym (check_is front_word (length form) (crc_of form)))

  line_are : AreLines line
  line_are = subst AreLines (sym (check_is front_word (length form) (crc_of form))) (lines_quiet (body front_word (length form) (crc_of form)) (quiet_front_body (length form) (crc_of form) small))

  pub front_lines : AreLines (in_file front)
  front_lines = lines_append form line form_are line_are

  cuts : cut (in_file front) ≡ cut form ++ line ∷ []
  cuts = cut_append form line form_are.ended ∙ ap (λ (l : List (List ℕ)). cut form ++ l) line_cut

  no_front : (lines : List (List ℕ)) → has_check lines ≡ false → has_front lines ≡ false
  no_front [] none = refl
  no_front (first ∷ lines) none =
      let parts = or_parts (is_check first) (has_check lines) none in
      let apart : is_front_line first ≡ false = (or_parts (is_front_line first) (begins_with stored_word first) parts.0).0 in
      ap (λ b. b || has_front lines) apart ∙ no_front lines parts.1

  since_form : since (cut form) ≡ form
  since_form = since_none (cut form) form_bare ∙ concat_cut form

  line_right : IsRight (cut form) line
  line_right = record {
    front = λ here. record {
      none = no_front (cut form) form_bare;
      is = ap (λ (l : List ℕ). check_line front_word (length l) (crc_of form)) (sym (concat_cut form)) ∙ ap (λ (l : List ℕ). check_line front_word (length (concat (cut form))) (crc_of l)) (sym since_form);
    };
    stored = λ here. absurd (let n = front_no_stored (length form) (crc_of form) in cc (here, n));
  }

  right : AreRight [] (cut (in_file front))
  right = subst (AreRight []) (sym cuts) (right_append [] (cut form) (line ∷ []) (right_plain [] (cut form) form_bare) (line_right, tt))

  or_is : (a : Bool) → (a || true) ≡ true
  or_is true = refl
  or_is false = refl

  pub front_checked : IsChecked (in_file front)
  front_checked = record {
    rest = is.rest ++ line;
    names = subst (λ (l : List ℕ). Names (in_file front) l) (append_assoc format_words is.rest line) (names_more form (format_words ++ is.rest) (form_names front is.rest is.names) line);
    fronted = ap has_front cuts ∙ has_front_append (cut form) (line ∷ []) ∙ ap (λ b. has_front (cut form) || (b || false)) (front_is (length form) (crc_of form)) ∙ or_is (has_front (cut form));
    right = right;
  }

  pub front_below : (most : ℕ) → SayAtMost most (cut (in_file front))
  front_below most = subst (SayAtMost most) (sym cuts) (at_most_append most (cut form) (line ∷ []) (at_most_plain most (cut form) form_bare) (at_most_front most (length form) (crc_of form), tt))

  pub front_since : since (cut (in_file front)) ≡ []
  front_since = ap since cuts ∙ since_check (cut form) line (front_is_check (length form) (crc_of form))

  pub front_told : told (in_file front) ≡ front
  front_told =
      ap (λ l. without_form 2 (plain l)) cuts ∙ ap (λ (l : List ℕ). without_form 2 l) (plain_append (cut form) (line ∷ []) ∙ ap (λ (l : List ℕ). plain (cut form) ++ l) (plain_check line [] (front_is_check (length form) (crc_of form)))
      ∙ append-nil (plain (cut form)) ∙ plain_none (cut form) form_bare ∙ concat_cut form) ∙ without_with 2 front

  module _ (bytes : List ℕ) (room : ℕ) (bytes_are : bytes ≡ in_file front ++ replicate room 0) where
    text_is : recovered bytes ≡ in_file front
    text_is = ap recovered bytes_are ∙ front_text (in_file front) room front_lines

    disk_is : take (length (in_file front)) bytes ≡ in_file front
    disk_is = ap (λ (l : List ℕ). take (length (in_file front)) l) bytes_are ∙ take_at (in_file front) (replicate room 0) (length (in_file front)) refl

    pub begun_checks : Checks bytes (length (in_file front)) crc_start
    begun_checks = record {
      on_disk = subst IsChecked (sym disk_is) front_checked;
      right = subst (λ t. AreRight [] (cut t)) (sym text_is) right;
      below = subst (λ t. SayAtMost (length (in_file front)) (cut t)) (sym text_is) (front_below (length (in_file front)));
      crc_is = ap (λ (l : List ℕ). crc_more crc_start l) (sym front_since ∙ ap (λ t. since (cut t)) (sym text_is));
    }

    pub begun_told : taken bytes ≡ front
    begun_told = ap told text_is ∙ front_told

    pub begun_disk : taken (take (length (in_file front)) bytes) ≡ front
    begun_disk = ap taken disk_is ∙ ap told (lines_found (in_file front) front_lines) ∙ front_told

    -- a file that has just begun is taken, and tells the front
    pub begun_tells : Tells front bytes
    begun_tells =
        let file_is : bytes ≡ in_file front ++ [] ++ replicate room 0 = bytes_are ∙ ap (λ (l : List ℕ). l ++ replicate room 0) (sym (append-nil (in_file front))) in
        let none : in_file front ++ [] ≡ in_file front = append-nil (in_file front) in
        let tells = leaves_tell (in_file front) [] [] room front_lines tt front_checked (subst (λ t. AreRight [] (cut t)) (sym none) right) (subst (λ t. SayAtMost (length (in_file front)) (cut t)) (sym none) (front_below (length (in_file front)))) in
        record { is_taken = subst IsTaken (sym file_is) tells.is_taken; are = begun_told }

-- A file that was begun with a front, and how many bytes the front has in it
module _ (bytes front : List ℕ) (room size : ℕ) (bytes_are : bytes ≡ in_file front ++ replicate room 0) (size_is : size ≡ length (in_file front)) (is : IsFront front) (fits : length bytes < 2 ^ 63) where
  small : length (with_form 2 front) < 2 ^ 64
  small =
      let line = check_line front_word (length (with_form 2 front)) (crc_of (with_form 2 front)) in
      omega (arith, fits, ap length bytes_are, length-append (in_file front) (replicate room 0), length-append (with_form 2 front) line)

  pub begin_fits : size + room < 2 ^ 63
  begin_fits = omega (arith, fits, ap length bytes_are, length-append (in_file front) (replicate room 0), length-replicate {A = ℕ} room 0, size_is)

  pub begin_stands : (old new : Option (List ℕ)) → IsChanged (λ _. bytes) old new → (leaves : List ℕ → Type 0) → Only bytes leaves → (file : List ℕ) → new ≡ Some file → Stands file leaves size size room
  begin_stands old new changed leaves only file known =
      subst (λ n. Stands file leaves n n room) (sym size_is) (begun_stands bytes (in_file front) room bytes_are (front_lines front is small) old new changed leaves only file known)

  pub begin_checks : (old new : Option (List ℕ)) → IsChanged (λ _. bytes) old new → (file : List ℕ) → new ≡ Some file → Checks file size crc_start
  begin_checks old new changed file known =
      let was = changed_from (λ _. bytes) old new changed file known in
      subst (λ f. Checks f size crc_start) (sym was.2) (subst (λ n. Checks bytes n crc_start) (sym size_is) (begun_checks front is small bytes room bytes_are))

  pub begin_told : taken bytes ≡ front
  begin_told = begun_told front is small bytes room bytes_are

  pub begin_disk : taken (take size bytes) ≡ front
  begin_disk = ap (λ (n : ℕ). taken (take n bytes)) size_is ∙ begun_disk front is small bytes room bytes_are

  -- a crash leaves what it might have left before, or the front
  pub begin_leaves : (old new : List ℕ → Type 0) → Replaces bytes old new → (c : List ℕ) → new c → old c ⊎ Tells front c
  begin_leaves old new replaces c left = ⊎_elim (λ before. inl before) (λ e. inr (subst (Tells front) (sym e) (begun_tells front is small bytes room bytes_are))) (replaces c left)

-- What a crash leaves of a journal's file that is in order, and what adding, storing and beginning anew make of it.
use Rattle.std.proofs.Common.{◌≡◌, ℕ, ◌+◌, ◌-◌, ◌≤◌, List, [], ◌++◌, length, take, drop, refl, sym, ◌∙◌, ap, subst, arith, append_assoc, length-append}
use Rattle.std.specs.Prelude.{Option, Some, None}
use lib.ListN.{replicate}
use Rattle.std.proofs.lemmas.List.{append-nil, take_all, take_at, drop_at, drop-drop, drop-replicate}
use Rattle.keep_loop.specs.Device.{IsTorn, with_bytes, Writes, Only, IsChanged}
use Rattle.keep_loop.specs.Journal.{recovered, AreLines, IsBetween, IsLoose, Stands}
use Rattle.keep_loop.proofs.Lines.{found, recovered_blank, recovered_file, between, begins_on, torn_front, torn_blank, loose_length, loose_append, lines_append, no_lines}

-- what was known of a file that is known now, after a change
pub changed_from : (change : List ℕ → List ℕ) (old new : Option (List ℕ)) → IsChanged change old new → (after : List ℕ) → new ≡ Some after →
    (file : List ℕ) × (old ≡ Some file) × (after ≡ change file)
changed_from change None new is after known = absurd (cc (is, known))
changed_from change (Some file) new is after known = (file, refl, cc (is, known))

pub changed_to : (change : List ℕ → List ℕ) (old new : Option (List ℕ)) → IsChanged change old new → (file : List ℕ) → old ≡ Some file → new ≡ Some (change file)
changed_to change old new is file known = subst (λ o. IsChanged change o new) known is

-- the file is as it was, and a crash leaves nothing that it might not have left
pub stands_kept : (file : List ℕ) (old new : List ℕ → Type 0) (st size room : ℕ) → Stands file old st size room → ((c : List ℕ) → new c → old c) → Stands file new st size room
stands_kept file old new st size room s fewer = record {
  stored = s.stored;
  loose = s.loose;
  file_is = s.file_is;
  stored_lines = s.stored_lines;
  loose_lines = s.loose_lines;
  stored_is = s.stored_is;
  size_is = s.size_is;
  leaves_only = λ c left. s.leaves_only c (fewer c left);
}

-- more may have been written
pub between_more : (stored text more found : List ℕ) → IsBetween stored text found → IsBetween stored (text ++ more) found
between_more stored text more found is = record {
  all_stored = is.all_stored;
  nothing_else = begins_on found text (text ++ more) is.nothing_else (more, refl);
}

module _ (stored loose : List ℕ) (room : ℕ) where
  abbrev file_with : List ℕ → List ℕ
  file_with holes = stored ++ holes ++ replicate room 0

  -- what a write of lines leaves, where it stands behind all that was written
  pub written_lines : (lines holes : List ℕ) (at rest : ℕ) → at ≡ length stored + length holes → room ≡ length lines + rest →
      with_bytes at lines (file_with holes) ≡ stored ++ holes ++ lines ++ replicate rest 0
  written_lines lines holes at rest is_at is_room =
      let long : length (stored ++ holes) ≡ at = omega (arith, length-append stored holes, is_at) in
      let front : take at (file_with holes) ≡ stored ++ holes = take_at (stored ++ holes) (replicate room 0) at long in
      let behind : drop (at + length lines) (file_with holes) ≡ replicate rest 0 =
      sym (drop-drop (length lines) at (file_with holes)) ∙ ap (λ (l : List ℕ). drop (length lines) l) (drop_at (stored ++ holes) (replicate room 0) at long)
      ∙ drop-replicate (length lines) room 0 ∙ ap (λ (n : ℕ). replicate n 0) (omega (arith, is_room)) in
      ap (λ (l : List ℕ). l ++ lines ++ drop (at + length lines) (file_with holes)) front ∙ ap (λ (l : List ℕ). stored ++ holes ++ lines ++ l) behind

  pub torn_lines : (lines holes c : List ℕ) (at rest : ℕ) → at ≡ length stored + length loose → room ≡ length lines + rest → IsLoose loose holes →
      IsTorn (file_with holes) (with_bytes at lines (file_with holes)) c → (more : List ℕ) × IsLoose (loose ++ lines) more × (c ≡ stored ++ more ++ replicate rest 0)
  torn_lines lines holes c at rest is_at is_room is_loose torn =
      let long : length holes ≡ length loose = loose_length loose holes is_loose in
      let is : with_bytes at lines (file_with holes) ≡ stored ++ holes ++ lines ++ replicate rest 0 = written_lines lines holes at rest (omega (arith, is_at, long)) is_room in
      let apart : with_bytes at lines (file_with holes) ≡ (stored ++ holes) ++ (lines ++ replicate rest 0) = is ∙ append_assoc (stored ++ holes) lines (replicate rest 0) in
      let split = torn_front (stored ++ holes) (replicate room 0) (lines ++ replicate rest 0) c (subst (λ l. IsTorn (file_with holes) l c) apart torn) in
      let tail = torn_blank lines split.0 room rest is_room split.2 in (
        holes ++ tail.0,
        loose_append loose lines holes tail.0 is_loose tail.1,
        split.1 ∙ ap (λ (l : List ℕ). (stored ++ holes) ++ l) tail.2 ∙ sym (append_assoc (stored ++ holes) tail.0 (replicate rest 0))
            ∙ ap (λ (l : List ℕ). l ++ replicate rest 0) (append_assoc stored holes tail.0),
      )

-- a front, and room behind it
pub front_text : (front : List ℕ) (room : ℕ) → AreLines front → recovered (front ++ replicate room 0) ≡ front
front_text front room lines = found front (replicate room 0) lines ∙ ap (λ (l : List ℕ). front ++ l) (recovered_blank room) ∙ append-nil front

pub front_stands : (front : List ℕ) (room : ℕ) → AreLines front → (leaves : List ℕ → Type 0) → Only (front ++ replicate room 0) leaves →
    Stands (front ++ replicate room 0) leaves (length front) (length front) room
front_stands front room lines leaves only =
    let is : front ++ replicate room 0 ≡ front ++ [] ++ replicate room 0 = ap (λ (l : List ℕ). l ++ replicate room 0) (sym (append-nil front)) in
    record {
      stored = front;
      loose = [];
      file_is = is;
      stored_lines = lines;
      loose_lines = no_lines;
      stored_is = refl;
      size_is = omega arith;
      leaves_only = λ c left. ([], tt, only c left ∙ is);
    }

module _ (file : List ℕ) (leaves : List ℕ → Type 0) (st size room : ℕ) (s : Stands file leaves st size room) where
  pub text_is : recovered file ≡ s.stored ++ s.loose
  text_is = ap recovered s.file_is ∙ recovered_file s.stored s.loose room s.stored_lines s.loose_lines

  pub stored_is : take st (recovered file) ≡ s.stored
  stored_is = ap (λ (l : List ℕ). take st l) text_is ∙ take_at s.stored s.loose st (sym s.stored_is)

  -- a crash now leaves all that is stored, and nothing that was not written
  pub leaves_between : (stored text : List ℕ) → recovered file ≡ text → take st text ≡ stored → (c : List ℕ) → leaves c → IsBetween stored text (recovered c)
  leaves_between stored text lines_are stored_are c left =
      let from = s.leaves_only c left in
      let plain : IsBetween s.stored (s.stored ++ s.loose) (recovered c) =
      subst (λ l. IsBetween s.stored (s.stored ++ s.loose) (recovered l)) (sym from.2) (between s.stored s.loose from.0 room s.stored_lines from.1) in
      let here : s.stored ≡ stored = sym stored_is ∙ ap (λ (l : List ℕ). take st l) lines_are ∙ stored_are in
      subst (λ l. IsBetween l text (recovered c)) here (subst (λ l. IsBetween s.stored l (recovered c)) (sym text_is ∙ lines_are) plain)

  module _ (lines : List ℕ) (fits : length lines ≤ room) where
    abbrev rest : ℕ
    rest = room - length lines

    -- what a crash leaves while lines are added
    pub append_leaves : (new : List ℕ → Type 0) → Writes size lines leaves new → (c : List ℕ) → new c →
        (holes : List ℕ) × IsLoose (s.loose ++ lines) holes × (c ≡ s.stored ++ holes ++ replicate rest 0)
    append_leaves new writes c left =
        let from = writes c left in
        let was = s.leaves_only from.0 from.1 in
        torn_lines s.stored s.loose room lines was.0 c size rest s.size_is (omega (arith, fits)) was.1
        (subst (λ d. IsTorn d (with_bytes size lines d) c) was.2 from.2)

    pub append_between : (stored text : List ℕ) → recovered file ≡ text → take st text ≡ stored → (new : List ℕ → Type 0) → Writes size lines leaves new →
        (c : List ℕ) → new c → IsBetween stored (text ++ lines) (recovered c)
    append_between stored text lines_are stored_are new writes c left =
        let is = append_leaves new writes c left in
        let plain = between s.stored (s.loose ++ lines) is.0 rest s.stored_lines is.1 in
        let here : s.stored ≡ stored = sym stored_is ∙ ap (λ (l : List ℕ). take st l) lines_are ∙ stored_are in
        let all : s.stored ++ (s.loose ++ lines) ≡ text ++ lines = sym (append_assoc s.stored s.loose lines) ∙ ap (λ (l : List ℕ). l ++ lines) (sym text_is ∙ lines_are) in
        subst (λ l. IsBetween l (text ++ lines) (recovered c)) here
        (subst (λ l. IsBetween s.stored l (recovered c)) all (subst (λ f. IsBetween s.stored (s.stored ++ (s.loose ++ lines)) (recovered f)) (sym is.2) plain))

    pub append_file : with_bytes size lines file ≡ s.stored ++ (s.loose ++ lines) ++ replicate rest 0
    append_file =
        ap (λ (l : List ℕ). with_bytes size lines l) s.file_is ∙ written_lines s.stored s.loose room lines s.loose size rest s.size_is (omega (arith, fits))
        ∙ ap (λ (l : List ℕ). l ++ replicate rest 0) (append_assoc s.stored s.loose lines)

    -- once they are added
    module _ (are : AreLines lines) where
      pub append_stands : (new : List ℕ → Type 0) → Writes size lines leaves new → Stands (with_bytes size lines file) new st (size + length lines) rest
      append_stands new writes = record {
        stored = s.stored;
        loose = s.loose ++ lines;
        file_is = append_file;
        stored_lines = s.stored_lines;
        loose_lines = lines_append s.loose lines s.loose_lines are;
        stored_is = s.stored_is;
        size_is = omega (arith, s.size_is, length-append s.loose lines);
        leaves_only = λ c left. append_leaves new writes c left;
      }

      pub append_found : recovered (with_bytes size lines file) ≡ s.stored ++ (s.loose ++ lines)
      append_found = ap recovered append_file ∙ recovered_file s.stored (s.loose ++ lines) rest s.stored_lines (lines_append s.loose lines s.loose_lines are)

      pub append_text : (text : List ℕ) → recovered file ≡ text → recovered (with_bytes size lines file) ≡ text ++ lines
      append_text text lines_are = append_found ∙ sym (append_assoc s.stored s.loose lines) ∙ ap (λ (l : List ℕ). l ++ lines) (sym text_is ∙ lines_are)

      pub append_stored : (stored text : List ℕ) → recovered file ≡ text → take st text ≡ stored → take st (text ++ lines) ≡ stored
      append_stored stored text lines_are stored_are =
          ap (λ (l : List ℕ). take st l) (sym (append_text text lines_are) ∙ append_found) ∙ take_at s.stored (s.loose ++ lines) st (sym s.stored_is)
          ∙ sym stored_is ∙ ap (λ (l : List ℕ). take st l) lines_are ∙ stored_are

  -- once all is stored
  pub sync_stands : (new : List ℕ → Type 0) → Only file new → Stands file new size size room
  sync_stands new only =
      let is : file ≡ s.stored ++ s.loose ++ [] ++ replicate room 0 = s.file_is ∙ ap (λ (l : List ℕ). l ++ replicate room 0) (sym (append-nil (s.stored ++ s.loose))) in
      record {
        stored = s.stored ++ s.loose;
        loose = [];
        file_is = is;
        stored_lines = lines_append s.stored s.loose s.stored_lines s.loose_lines;
        loose_lines = no_lines;
        stored_is = omega (arith, s.size_is, length-append s.stored s.loose);
        size_is = omega (arith, s.size_is, length-append s.stored s.loose);
        leaves_only = λ c left. ([], tt, only c left ∙ is);
      }

  pub sync_stored : (text : List ℕ) → recovered file ≡ text → take size text ≡ text
  sync_stored text lines_are = take_all size text (omega (arith, s.size_is, ap length (sym lines_are ∙ text_is), length-append s.stored s.loose))

-- A journal's file that is in order and checks itself: what it tells, and what adding, storing and beginning anew make of it.
use Rattle.std.proofs.Common.{◌≡◌, ◌≢◌, ◌⊎◌, inl, inr, ⊎_elim, ℕ, ◌+◌, ◌-◌, ◌^◌, ◌<◌, ◌≤◌, List, [], ◌∷◌, ◌++◌, length, take, drop, refl, sym, ◌∙◌, ap, subst, arith, append_assoc, length-append}
use Rattle.std.specs.Prelude.{Bool, true, false, bit_xor, ◌||◌}
use Rattle.std.specs.List.{concat}
use lib.ListN.{replicate}
use Rattle.std.proofs.lemmas.List.{append-nil, take_at}
use Rattle.keep_loop.specs.Device.{with_bytes, Writes, Only}
use Rattle.keep_loop.specs.Crc.{crc_more, crc_start, crc_of}
use Rattle.keep_loop.specs.Journal.{recovered, whole, AreLines, Begins, IsLoose, Stands}
use Rattle.keep_loop.specs.Order.{SayAtMost, Checks, Fills}
use Rattle.keep_loop.specs.Taken.{cut, has_check, has_front, plain, since, check_line, stored_word, IsRight, AreRight, IsChecked, ArePlain, told, taken, TellsBetween}
use Rattle.keep_loop.proofs.Lines.{found, begins_on, lines_append, no_lines}
use Rattle.keep_loop.proofs.Texts.{cut_append, concat_cut, concat_append, plain_append, plain_check, plain_none, front_stays, since_plain, since_check, right_append, right_plain}
use Rattle.keep_loop.proofs.CheckLines.{body, check_is, quiet_stored_body, lines_quiet, cut_line, crc_append, stored_is, stored_no_front, stored_is_check, at_most_append, at_most_more, at_most_plain, at_most_stored}
use Rattle.keep_loop.proofs.Told.{told_past, checked_more, leaves_tell}
use Rattle.keep_loop.proofs.KeptLines.{text_is, append_leaves, append_file, append_found}

-- lines as a file are themselves
pub lines_found : (text : List ℕ) → AreLines text → recovered text ≡ text
lines_found text are = ap recovered (sym (append-nil text)) ∙ found text [] are ∙ append-nil text

-- the check line of a round
module _ (stored crc : ℕ) (small : stored < 2 ^ 64) where
  abbrev pub round_line : List ℕ
  round_line = check_line stored_word stored crc

  pub round_lines : AreLines round_line
  round_lines = subst AreLines (sym (check_is stored_word stored crc)) (lines_quiet (body stored_word stored crc) (quiet_stored_body stored crc small))

  pub round_cut : cut round_line ≡ round_line ∷ []
  round_cut =
      ap cut (check_is stored_word stored crc) ∙ cut_line (body stored_word stored crc) [] (quiet_stored_body stored crc small)
      ∙ ap (λ (l : List ℕ). l ∷ []) (sym (check_is stored_word stored crc))

-- What a file tells behind lines that were written with their check line
module _ (text lines : List ℕ) (stored crc checks : ℕ) (bytes : List ℕ) (next left : ℕ) (are : AreLines text) (checked : IsChecked text) (add : ArePlain lines) (below : SayAtMost stored (cut text))
    (crc_is : crc ≡ crc_more crc_start (since (cut text))) (small : stored < 2 ^ 64) (here : stored ≤ length text) (fills : Fills lines stored crc checks bytes next left) where
  abbrev c : ℕ
  c = bit_xor (crc_more crc lines) 0xFFFFFFFF

  abbrev before : List (List ℕ)
  before = cut text ++ cut lines

  since_is : since before ≡ since (cut text) ++ lines
  since_is = since_plain (cut text) (cut lines) add.none ∙ ap (λ (l : List ℕ). since (cut text) ++ l) (concat_cut lines)

  crc_now : crc_more crc_start (since before) ≡ crc_more crc lines
  crc_now = ap (λ l. crc_more crc_start l) since_is ∙ crc_append crc_start (since (cut text)) lines ∙ ap (λ (n : ℕ). crc_more n lines) (sym crc_is)

  size_is : length (concat before) ≡ length text + length lines
  size_is = ap length (concat_append (cut text) (cut lines)) ∙ length-append (concat (cut text)) (concat (cut lines)) ∙ ap (λ (l : List ℕ). length l + length (concat (cut lines))) (concat_cut text)
      ∙ ap (λ (l : List ℕ). length text + length l) (concat_cut lines)

  round_right : IsRight before (round_line stored c small)
  round_right = record {
    front = λ is. absurd (let n = stored_no_front stored c in cc (is, n));
    stored = λ is. record {
      fronted = front_stays (cut text) (cut lines) checked.fronted;
      stored = stored;
      before_it = omega (arith, here, size_is);
      is = ap (λ (n : ℕ). check_line stored_word stored (bit_xor n 0xFFFFFFFF)) (sym crc_now);
    };
  }

  cuts : cut (text ++ bytes) ≡ before ++ cut fills.check
  cuts = ap (λ (l : List ℕ). cut (text ++ l)) fills.bytes_are ∙ cut_append text (lines ++ fills.check) are.ended ∙ ap (λ (l : List (List ℕ)). cut text ++ l) (cut_append lines fills.check add.are_lines.ended)
      ∙ sym (append_assoc (cut text) (cut lines) (cut fills.check))

  plain_lines : plain (cut lines) ≡ lines
  plain_lines = plain_none (cut lines) add.none ∙ concat_cut lines

  right_lines : AreRight [] before
  right_lines = right_append [] (cut text) (cut lines) checked.right (right_plain (cut text) (cut lines) add.none)

  below_lines : SayAtMost stored before
  below_lines = at_most_append stored (cut text) (cut lines) below (at_most_plain stored (cut lines) add.none)

  -- of these bytes all is so that is to be
  pub record Grown : Type 0 where
    pub are_lines : AreLines bytes
    pub right : AreRight [] (cut (text ++ bytes))
    pub say : SayAtMost stored (cut (text ++ bytes))
    pub crc_next : next ≡ crc_more crc_start (since (cut (text ++ bytes)))
    pub tells : told (text ++ bytes) ≡ told text ++ lines

  grown_bare : fills.check ≡ [] → next ≡ crc_more crc lines → Grown
  grown_bare none next_is =
      let bytes_is : bytes ≡ lines = fills.bytes_are ∙ ap (λ (l : List ℕ). lines ++ l) none ∙ append-nil lines in
      let cuts_is : cut (text ++ bytes) ≡ before = cuts ∙ ap (λ (l : List ℕ). before ++ cut l) none ∙ append-nil before in
      record {
        are_lines = subst AreLines (sym bytes_is) add.are_lines;
        right = subst (AreRight []) (sym cuts_is) right_lines;
        say = subst (SayAtMost stored) (sym cuts_is) below_lines;
        crc_next = next_is ∙ sym crc_now ∙ ap (λ l. crc_more crc_start (since l)) (sym cuts_is);
        tells = told_past text checked bytes are.ended ∙ ap (λ (l : List ℕ). told text ++ plain (cut l)) bytes_is ∙ ap (λ (l : List ℕ). told text ++ l) plain_lines;
      }

  grown_checked : fills.check ≡ round_line stored c small → next ≡ crc_start → Grown
  grown_checked is next_is =
      let line = round_line stored c small in
      let bytes_is : bytes ≡ lines ++ line = fills.bytes_are ∙ ap (λ (l : List ℕ). lines ++ l) is in
      let cuts_is : cut (text ++ bytes) ≡ before ++ line ∷ [] = cuts ∙ ap (λ (l : List ℕ). before ++ cut l) is ∙ ap (λ (l : List (List ℕ)). before ++ l) (round_cut stored c small) in
      let plain_line : plain (line ∷ []) ≡ [] = plain_check line [] (stored_is_check stored c) in
      let plain_bytes : plain (cut bytes) ≡ lines =
      ap (λ (l : List ℕ). plain (cut l)) bytes_is ∙ ap plain (cut_append lines line add.are_lines.ended) ∙ plain_append (cut lines) (cut line) ∙ ap (λ (l : List ℕ). l ++ plain (cut line)) plain_lines
      ∙ ap (λ (l : List (List ℕ)). lines ++ plain l) (round_cut stored c small) ∙ ap (λ (l : List ℕ). lines ++ l) plain_line ∙ append-nil lines in
      record {
        are_lines = subst AreLines (sym bytes_is) (lines_append lines line add.are_lines (round_lines stored c small));
        right = subst (AreRight []) (sym cuts_is) (right_append [] before (line ∷ []) right_lines (round_right, tt));
        say = subst (SayAtMost stored) (sym cuts_is) (at_most_append stored before (line ∷ []) below_lines (at_most_stored stored c small, tt));
        crc_next = next_is ∙ ap (λ (l : List ℕ). crc_more crc_start l) (sym (since_check before line (stored_is_check stored c)) ∙ ap since (sym cuts_is));
        tells = told_past text checked bytes are.ended ∙ ap (λ (l : List ℕ). told text ++ l) plain_bytes;
      }

  pub grown : Grown
  grown = ⊎_elim (λ h. grown_bare h.0 h.1) (λ h. grown_checked h.0 h.1) fills.is

module _ (file : List ℕ) (leaves : List ℕ → Type 0) (st size room crc : ℕ) (s : Stands file leaves st size room) (k : Checks file st crc) where
  -- what stands on the disk, and all
  pub disk_is : take st file ≡ s.stored
  disk_is = ap (λ (l : List ℕ). take st l) (s.file_is ∙ append_assoc s.stored s.loose (replicate room 0)) ∙ take_at s.stored (s.loose ++ replicate room 0) st (sym s.stored_is)

  abbrev all : List ℕ
  all = s.stored ++ s.loose

  all_lines : AreLines all
  all_lines = lines_append s.stored s.loose s.stored_lines s.loose_lines

  file_text : recovered file ≡ all
  file_text = text_is file leaves st size room s

  disk_checked : IsChecked s.stored
  disk_checked = subst IsChecked disk_is k.on_disk

  all_right : AreRight [] (cut all)
  all_right = subst (λ t. AreRight [] (cut t)) file_text k.right

  all_below : SayAtMost st (cut all)
  all_below = subst (λ t. SayAtMost st (cut t)) file_text k.below

  all_crc : crc ≡ crc_more crc_start (since (cut all))
  all_crc = k.crc_is ∙ ap (λ t. crc_more crc_start (since (cut t))) file_text

  all_checked : IsChecked all
  all_checked = checked_more s.stored disk_checked s.loose s.stored_lines.ended all_right

  tells_disk : taken (take st file) ≡ told s.stored
  tells_disk = ap taken disk_is ∙ ap told (lines_found s.stored s.stored_lines)

  tells_all : taken file ≡ told all
  tells_all = ap told file_text

  -- what is on the disk is the beginning of it
  pub told_begins : (stored text : List ℕ) → taken file ≡ text → taken (take st file) ≡ stored → Begins stored text
  told_begins stored text text_are stored_are = (
    plain (cut s.loose),
    sym text_are ∙ tells_all ∙ told_past s.stored disk_checked s.loose s.stored_lines.ended ∙ ap (λ (l : List ℕ). l ++ plain (cut s.loose)) (sym tells_disk ∙ stored_are),
  )

  -- a crash now leaves what is taken
  pub now_tells : (stored text : List ℕ) → taken file ≡ text → taken (take st file) ≡ stored → (c : List ℕ) → leaves c → TellsBetween stored text c
  now_tells stored text text_are stored_are c left =
      let from = s.leaves_only c left in
      let tells = leaves_tell s.stored s.loose from.0 room s.stored_lines from.1 disk_checked all_right (subst (λ n. SayAtMost n (cut all)) s.stored_is all_below) in
      subst (λ l. TellsBetween l text c) (sym tells_disk ∙ stored_are)
      (subst (λ l. TellsBetween (told s.stored) l c) (sym tells_all ∙ text_are) (subst (TellsBetween (told s.stored) (told all)) (sym from.2) tells))

  -- a journal whose lines are stored checks itself
  pub sync_checks : Checks file size crc
  sync_checks =
      let long : size ≡ length all = omega (arith, s.size_is, length-append s.stored s.loose) in
      let front : take size file ≡ all = ap (λ (l : List ℕ). take size l) s.file_is ∙ take_at all (replicate room 0) size (sym long) in
      record {
        on_disk = subst IsChecked (sym front) all_checked;
        right = k.right;
        below = at_most_more st size (cut (recovered file)) (omega (arith, s.stored_is, s.size_is)) k.below;
        crc_is = k.crc_is;
      }

  pub sync_tells : (text : List ℕ) → taken file ≡ text → taken (take size file) ≡ text
  sync_tells text text_are =
      let long : size ≡ length all = omega (arith, s.size_is, length-append s.stored s.loose) in
      let front : take size file ≡ all = ap (λ (l : List ℕ). take size l) s.file_is ∙ take_at all (replicate room 0) size (sym long) in
      ap taken front ∙ ap told (lines_found all all_lines) ∙ sym tells_all ∙ text_are

  module _ (lines : List ℕ) (checks : ℕ) (bytes : List ℕ) (next left : ℕ) (add : ArePlain lines) (small : st < 2 ^ 64) (fills : Fills lines st crc checks bytes next left) (fits : length bytes ≤ room) where
    abbrev more : Grown all lines st crc checks bytes next left all_lines all_checked add all_below all_crc small (omega (arith, s.stored_is, length-append s.stored s.loose)) fills
    more = grown all lines st crc checks bytes next left all_lines all_checked add all_below all_crc small (omega (arith, s.stored_is, length-append s.stored s.loose)) fills

    pub bytes_lines : AreLines bytes
    bytes_lines = more.are_lines

    turned : s.stored ++ (s.loose ++ bytes) ≡ all ++ bytes
    turned = sym (append_assoc s.stored s.loose bytes)

    -- what a crash leaves while lines are added is taken
    pub append_tells : (stored text : List ℕ) → taken file ≡ text → taken (take st file) ≡ stored → (new : List ℕ → Type 0) → Writes size bytes leaves new → (c : List ℕ) → new c →
        TellsBetween stored (text ++ lines) c
    append_tells stored text text_are stored_are new writes c left =
        let from = append_leaves file leaves st size room s bytes fits new writes c left in
        let tells = leaves_tell s.stored (s.loose ++ bytes) from.0 (room - length bytes) s.stored_lines from.1 disk_checked (subst (λ t. AreRight [] (cut t)) (sym turned) more.right)
        (subst (λ n. SayAtMost n (cut (s.stored ++ (s.loose ++ bytes)))) s.stored_is (subst (λ t. SayAtMost st (cut t)) (sym turned) more.say)) in
        let text_is : told (s.stored ++ (s.loose ++ bytes)) ≡ text ++ lines = ap told turned ∙ more.tells ∙ ap (λ (l : List ℕ). l ++ lines) (sym tells_all ∙ text_are) in
        subst (λ l. TellsBetween l (text ++ lines) c) (sym tells_disk ∙ stored_are)
        (subst (λ l. TellsBetween (told s.stored) l c) text_is (subst (TellsBetween (told s.stored) (told (s.stored ++ (s.loose ++ bytes)))) (sym from.2) tells))

    after_text : recovered (with_bytes size bytes file) ≡ all ++ bytes
    after_text = append_found file leaves st size room s bytes fits bytes_lines ∙ turned

    after_disk : take st (with_bytes size bytes file) ≡ s.stored
    after_disk =
        ap (λ (l : List ℕ). take st l) (append_file file leaves st size room s bytes fits ∙ append_assoc s.stored (s.loose ++ bytes) (replicate (room - length bytes) 0))
        ∙ take_at s.stored ((s.loose ++ bytes) ++ replicate (room - length bytes) 0) st (sym s.stored_is)

    pub append_checks : Checks (with_bytes size bytes file) st next
    append_checks = record {
      on_disk = subst IsChecked (sym after_disk) disk_checked;
      right = subst (λ t. AreRight [] (cut t)) (sym after_text) more.right;
      below = subst (λ t. SayAtMost st (cut t)) (sym after_text) more.say;
      crc_is = more.crc_next ∙ ap (λ t. crc_more crc_start (since (cut t))) (sym after_text);
    }

    pub append_told : (text : List ℕ) → taken file ≡ text → taken (with_bytes size bytes file) ≡ text ++ lines
    append_told text text_are = ap told after_text ∙ more.tells ∙ ap (λ (l : List ℕ). l ++ lines) (sym tells_all ∙ text_are)

    pub append_on_disk : (stored : List ℕ) → taken (take st file) ≡ stored → taken (take st (with_bytes size bytes file)) ≡ stored
    append_on_disk stored stored_are = ap taken (after_disk ∙ sym disk_is) ∙ stored_are

-- more may have been handed
pub between_told : (stored text more file : List ℕ) → TellsBetween stored text file → TellsBetween stored (text ++ more) file
between_told stored text more file is = record {
  is_taken = is.is_taken;
  between = record { all_stored = is.between.all_stored; nothing_else = begins_on (taken file) text (text ++ more) is.between.nothing_else (more, refl) };
}

-- what is written fits, and this room is left behind it
pub fills_fit : (lines : List ℕ) (stored crc checks : ℕ) (bytes : List ℕ) (next left room : ℕ) → Fills lines stored crc checks bytes next left → length lines ≤ room → length bytes ≤ room + checks
fills_fit lines stored crc checks bytes next left room f fits = omega (arith, fits, ap length f.bytes_are, length-append lines f.check, f.room)

pub fills_left : (lines : List ℕ) (stored crc checks : ℕ) (bytes : List ℕ) (next left room : ℕ) → Fills lines stored crc checks bytes next left → length lines ≤ room →
    (room + checks) - length bytes ≡ (room - length lines) + left
fills_left lines stored crc checks bytes next left room f fits = omega (arith, fits, ap length f.bytes_are, length-append lines f.check, f.room)

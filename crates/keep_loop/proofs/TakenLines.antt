-- What a file that is taken tells are lines.
use Rattle.std.proofs.Common.{◌≡◌, ◌≢◌, ◌⊎◌, inl, inr, ℕ, zero, suc, ◌+◌, ◌≤◌, List, [], ◌∷◌, ◌++◌, length, drop, refl, sym, ◌∙◌, ap, subst, arith, append_assoc}
use Rattle.std.specs.Prelude.{Bool, true, false, cond, codes, ◌||◌, ◌==◌}
use Rattle.std.proofs.lemmas.Bool.{cases_eq}
use Rattle.std.proofs.lemmas.Bool.Decides.{nat_tests}
use Rattle.keep_loop.specs.Journal.{has_end, whole, IsSolid, AreLines, recovered}
use Rattle.keep_loop.specs.Taken.{onto, cut, is_check, plain, format_words, Names, IsTaken, without_form, told, taken}
use Rattle.keep_loop.proofs.Lines.{bool_cases, whole_parts, whole_keeps, lines_append, no_lines, recovered_lines, solid_append}
use Rattle.keep_loop.proofs.Texts.{cut_end, cut_on, ended_some, plain_check, plain_other, one_append, head, behind}
use Rattle.keep_loop.proofs.Named.{one_format, begin, begin_one, named_parts, first, cut_first, first_names, names_more}
use Rattle.keep_loop.proofs.Heads.{names_begin, without_word}
use Rattle.keep_loop.proofs.FrontTold.{whole_behind, ends_behind, whole_in_front, solid_behind, solid_front}
use Rattle.keep_loop.proofs.Told.{named_plain}

-- each of these is a line, or some
abbrev AreEach : List (List ℕ) → Type 0
AreEach [] = Unit {0}
AreEach (line ∷ lines) = AreLines line × AreEach lines

line_more : (byte : ℕ) (line : List ℕ) → byte ≢ 0 → has_end line ≡ true → AreLines line → AreLines (byte ∷ line)
line_more byte line solid ends are =
    let there : has_end (byte ∷ line) ≡ true = grind (arith, nat_tests) in
    record { solid = (solid, are.solid); ended = whole_keeps byte line there ∙ ap (λ (l : List ℕ). byte ∷ l) are.ended }

-- a line that is cut off ends
cut_ends : (text : List ℕ) → has_end text ≡ true → (line : List ℕ) (more : List (List ℕ)) → cut text ≡ line ∷ more → has_end line ≡ true
cut_ends [] ends line more is = absurd (cc ends)
cut_ends (byte ∷ text) ends line more is = elim (cases_eq byte 10) [
  | inl ten ↦
      let line_is : line ≡ byte ∷ [] = cc (cut_end byte text ten, is) in
      let there : has_end (byte ∷ []) ≡ true = grind (arith, nat_tests) in
      ap has_end line_is ∙ there
  | inr other ↦
      let later : has_end text ≡ true = grind (arith, nat_tests) in
      let some = ended_some text later in
      let line_is : line ≡ byte ∷ some.0 = cc (sym is ∙ cut_on byte text other ∙ ap (λ (l : List (List ℕ)). onto byte l) some.2) in
      let here : has_end some.0 ≡ true = cut_ends text later some.0 some.1 some.2 in
      let there : has_end (byte ∷ some.0) ≡ true = grind (arith, nat_tests) in
      ap has_end line_is ∙ there
]

ends_whole : (byte : ℕ) → byte ≡ 10 → whole (byte ∷ []) ≡ byte ∷ []
ends_whole byte ten = let there : has_end (byte ∷ []) ≡ true = grind (arith, nat_tests) in whole_keeps byte [] there

pub each_cut : (text : List ℕ) → AreLines text → AreEach (cut text)
each_cut [] are = tt
each_cut (byte ∷ text) are =
    let parts = whole_parts byte text are.ended in
    let rest = each_cut text (record { solid = are.solid.1; ended = parts.1 }) in
    elim (cases_eq byte 10) [
      | inl ten ↦
          let one : AreLines (byte ∷ []) = record { solid = (are.solid.0, tt); ended = ends_whole byte ten } in
          subst AreEach (sym (cut_end byte text ten)) (one, rest)
      | inr other ↦
          let later : has_end text ≡ true = (let h = parts.0 in grind (arith, nat_tests)) in
          let some = ended_some text later in
          let each = subst AreEach some.2 rest in
          let line = line_more byte some.0 are.solid.0 (cut_ends text later some.0 some.1 some.2) each.0 in
          subst AreEach (sym (cut_on byte text other ∙ ap (λ (l : List (List ℕ)). onto byte l) some.2)) (line, each.1)
    ]

plain_lines : (lines : List (List ℕ)) → AreEach lines → AreLines (plain lines)
plain_lines [] each = no_lines
plain_lines (line ∷ lines) each = elim (bool_cases (is_check line)) [
  | inl is ↦ subst AreLines (sym (plain_check line lines is)) (plain_lines lines each.1)
  | inr other ↦ subst AreLines (sym (plain_other line lines other)) (lines_append line (plain lines) each.0 (plain_lines lines each.1))
]

without_parts : (text rest : List ℕ) → (names : Names text (format_words ++ rest)) → without_form 2 text ≡ begin text (format_words ++ rest) names ++ rest
without_parts text rest names =
    ap (λ (l : List ℕ). without_form 2 l) (names_begin text (format_words ++ rest) names) ∙ ap (λ (l : List ℕ). codes "object " ++ l) (without_word names.word (format_words ++ rest) names.is_word)
    ∙ ap (λ (l : List ℕ). codes "object " ++ l) (sym (append_assoc names.word (32 ∷ []) rest)) ∙ sym (append_assoc (codes "object ") (names.word ++ 32 ∷ []) rest)

without_end : (text rest : List ℕ) → (names : Names text (format_words ++ rest)) →
    whole ((begin text (format_words ++ rest) names ++ format_words) ++ rest) ≡ (begin text (format_words ++ rest) names ++ format_words) ++ rest → has_end rest ≡ true
without_end text rest names is =
    let b = begin text (format_words ++ rest) names in
    let ends : has_end ((b ++ format_words) ++ rest) ≡ true = (whole_parts 111 (((codes "bject " ++ (names.word ++ 32 ∷ [])) ++ format_words) ++ rest) is).0 in
    ends_behind (b ++ format_words) rest (one_append b format_words (begin_one text (format_words ++ rest) names) one_format) ends

-- without the words of the form lines are lines
without_lines : (text rest : List ℕ) → (names : Names text (format_words ++ rest)) → AreLines text → AreLines (without_form 2 text)
without_lines text rest names are =
    let b = begin text (format_words ++ rest) names in
    let parts = named_parts text (format_words ++ rest) names in
    let all : text ≡ (b ++ format_words) ++ rest = parts ∙ sym (append_assoc b format_words rest) in
    let solid = subst IsSolid all are.solid in
    let whole_is : whole ((b ++ format_words) ++ rest) ≡ (b ++ format_words) ++ rest = ap whole (sym all) ∙ are.ended ∙ all in
    let rest_whole = whole_behind (b ++ format_words) rest whole_is in
    let ends : has_end rest ≡ true = without_end text rest names whole_is in
    let is : without_form 2 text ≡ b ++ rest = without_parts text rest names in
    subst AreLines (sym is) (record {
      solid = solid_append b rest (solid_front b format_words (solid_front (b ++ format_words) rest solid)) (solid_behind (b ++ format_words) rest solid);
      ended = whole_in_front b rest ends rest_whole;
    })

pub taken_lines : (file : List ℕ) → IsTaken file → AreLines (taken file)
taken_lines file t =
    let text = recovered file in
    let c = t.checked in
    let line = first text c.rest c.names in
    let others = behind (cut c.rest) in
    let is : plain (cut text) ≡ line ++ plain others = ap plain (cut_first text c.rest c.names) ∙ plain_other line others (named_plain line (head (cut c.rest)) (first_names text c.rest c.names)) in
    let names = subst (λ (l : List ℕ). Names (line ++ plain others) l) (append_assoc format_words (head (cut c.rest)) (plain others))
    (names_more line (format_words ++ head (cut c.rest)) (first_names text c.rest c.names) (plain others)) in
    let are : AreLines (line ++ plain others) = subst AreLines is (plain_lines (cut text) (each_cut text (recovered_lines file))) in
    subst (λ (l : List ℕ). AreLines (without_form 2 l)) (sym is) (without_lines (line ++ plain others) (head (cut c.rest) ++ plain others) names are)

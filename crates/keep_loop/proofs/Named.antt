-- Line 1 of a text, which names an object.
use Rattle.std.proofs.Common.{◌≡◌, ◌≢◌, ℕ, zero, suc, ◌+◌, List, [], ◌∷◌, ◌++◌, refl, sym, ◌∙◌, ap, arith, rules, append_assoc}
use Rattle.std.specs.Prelude.{Bool, true, false, cond, codes, ◌==◌}
use Rattle.std.proofs.lemmas.Bool.Decides.{nat_tests}
use Rattle.keep_loop.specs.Journal.{IsSolid}
use Rattle.keep_loop.specs.Taken.{cut, format_words, IsWord, Names, with_form}
use Rattle.keep_loop.proofs.Texts.{IsOne, one_append, cut_onto, behind, head, onto_all_parts}

-- a word, and what stands behind it

pub one_word : (word : List ℕ) → IsWord word → IsOne word
one_word [] are = tt
one_word (byte ∷ word) are = (are.1, one_word word are.2)

pub form_word : (word rest : List ℕ) → IsWord word → with_form 1 (word ++ 32 ∷ rest) ≡ word ++ 32 ∷ (format_words ++ rest)
form_word [] rest are = refl
form_word (byte ∷ word) rest are =
    let apart : (byte == 32) ≡ false = (let h = are.0 in grind (arith, nat_tests)) in
    ap (λ b. byte ∷ with_form (cond b 0 1) (word ++ 32 ∷ rest)) apart ∙ ap (λ (l : List ℕ). byte ∷ l) (form_word word rest are.2)

pub solid_format : IsSolid format_words
solid_format = search (rules, arith)

pub one_format : IsOne format_words
one_format = search (rules, arith)

pub one_object : IsOne (codes "object ")
one_object = search (rules, arith)

module _ (text rest : List ℕ) (names : Names text rest) where
  abbrev pub begin : List ℕ
  begin = codes "object " ++ (names.word ++ 32 ∷ [])

  pub named_parts : text ≡ begin ++ rest
  named_parts = names.is ∙ append_assoc (codes "object ") names.word (32 ∷ rest) ∙ ap (λ (l : List ℕ). codes "object " ++ l) (sym (append_assoc names.word (32 ∷ []) rest)) ∙ sym (append_assoc (codes "object ") (names.word ++ 32 ∷ []) rest)

  pub form_parts : with_form 2 text ≡ begin ++ (format_words ++ rest)
  form_parts =
      ap (λ (l : List ℕ). with_form 2 l) (names.is ∙ append_assoc (codes "object ") names.word (32 ∷ rest)) ∙ ap (λ (l : List ℕ). codes "object " ++ l) (form_word names.word rest names.is_word)
      ∙ ap (λ (l : List ℕ). codes "object " ++ l) (sym (append_assoc names.word (32 ∷ []) (format_words ++ rest))) ∙ sym (append_assoc (codes "object ") (names.word ++ 32 ∷ []) (format_words ++ rest))

  pub begin_one : IsOne begin
  begin_one = one_append (codes "object ") (names.word ++ 32 ∷ []) one_object (one_append names.word (32 ∷ []) (one_word names.word names.is_word) (λ is. absurd (omega (arith, is)), tt))

  pub cut_text : cut text ≡ (begin ++ head (cut rest)) ∷ behind (cut rest)
  cut_text = ap cut named_parts ∙ cut_onto begin rest begin_one ∙ onto_all_parts 111 (codes "bject " ++ (names.word ++ 32 ∷ [])) (cut rest)

  -- the same, where more stands behind it
  pub names_more : (more : List ℕ) → Names (text ++ more) (rest ++ more)
  names_more more = record {
    word = names.word;
    is_word = names.is_word;
    some = names.some;
    is = ap (λ (l : List ℕ). l ++ more) names.is ∙ append_assoc (codes "object " ++ names.word) (32 ∷ rest) more;
  }

-- where the words of the form stand behind its name, they stand in line 1
module _ (text rest : List ℕ) (names : Names text (format_words ++ rest)) where
  abbrev pub first : List ℕ
  first = begin text (format_words ++ rest) names ++ (format_words ++ head (cut rest))

  pub cut_first : cut text ≡ first ∷ behind (cut rest)
  cut_first =
      let b = begin text (format_words ++ rest) names in
      let tail : cut (format_words ++ rest) ≡ (format_words ++ head (cut rest)) ∷ behind (cut rest) = cut_onto format_words rest one_format ∙ onto_all_parts 102 (codes "ormat 2 ") (cut rest) in
      cut_text text (format_words ++ rest) names ∙ ap (λ (l : List (List ℕ)). (b ++ head l) ∷ behind l) tail

  pub first_names : Names first (format_words ++ head (cut rest))
  first_names = record {
    word = names.word;
    is_word = names.is_word;
    some = names.some;
    is = append_assoc (codes "object ") (names.word ++ 32 ∷ []) (format_words ++ head (cut rest))
        ∙ ap (λ (l : List ℕ). codes "object " ++ l) (append_assoc names.word (32 ∷ []) (format_words ++ head (cut rest)))
        ∙ sym (append_assoc (codes "object ") names.word (32 ∷ (format_words ++ head (cut rest))));
  }

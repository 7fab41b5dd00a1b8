-- Texts as lines, each with its line feed; those by which a file checks itself, and the others.
use Rattle.std.proofs.Common.{◌≡◌, ◌≢◌, ◌⊎◌, inl, inr, ℕ, ◌+◌, ◌≤◌, List, [], ◌∷◌, ◌++◌, length, refl, sym, ◌∙◌, ap, subst, arith, append_assoc}
use Rattle.std.specs.Prelude.{Bool, true, false, cond, ◌||◌, ◌==◌}
use Rattle.std.specs.List.{concat}
use Rattle.std.proofs.lemmas.List.{append-nil}
use Rattle.std.proofs.lemmas.Bool.{cases_eq}
use Rattle.std.proofs.lemmas.Bool.Decides.{nat_tests}
use Rattle.keep_loop.specs.Journal.{has_end, whole}
use Rattle.keep_loop.specs.Taken.{begins_with, stored_word, onto, cut, is_check, is_front_line, has_check, has_front, plain, since, IsRight, AreRight}
use Rattle.keep_loop.proofs.Lines.{bool_cases, whole_parts}

-- lines of a text

pub cut_end : (byte : ℕ) (text : List ℕ) → byte ≡ 10 → cut (byte ∷ text) ≡ (byte ∷ []) ∷ cut text
cut_end byte text is = grind (arith, nat_tests)

pub cut_on : (byte : ℕ) (text : List ℕ) → byte ≢ 10 → cut (byte ∷ text) ≡ onto byte (cut text)
cut_on byte text other = grind (arith, nat_tests)

onto_some : (byte : ℕ) (lines : List (List ℕ)) → (line : List ℕ) × (more : List (List ℕ)) × (onto byte lines ≡ line ∷ more)
onto_some byte [] = (byte ∷ [], [], refl)
onto_some byte (line ∷ lines) = (byte ∷ line, lines, refl)

pub cut_some : (byte : ℕ) (text : List ℕ) → (line : List ℕ) × (more : List (List ℕ)) × (cut (byte ∷ text) ≡ line ∷ more)
cut_some byte text = elim (cases_eq byte 10) [
  | inl is ↦ (byte ∷ [], cut text, cut_end byte text is)
  | inr other ↦ let o = onto_some byte (cut text) in (o.0, o.1, cut_on byte text other ∙ o.2)
]

onto_append : (byte : ℕ) (line : List ℕ) (more lines : List (List ℕ)) → onto byte ((line ∷ more) ++ lines) ≡ onto byte (line ∷ more) ++ lines
onto_append byte line more lines = refl

pub ended_some : (text : List ℕ) → has_end text ≡ true → (line : List ℕ) × (more : List (List ℕ)) × (cut text ≡ line ∷ more)
ended_some [] ends = absurd (cc ends)
ended_some (byte ∷ text) ends = cut_some byte text

pub cut_append : (a b : List ℕ) → whole a ≡ a → cut (a ++ b) ≡ cut a ++ cut b
cut_append [] b is = refl
cut_append (byte ∷ a) b is =
    let parts = whole_parts byte a is in
    let later : cut (a ++ b) ≡ cut a ++ cut b = cut_append a b parts.1 in
    elim (cases_eq byte 10) [
      | inl ten ↦ cut_end byte (a ++ b) ten ∙ ap (λ (l : List (List ℕ)). (byte ∷ []) ∷ l) later ∙ ap (λ (l : List (List ℕ)). l ++ cut b) (sym (cut_end byte a ten))
      | inr other ↦
          let ends : has_end a ≡ true = (let h = parts.0 in grind (arith, nat_tests)) in
          let some = ended_some a ends in
          cut_on byte (a ++ b) other ∙ ap (λ (l : List (List ℕ)). onto byte l) (later ∙ ap (λ (l : List (List ℕ)). l ++ cut b) some.2)
          ∙ onto_append byte some.0 some.1 (cut b) ∙ ap (λ (l : List (List ℕ)). onto byte l ++ cut b) (sym some.2) ∙ ap (λ (l : List (List ℕ)). l ++ cut b) (sym (cut_on byte a other))
    ]

onto_concat : (byte : ℕ) (lines : List (List ℕ)) → concat (onto byte lines) ≡ byte ∷ concat lines
onto_concat byte [] = refl
onto_concat byte (line ∷ lines) = refl

pub concat_cut : (text : List ℕ) → concat (cut text) ≡ text
concat_cut [] = refl
concat_cut (byte ∷ text) = elim (cases_eq byte 10) [
  | inl ten ↦ ap concat (cut_end byte text ten) ∙ ap (λ (l : List ℕ). byte ∷ l) (concat_cut text)
  | inr other ↦ ap concat (cut_on byte text other) ∙ onto_concat byte (cut text) ∙ ap (λ (l : List ℕ). byte ∷ l) (concat_cut text)
]

pub concat_append : (a b : List (List ℕ)) → concat (a ++ b) ≡ concat a ++ concat b
concat_append [] b = refl
concat_append (line ∷ a) b = ap (λ (l : List ℕ). line ++ l) (concat_append a b) ∙ sym (append_assoc line (concat a) (concat b))

-- a text in front of the first of some lines
abbrev pub onto_all : List ℕ → List (List ℕ) → List (List ℕ)
onto_all [] lines = lines
onto_all (byte ∷ text) lines = onto byte (onto_all text lines)

-- no byte ends a line
abbrev pub IsOne : List ℕ → Type 0
IsOne [] = Unit {0}
IsOne (byte ∷ text) = (byte ≢ 10) × IsOne text

pub one_append : (a b : List ℕ) → IsOne a → IsOne b → IsOne (a ++ b)
one_append [] b one two = two
one_append (byte ∷ a) b one two = (one.0, one_append a b one.1 two)

pub cut_onto : (text more : List ℕ) → IsOne text → cut (text ++ more) ≡ onto_all text (cut more)
cut_onto [] more one = refl
cut_onto (byte ∷ text) more one = cut_on byte (text ++ more) one.0 ∙ ap (λ (l : List (List ℕ)). onto byte l) (cut_onto text more one.1)

-- the lines behind the first
abbrev pub behind : List (List ℕ) → List (List ℕ)
behind [] = []
behind (line ∷ lines) = lines

abbrev pub head : List (List ℕ) → List ℕ
head [] = []
head (line ∷ lines) = line

onto_parts : (byte : ℕ) (lines : List (List ℕ)) → onto byte lines ≡ (byte ∷ head lines) ∷ behind lines
onto_parts byte [] = refl
onto_parts byte (line ∷ lines) = refl

pub onto_all_parts : (byte : ℕ) (text : List ℕ) (lines : List (List ℕ)) → onto_all (byte ∷ text) lines ≡ ((byte ∷ text) ++ head lines) ∷ behind lines
onto_all_parts byte [] lines = onto_parts byte lines
onto_all_parts byte (next ∷ text) lines = ap (λ (l : List (List ℕ)). onto byte l) (onto_all_parts next text lines)

-- check lines

pub plain_check : (line : List ℕ) (lines : List (List ℕ)) → is_check line ≡ true → plain (line ∷ lines) ≡ plain lines
plain_check line lines is = ap (λ b. cond b (plain lines) (line ++ plain lines)) is

pub plain_other : (line : List ℕ) (lines : List (List ℕ)) → is_check line ≡ false → plain (line ∷ lines) ≡ line ++ plain lines
plain_other line lines is = ap (λ b. cond b (plain lines) (line ++ plain lines)) is

pub plain_append : (a b : List (List ℕ)) → plain (a ++ b) ≡ plain a ++ plain b
plain_append [] b = refl
plain_append (line ∷ a) b = elim (bool_cases (is_check line)) [
  | inl is ↦ plain_check line (a ++ b) is ∙ plain_append a b ∙ ap (λ (l : List ℕ). l ++ plain b) (sym (plain_check line a is))
  | inr other ↦
      plain_other line (a ++ b) other ∙ ap (λ (l : List ℕ). line ++ l) (plain_append a b) ∙ sym (append_assoc line (plain a) (plain b))
      ∙ ap (λ (l : List ℕ). l ++ plain b) (sym (plain_other line a other))
]

pub or_parts : (a b : Bool) → (a || b) ≡ false → (a ≡ false) × (b ≡ false)
or_parts true b is = absurd (cc is)
or_parts false b is = (refl, is)

or_assoc : (a b c : Bool) → (a || (b || c)) ≡ ((a || b) || c)
or_assoc true b c = refl
or_assoc false b c = refl

or_true : (b : Bool) → (b || true) ≡ true
or_true true = refl
or_true false = refl

pub has_check_append : (a b : List (List ℕ)) → has_check (a ++ b) ≡ (has_check a || has_check b)
has_check_append [] b = refl
has_check_append (line ∷ a) b = ap (λ h. is_check line || h) (has_check_append a b) ∙ or_assoc (is_check line) (has_check a) (has_check b)

pub has_front_append : (a b : List (List ℕ)) → has_front (a ++ b) ≡ (has_front a || has_front b)
has_front_append [] b = refl
has_front_append (line ∷ a) b = ap (λ h. is_front_line line || h) (has_front_append a b) ∙ or_assoc (is_front_line line) (has_front a) (has_front b)

pub front_stays : (a b : List (List ℕ)) → has_front a ≡ true → has_front (a ++ b) ≡ true
front_stays a b is = has_front_append a b ∙ ap (λ h. h || has_front b) is

pub plain_none : (lines : List (List ℕ)) → has_check lines ≡ false → plain lines ≡ concat lines
plain_none [] none = refl
plain_none (line ∷ lines) none =
    let parts = or_parts (is_check line) (has_check lines) none in
    plain_other line lines parts.0 ∙ ap (λ (l : List ℕ). line ++ l) (plain_none lines parts.1)

-- a line that is no check line ends no front
front_is_check : (line : List ℕ) → is_front_line line ≡ true → is_check line ≡ true
front_is_check line is = ap (λ b. b || begins_with stored_word line) is

-- what stands behind the last check line

since_some : (line : List ℕ) (lines : List (List ℕ)) → has_check (line ∷ lines) ≡ true → since (line ∷ lines) ≡ since lines
since_some line lines is = ap (λ b. cond b (since lines) (line ++ concat lines)) is

pub since_none : (lines : List (List ℕ)) → has_check lines ≡ false → since lines ≡ concat lines
since_none [] none = refl
since_none (line ∷ lines) none = ap (λ b. cond b (since lines) (line ++ concat lines)) none

pub since_plain : (a b : List (List ℕ)) → has_check b ≡ false → since (a ++ b) ≡ since a ++ concat b
since_plain [] b none = since_none b none
since_plain (line ∷ a) b none =
    let all : has_check ((line ∷ a) ++ b) ≡ (has_check (line ∷ a) || has_check b) = has_check_append (line ∷ a) b in
    elim (bool_cases (has_check (line ∷ a))) [
      | inl is ↦
          let there : has_check ((line ∷ a) ++ b) ≡ true = all ∙ ap (λ h. h || has_check b) is in
          since_some line (a ++ b) there ∙ since_plain a b none ∙ ap (λ (l : List ℕ). l ++ concat b) (sym (since_some line a is))
      | inr other ↦
          let there : has_check ((line ∷ a) ++ b) ≡ false = all ∙ ap (λ h. h || has_check b) other ∙ none in
          since_none ((line ∷ a) ++ b) there ∙ concat_append (line ∷ a) b ∙ ap (λ (l : List ℕ). l ++ concat b) (sym (since_none (line ∷ a) other))
    ]

pub since_check : (a : List (List ℕ)) (line : List ℕ) → is_check line ≡ true → since (a ++ line ∷ []) ≡ []
since_check [] line is = since_some line [] (ap (λ h. h || false) is)
since_check (first ∷ a) line is =
    let there : has_check ((first ∷ a) ++ line ∷ []) ≡ true = has_check_append (first ∷ a) (line ∷ []) ∙ ap (λ h. has_check (first ∷ a) || (h || false)) is ∙ or_true (has_check (first ∷ a)) in
    since_some first (a ++ line ∷ []) there ∙ since_check a line is

-- lines that are right

pub right_front : (before a b : List (List ℕ)) → AreRight before (a ++ b) → AreRight before a
right_front before [] b are = tt
right_front before (line ∷ a) b are = (are.0, right_front (before ++ line ∷ []) a b are.1)

pub right_append : (before a b : List (List ℕ)) → AreRight before a → AreRight (before ++ a) b → AreRight before (a ++ b)
right_append before [] b one two = subst (λ l. AreRight l b) (append-nil before) two
right_append before (line ∷ a) b one two =
    (one.0, right_append (before ++ line ∷ []) a b one.1 (subst (λ l. AreRight l b) (sym (append_assoc before (line ∷ []) a)) two))

right_plain_line : (before : List (List ℕ)) (line : List ℕ) → is_check line ≡ false → IsRight before line
right_plain_line before line none =
    let parts = or_parts (is_front_line line) (begins_with stored_word line) none in
    record { front = λ is. absurd (cc (is, parts.0)); stored = λ is. absurd (cc (is, parts.1)) }

pub right_plain : (before lines : List (List ℕ)) → has_check lines ≡ false → AreRight before lines
right_plain before [] none = tt
right_plain before (line ∷ lines) none =
    let parts = or_parts (is_check line) (has_check lines) none in
    (right_plain_line before line parts.0, right_plain (before ++ line ∷ []) lines parts.1)

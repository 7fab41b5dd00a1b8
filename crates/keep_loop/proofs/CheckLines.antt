-- Check lines: their bytes, and what is read of them.
use Rattle.std.proofs.Common.{◌≡◌, ◌≢◌, ◌⊎◌, inl, inr, ℕ, zero, suc, ◌+◌, ◌/◌, ◌%◌, ◌^◌, ◌<◌, ◌≤◌, List, [], ◌∷◌, ◌++◌, length, refl, sym, ◌∙◌, ap, subst, arith, rules, append_assoc}
use Rattle.std.specs.Prelude.{Bool, true, false, cond, ◌==◌, ◌||◌, codes, decimal, bit_xor}
use Rattle.std.proofs.lemmas.List.{append-nil}
use Rattle.std.proofs.lemmas.List.Elements.{All-head, All-tail}
use Rattle.std.proofs.lemmas.Bool.{cases_eq}
use Rattle.std.proofs.lemmas.Bool.Decides.{nat_tests}
use Rattle.std.proofs.lemmas.Fmt.{decimal_by_steps, decimal_injective}
use Rattle.keep_loop.specs.Crc.{crc_more}
use Rattle.keep_loop.specs.Journal.{IsSolid, AreLines, whole}
use Rattle.keep_loop.specs.Taken.{onto, begins_with, cut, is_check, is_front_line, has_check, hex_digit, hex_digits, check_line, front_word, stored_word, says_stored, IsWord, NoSpace}
use Rattle.keep_loop.specs.Order.{SaysAtMost, SayAtMost}
use Rattle.keep_loop.proofs.Quiet.{IsQuiet, line_ends, none_ends, whole_line}
use Rattle.keep_loop.proofs.Texts.{cut_end, cut_on}

-- CRCs

pub crc_append : (crc : ℕ) (a b : List ℕ) → crc_more crc (a ++ b) ≡ crc_more (crc_more crc a) b
crc_append crc [] b = refl
crc_append crc (byte ∷ a) b = crc_append (crc_more crc (byte ∷ [])) a b

-- bytes of check lines

-- a digit, or a letter
pub record IsMark (byte : ℕ) : Type 0 where
  pub above : 32 < byte

mark_apart : (byte : ℕ) → 32 < byte → (byte ≢ 0) × (byte ≢ 10) × (byte ≢ 32)
mark_apart byte above = (λ is. absurd (omega (arith, is, above)), λ is. absurd (omega (arith, is, above)), λ is. absurd (omega (arith, is, above)))

abbrev pub AreMarks : List ℕ → Type 0
AreMarks [] = Unit {0}
AreMarks (byte ∷ text) = (32 < byte) × AreMarks text

marks_append : (a b : List ℕ) → AreMarks a → AreMarks b → AreMarks (a ++ b)
marks_append [] b one two = two
marks_append (byte ∷ a) b one two = (one.0, marks_append a b one.1 two)

marks_decimal : (n : ℕ) → n < 2 ^ 64 → AreMarks (decimal n)
marks_decimal = decimal_by_steps (λ n ds. AreMarks ds) (λ n small. (omega arith, tt)) (λ n ds big before. marks_append ds ((48 + n % 10) ∷ []) before (omega arith, tt))

mark_digit : (n : ℕ) → 32 < hex_digit n
mark_digit n = elim (cases_eq (n / 10) 0) [
  | inl is ↦ grind (arith, nat_tests)
  | inr other ↦ grind (arith, nat_tests)
]

marks_hex : (places n : ℕ) → AreMarks (hex_digits places n)
marks_hex zero n = tt
marks_hex (suc places) n = marks_append (hex_digits places (n / 16)) (hex_digit (n % 16) ∷ []) (marks_hex places (n / 16)) (mark_digit (n % 16), tt)

pub marks_word : (text : List ℕ) → AreMarks text → IsWord text
marks_word [] marks = tt
marks_word (byte ∷ text) marks = let apart = mark_apart byte marks.0 in (apart.2, apart.1, marks_word text marks.1)

quiet_marks : (text : List ℕ) → AreMarks text → IsQuiet text
quiet_marks [] marks = tt
quiet_marks (byte ∷ text) marks = let apart = mark_apart byte marks.0 in (apart.0, apart.1, quiet_marks text marks.1)

pub quiet_append : (a b : List ℕ) → IsQuiet a → IsQuiet b → IsQuiet (a ++ b)
quiet_append [] b one two = two
quiet_append (byte ∷ a) b one two = (one.0, one.1, quiet_append a b one.2 two)

quiet_front : IsQuiet front_word
quiet_front = search (rules, arith)

quiet_stored : IsQuiet stored_word
quiet_stored = search (rules, arith)

quiet_space : (text : List ℕ) → IsQuiet text → IsQuiet (32 ∷ text)
quiet_space text quiet = (λ is. absurd (omega (arith, is)), λ is. absurd (omega (arith, is)), quiet)

-- what stands in a check line before its line feed
abbrev pub body : List ℕ → ℕ → ℕ → List ℕ
body word size crc = word ++ decimal size ++ 32 ∷ hex_digits 8 crc

pub check_is : (word : List ℕ) (size crc : ℕ) → check_line word size crc ≡ body word size crc ++ 10 ∷ []
unfolding check_line
check_is word size crc = sym (append_assoc (word ++ decimal size) (32 ∷ hex_digits 8 crc) (10 ∷ []))

quiet_body : (word : List ℕ) (size crc : ℕ) → IsQuiet word → size < 2 ^ 64 → IsQuiet (body word size crc)
quiet_body word size crc quiet small =
    quiet_append (word ++ decimal size) (32 ∷ hex_digits 8 crc) (quiet_append word (decimal size) quiet (quiet_marks (decimal size) (marks_decimal size small)))
    (quiet_space (hex_digits 8 crc) (quiet_marks (hex_digits 8 crc) (marks_hex 8 crc)))

pub quiet_stored_body : (size crc : ℕ) → size < 2 ^ 64 → IsQuiet (body stored_word size crc)
quiet_stored_body size crc small = quiet_body stored_word size crc quiet_stored small

pub quiet_front_body : (size crc : ℕ) → size < 2 ^ 64 → IsQuiet (body front_word size crc)
quiet_front_body size crc small = quiet_body front_word size crc quiet_front small

-- a line is cut off where its line feed stands
pub cut_line : (line more : List ℕ) → IsQuiet line → cut (line ++ 10 ∷ more) ≡ (line ++ 10 ∷ []) ∷ cut more
cut_line [] more quiet = cut_end 10 more refl
cut_line (byte ∷ line) more quiet = cut_on byte (line ++ 10 ∷ more) quiet.1 ∙ ap (λ (l : List (List ℕ)). onto byte l) (cut_line line more quiet.2)

solid_quiet : (text : List ℕ) → IsQuiet text → IsSolid (text ++ 10 ∷ [])
solid_quiet [] quiet = (λ is. absurd (omega (arith, is)), tt)
solid_quiet (byte ∷ text) quiet = (quiet.0, solid_quiet text quiet.2)

pub lines_quiet : (text : List ℕ) → IsQuiet text → AreLines (text ++ 10 ∷ [])
lines_quiet text quiet = record { solid = solid_quiet text quiet; ended = whole_line text [] quiet }

-- which words they have

pub front_is : (size crc : ℕ) → is_front_line (check_line front_word size crc) ≡ true
unfolding check_line
front_is size crc = refl

pub stored_is : (size crc : ℕ) → begins_with stored_word (check_line stored_word size crc) ≡ true
unfolding check_line
stored_is size crc = refl

pub stored_no_front : (size crc : ℕ) → is_front_line (check_line stored_word size crc) ≡ false
unfolding check_line
stored_no_front size crc = refl

pub front_no_stored : (size crc : ℕ) → begins_with stored_word (check_line front_word size crc) ≡ false
unfolding check_line
front_no_stored size crc = refl

pub stored_is_check : (size crc : ℕ) → is_check (check_line stored_word size crc) ≡ true
unfolding check_line
stored_is_check size crc = refl

pub front_is_check : (size crc : ℕ) → is_check (check_line front_word size crc) ≡ true
unfolding check_line
front_is_check size crc = refl

-- no byte is a space
abbrev AreApart : List ℕ → Type 0
AreApart [] = Unit {0}
AreApart (byte ∷ text) = (byte ≢ 32) × AreApart text

apart_word : (text : List ℕ) → IsWord text → AreApart text
apart_word [] are = tt
apart_word (byte ∷ text) are = (are.0, apart_word text are.2)

apart_none : (text : List ℕ) → NoSpace text → AreApart text
apart_none [] none = tt
apart_none (byte ∷ text) none =
    let here : (byte == 32) ≡ false = All-head (λ b. (b == 32) ≡ false) byte text none in
    (λ is. absurd (grind (arith, nat_tests)), apart_none text (All-tail (λ b. (b == 32) ≡ false) byte text none))

-- what ends where its space stands
parts_apart : (a b x y : List ℕ) → AreApart a → AreApart b → a ++ 32 ∷ x ≡ b ++ 32 ∷ y → a ≡ b
parts_apart [] [] x y one two is = refl
parts_apart [] (byte ∷ b) x y one two is = absurd (two.0 (sym (cc is)))
parts_apart (byte ∷ a) [] x y one two is = absurd (one.0 (cc is))
parts_apart (byte ∷ a) (c ∷ b) x y one two is =
    let later : a ≡ b = parts_apart a b x y one.1 two.1 (cc is) in
    let same : byte ≡ c = cc is in
    ap (λ (n : ℕ). n ∷ a) same ∙ ap (λ (l : List ℕ). c ∷ l) later

pub word_apart : (a b x y : List ℕ) → IsWord a → IsWord b → a ++ 32 ∷ x ≡ b ++ 32 ∷ y → a ≡ b
word_apart a b x y one two is = parts_apart a b x y (apart_word a one) (apart_word b two) is

pub space_word : (w x y word : List ℕ) → NoSpace w → IsWord word → w ++ 32 ∷ x ≡ word ++ 32 ∷ y → w ≡ word
space_word w x y word none are is = parts_apart w word x y (apart_none w none) (apart_word word are) is

-- the number at the beginning of a text
pub number_apart : (digits x rest : List ℕ) (size : ℕ) → size < 2 ^ 64 → NoSpace digits → digits ++ 32 ∷ x ≡ decimal size ++ 32 ∷ rest → digits ≡ decimal size
number_apart digits x rest size small none is = parts_apart digits (decimal size) x rest (apart_none digits none) (apart_word (decimal size) (marks_word (decimal size) (marks_decimal size small))) is

no_space_in : (a rest : List ℕ) → AreApart (a ++ 32 ∷ rest) → ⊥
no_space_in [] rest are = are.0 refl
no_space_in (byte ∷ a) rest are = no_space_in a rest are.1

pub number_some : (a rest : List ℕ) → NoSpace (a ++ 32 ∷ rest) → ⊥
number_some a rest none = no_space_in a rest (apart_none (a ++ 32 ∷ rest) none)

pub cancel : (a x y : List ℕ) → a ++ x ≡ a ++ y → x ≡ y
cancel [] x y is = is
cancel (byte ∷ a) x y is = cancel a x y (cc is)

pub word_decimal : (n : ℕ) → n < 2 ^ 64 → IsWord (decimal n)
word_decimal n small = marks_word (decimal n) (marks_decimal n small)

-- a line that says one number says no other
pub same_size : (m n : ℕ) (x y : List ℕ) → m < 2 ^ 64 → n < 2 ^ 64 → says_stored m x ≡ says_stored n y → m ≡ n
same_size m n x y one two is =
    let tail : decimal m ++ 32 ∷ x ≡ decimal n ++ 32 ∷ y = cancel stored_word _ _ (sym (append_assoc stored_word (decimal m) (32 ∷ x)) ∙ is ∙ append_assoc stored_word (decimal n) (32 ∷ y)) in
    decimal_injective m n one two (word_apart (decimal m) (decimal n) x y (word_decimal m one) (word_decimal n two) tail)

says_is : (size : ℕ) (rest : List ℕ) → begins_with stored_word (says_stored size rest) ≡ true
says_is size rest = refl

says_is_check : (size : ℕ) (rest : List ℕ) → is_check (says_stored size rest) ≡ true
says_is_check size rest = refl

-- such a line before its number ends
pub quiet_says : (size : ℕ) → size < 2 ^ 64 → IsQuiet (says_stored size [])
quiet_says size small =
    quiet_append (stored_word ++ decimal size) (32 ∷ []) (quiet_append stored_word (decimal size) quiet_stored (quiet_marks (decimal size) (marks_decimal size small))) (quiet_space [] tt)

-- what lines say was stored

pub at_most_append : (most : ℕ) (a b : List (List ℕ)) → SayAtMost most a → SayAtMost most b → SayAtMost most (a ++ b)
at_most_append most [] b one two = two
at_most_append most (line ∷ a) b one two = (one.0, at_most_append most a b one.1 two)

pub at_most_at : (most : ℕ) (a b : List (List ℕ)) (line : List ℕ) → SayAtMost most (a ++ line ∷ b) → SaysAtMost most line
at_most_at most [] b line say = say.0
at_most_at most (first ∷ a) b line say = at_most_at most a b line say.1

pub at_most_more : (most more : ℕ) (lines : List (List ℕ)) → most ≤ more → SayAtMost most lines → SayAtMost more lines
at_most_more most more [] le say = tt
at_most_more most more (line ∷ lines) le say = (λ size rest small is. omega (arith, le, say.0 size rest small is), at_most_more most more lines le say.1)

or_first : (a b : Bool) → (a || b) ≡ false → (a ≡ false) × (b ≡ false)
or_first true b is = absurd (cc is)
or_first false b is = (refl, is)

pub at_most_plain : (most : ℕ) (lines : List (List ℕ)) → has_check lines ≡ false → SayAtMost most lines
at_most_plain most [] none = tt
at_most_plain most (line ∷ lines) none =
    let parts = or_first (is_check line) (has_check lines) none in
    (λ size rest small is. absurd (let h = ap is_check is ∙ says_is_check size rest in let n = parts.0 in cc (h, n)), at_most_plain most lines parts.1)

pub at_most_front : (most size crc : ℕ) → SaysAtMost most (check_line front_word size crc)
at_most_front most size crc n rest small is =
    absurd (let one = front_no_stored size crc in let two = ap (λ l. begins_with stored_word l) is ∙ says_is n rest in cc (one, two))

pub at_most_stored : (most crc : ℕ) → most < 2 ^ 64 → SaysAtMost most (check_line stored_word most crc)
unfolding check_line
at_most_stored most crc small n rest other is = omega (arith, same_size most n (hex_digits 8 crc ++ 10 ∷ []) rest small other is)

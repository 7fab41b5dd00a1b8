-- The format that line 1 tells.
use Rattle.std.proofs.Common.{◌≡◌, inl, inr, ℕ, ◌+◌, ◌^◌, ◌<◌, List, ◌∷◌, ◌++◌, sym, ◌∙◌, ap, subst, arith, append_assoc}
use Rattle.std.specs.Prelude.{Bool, true, false, Option, Some, None, MatchOption, Result, Ok, Err, IfOk, codes, decimal}
use Rattle.std.proofs.lemmas.Fmt.{decimal_injective}
use Rattle.keep_loop.specs.Taken.{begins_with, spelled, Names, Spells, SpellsNone}
use Rattle.keep_loop.proofs.CheckLines.{cancel, word_apart, word_decimal}
use Rattle.keep_loop.proofs.Heads.{names_one}
use Rattle.taken_core.specs.TakeFile.{Tests}

-- what a test has told
pub sure : (P : Type 0) (b : Bool) → b ≡ true → Tests b P → P
sure P true is t = t
sure P false is t = absurd (cc is)

pub unsure : (P : Type 0) (b : Bool) → b ≡ false → Tests b P → P → ⊥
unsure P true is t = absurd (cc is)
unsure P false is t = t

-- one text spells one number
pub spelled_same : (word : List ℕ) (m n : ℕ) (x y : List ℕ) → m < 2 ^ 64 → n < 2 ^ 64 → spelled word m x ≡ spelled word n y → m ≡ n
spelled_same word m n x y one two is =
    let tail : decimal m ++ 32 ∷ x ≡ decimal n ++ 32 ∷ y = cancel word _ _ (sym (append_assoc word (decimal m) (32 ∷ x)) ∙ is ∙ append_assoc word (decimal n) (32 ∷ y)) in
    decimal_injective m n one two (word_apart (decimal m) (decimal n) x y (word_decimal m one) (word_decimal n two) tail)

-- a number that is read
abbrev pub Reads : List ℕ → List ℕ → Option ℕ → Type 0
Reads word text found = (n : ℕ) (rest : List ℕ) → n < 2 ^ 64 → text ≡ word ++ (decimal n ++ 32 ∷ rest) → found ≡ Some n

pub none_spelled : (word text : List ℕ) (found : Option ℕ) → Reads word text found → found ≡ None → (n : ℕ) (more : List ℕ) → n < 2 ^ 64 → text ≡ spelled word n more → ⊥
none_spelled word text found reads none n more small is =
    let some : found ≡ Some n = reads n more small (is ∙ append_assoc word (decimal n) (32 ∷ more)) in absurd (cc (none, some))

pub other_spelled : (word text : List ℕ) (found : Option ℕ) (size : ℕ) → Reads word text found → found ≡ Some size → ((more : List ℕ) × (text ≡ spelled word size more) → ⊥) →
    (n : ℕ) (more : List ℕ) → n < 2 ^ 64 → text ≡ spelled word n more → ⊥
other_spelled word text found size reads known not n more small is =
    let some : found ≡ Some n = reads n more small (is ∙ append_assoc word (decimal n) (32 ∷ more)) in
    let same : n ≡ size = cc (known, some) in
    not (more, is ∙ ap (λ (k : ℕ). spelled word k more) same)

-- what is spelled behind the word of a format
pub few_spelled : (rest more : List ℕ) (size : ℕ) → begins_with (codes "format ") rest ≡ true → size < 2 → rest ≡ spelled (codes "format ") size more → SpellsNone rest
few_spelled rest more size begins few is format (inl s) = let not = s.1 in absurd (cc (begins, not))
few_spelled rest more size begins few is format (inr s) =
    let same : format ≡ size = spelled_same (codes "format ") format size s.2 more s.1 (omega (arith, few)) (sym s.3 ∙ is) in
    let two = s.0 in absurd (omega (arith, few, same, two))

pub nothing_spelled : (rest : List ℕ) → begins_with (codes "format ") rest ≡ true → ((n : ℕ) (more : List ℕ) → n < 2 ^ 64 → rest ≡ spelled (codes "format ") n more → ⊥) → SpellsNone rest
nothing_spelled rest begins none format (inl s) = let not = s.1 in absurd (cc (begins, not))
nothing_spelled rest begins none format (inr s) = none format s.2 s.1 s.3

-- what line 1 tells
pub names_told : (text behind : List ℕ) (found : Option ℕ) → Names text behind → MatchOption found (SpellsNone behind) (Spells behind) →
    MatchOption found ((rest : List ℕ) → Names text rest → SpellsNone rest) (λ format. (rest : List ℕ) × Names text rest × Spells rest format)
names_told text behind None names none = λ rest other. subst SpellsNone (names_one text behind rest names other).1 none
names_told text behind (Some format) names some = (behind, names, some)

pub names_told_ok : {E : Type 0} (r : Result (Option ℕ) E) (text behind : List ℕ) → Names text behind → IfOk r (λ found. MatchOption found (SpellsNone behind) (Spells behind)) →
    IfOk r (λ found. MatchOption found ((rest : List ℕ) → Names text rest → SpellsNone rest) (λ format. (rest : List ℕ) × Names text rest × Spells rest format))
names_told_ok (Ok found) text behind names is = names_told text behind found names is
names_told_ok (Err e) text behind names is = tt

pub few_found : (rest : List ℕ) (found : Option ℕ) (format : ℕ) → begins_with (codes "format ") rest ≡ true →
    MatchOption found ((size : ℕ) (more : List ℕ) → size < 2 ^ 64 → rest ≡ spelled (codes "format ") size more → ⊥) (λ size. (size < 2 ^ 64) × (more : List ℕ) × (rest ≡ spelled (codes "format ") size more)) →
    found ≡ Some format → format < 2 → SpellsNone rest
few_found rest None format begins told is few = absurd (cc is)
few_found rest (Some size) format begins told is few = let same : size ≡ format = cc is in few_spelled rest told.1 size begins (omega (arith, same, few)) told.2

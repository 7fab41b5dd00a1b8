-- What is read at the beginning of a text.
use Rattle.std.proofs.Common.{◌≡◌, ◌≢◌, ◌⊎◌, inl, inr, ℕ, zero, suc, ◌+◌, ◌-◌, ◌<◌, ◌≤◌, ◌^◌, List, [], ◌∷◌, ◌++◌, length, take, drop, refl, sym, ◌∙◌, ap, subst, arith, append_assoc, length-append, length-drop, eqb-true}
use Rattle.std.specs.Prelude.{Bool, true, false, cond, codes, decimal, All, min, Option, Some, None, MatchOption, Result, Ok, Err, IfOk, Vec, ◌==◌, ◌&&◌}
use Rattle.std.specs.declared.alloc.Global.{Global}
use Rattle.std.proofs.lemmas.List.{take_all}
use Rattle.std.proofs.lemmas.List.Elements.{All-head, All-tail}
use Rattle.std.proofs.lemmas.Bool.Decides.{nat_tests}
use Rattle.keep_loop.specs.Texts.{NoLineFeed}
use Rattle.keep_loop.specs.Taken.{begins_with, spelled, IsWord, Names, NoSpace, named, Spells, SpellsNone, format_words, with_form, without_form}
use Rattle.keep_loop.proofs.CheckLines.{word_apart, number_some, space_word, cancel}
use Rattle.keep_loop.proofs.Named.{form_word}

and_parts : (a b : Bool) → (a && b) ≡ true → (a ≡ true) × (b ≡ true)
and_parts true b is = (refl, is)
and_parts false b is = absurd (cc is)

same_test : (n : ℕ) → (n == n) ≡ true
same_test n = grind (arith, nat_tests)

-- a text that begins with a word
pub begins_is : (word text : List ℕ) → begins_with word text ≡ true → text ≡ word ++ drop (length word) text
begins_is [] text is = refl
begins_is (w ∷ word) [] is = absurd (cc is)
begins_is (w ∷ word) (byte ∷ text) is =
    let parts = and_parts (w == byte) (begins_with word text) is in
    let same : w ≡ byte = eqb-true w byte parts.0 in
    ap (λ (b : ℕ). b ∷ text) (sym same) ∙ ap (λ (l : List ℕ). w ∷ l) (begins_is word text parts.1)

pub begins_of : (word rest : List ℕ) → begins_with word (word ++ rest) ≡ true
begins_of [] rest = refl
begins_of (w ∷ word) rest = ap (λ b. b && begins_with word (word ++ rest)) (same_test w) ∙ begins_of word rest

pub begins_not : (word text rest : List ℕ) → begins_with word text ≡ false → text ≡ word ++ rest → ⊥
begins_not word text rest not is = let h : begins_with word text ≡ true = ap (λ (t : List ℕ). begins_with word t) is ∙ begins_of word rest in cc (not, h)

pub short_not : (word text rest : List ℕ) → length text < length word → text ≡ word ++ rest → ⊥
short_not word text rest short is = omega (arith, short, ap length is, length-append word rest)

pub behind_is : (word text : List ℕ) → begins_with word text ≡ true → text ≡ word ++ take (length text - length word) (drop (length word) text)
behind_is word text is =
    begins_is word text is ∙ ap (λ (l : List ℕ). word ++ l) (sym (take_all (length text - length word) (drop (length word) text) (omega (arith, length-drop (length word) text))))

-- a spelling is read
pub spelled_is : (word text : List ℕ) (size : ℕ) (expected : List ℕ) → expected ≡ ((word ++ decimal size) ++ 32 ∷ []) → begins_with expected text ≡ true → (more : List ℕ) × (text ≡ spelled word size more)
spelled_is word text size expected is begins =
    let at = begins_is expected text begins in
    (drop (length expected) text, at ∙ ap (λ (l : List ℕ). l ++ drop (length expected) text) is ∙ append_assoc (word ++ decimal size) (32 ∷ []) (drop (length expected) text))

pub spelled_not : (word text : List ℕ) (size : ℕ) (expected more : List ℕ) → expected ≡ ((word ++ decimal size) ++ 32 ∷ []) → begins_with expected text ≡ false → text ≡ spelled word size more → ⊥
spelled_not word text size expected more is begins text_is =
    let at : text ≡ expected ++ more = text_is ∙ sym (append_assoc (word ++ decimal size) (32 ∷ []) more) ∙ ap (λ (l : List ℕ). l ++ more) (sym is) in
    begins_not expected text more begins at

-- the word before the first space

word_none : (word : List ℕ) → NoSpace word → NoLineFeed word → IsWord word
word_none [] one two = tt
word_none (byte ∷ word) one two =
    let space : (byte == 32) ≡ false = All-head (λ b. (b == 32) ≡ false) byte word one in
    let feed : (byte == 10) ≡ false = All-head (λ b. (b == 10) ≡ false) byte word two in (
      λ is. absurd (grind (arith, nat_tests)),
      λ is. absurd (grind (arith, nat_tests)),
      word_none word (All-tail (λ b. (b == 32) ≡ false) byte word one) (All-tail (λ b. (b == 10) ≡ false) byte word two),
    )

no_feed : (a b : List ℕ) → IsWord (a ++ 10 ∷ b) → ⊥
no_feed [] b are = are.1 refl
no_feed (byte ∷ a) b are = no_feed a b are.2

pub word_is : (word rest : List ℕ) → NoSpace word → NoLineFeed word → 0 < length word → IsWord word × (word ≢ [])
word_is word rest one two some = (word_none word one two, λ is. absurd (omega (arith, some, ap length is)))

pub no_word_none : (text word rest : List ℕ) → NoSpace text → text ≡ word ++ 32 ∷ rest → ⊥
no_word_none text word rest none is = number_some word rest (subst NoSpace is none)

pub no_word_feed : (text w x a b word rest : List ℕ) → NoSpace w → text ≡ w ++ 32 ∷ x → w ≡ a ++ 10 ∷ b → IsWord word → text ≡ word ++ 32 ∷ rest → ⊥
no_word_feed text w x a b word rest none one feed are two =
    no_feed a b (subst IsWord (sym (space_word w x rest word none are (sym one ∙ two)) ∙ feed) are)

pub no_word_empty : (text w x word rest : List ℕ) → NoSpace w → text ≡ w ++ 32 ∷ x → length w ≡ 0 → IsWord word → word ≢ [] → text ≡ word ++ 32 ∷ rest → ⊥
no_word_empty text [] x word rest none one empty are some two = some (sym (space_word [] x rest word none are (sym one ∙ two)))
no_word_empty text (byte ∷ w) x word rest none one empty are some two = absurd (omega (arith, empty))

-- what names an object

pub names_begin : (text rest : List ℕ) → (n : Names text rest) → text ≡ codes "object " ++ (n.word ++ 32 ∷ rest)
names_begin text rest n = n.is ∙ append_assoc (codes "object ") n.word (32 ∷ rest)

-- two names of one text are one
pub names_one : (text x y : List ℕ) → (n : Names text x) → (m : Names text y) → (n.word ≡ m.word) × (x ≡ y)
names_one text x y n m =
    let tails : n.word ++ 32 ∷ x ≡ m.word ++ 32 ∷ y = cancel (codes "object ") _ _ (sym (names_begin text x n) ∙ names_begin text y m) in
    let words : n.word ≡ m.word = word_apart n.word m.word x y n.is_word m.is_word tails in
    (words, tail_one n.word m.word x y words tails)
  where
    tail_one : (a b x y : List ℕ) → a ≡ b → a ++ 32 ∷ x ≡ b ++ 32 ∷ y → x ≡ y
    tail_one a b x y same is = cc (cancel b (32 ∷ x) (32 ∷ y) (ap (λ (l : List ℕ). l ++ 32 ∷ x) (sym same) ∙ is))

abbrev pub names_of : (text tail word rest : List ℕ) → text ≡ codes "object " ++ tail → tail ≡ word ++ 32 ∷ rest → IsWord word → word ≢ [] → Names text rest
names_of text tail word rest is word_at are some = record {
  word = word;
  is_word = are;
  some = some;
  is = is ∙ ap (λ (l : List ℕ). codes "object " ++ l) word_at ∙ sym (append_assoc (codes "object ") word (32 ∷ rest));
}

-- a text without the form, up to a space
pub without_space : (spaces : ℕ) (word rest : List ℕ) → NoSpace word → without_form (suc spaces) (word ++ 32 ∷ rest) ≡ word ++ 32 ∷ without_form spaces rest
without_space spaces [] rest none = refl
without_space spaces (byte ∷ word) rest none =
    let apart : (byte == 32) ≡ false = All-head (λ b. (b == 32) ≡ false) byte word none in
    ap (λ b. byte ∷ without_form (cond b spaces (suc spaces)) (word ++ 32 ∷ rest)) apart ∙ ap (λ (l : List ℕ). byte ∷ l) (without_space spaces word rest (All-tail (λ b. (b == 32) ≡ false) byte word none))

pub without_all : (spaces : ℕ) (text : List ℕ) → NoSpace text → without_form (suc spaces) text ≡ text
without_all spaces [] none = refl
without_all spaces (byte ∷ text) none =
    let apart : (byte == 32) ≡ false = All-head (λ b. (b == 32) ≡ false) byte text none in
    ap (λ b. byte ∷ without_form (cond b spaces (suc spaces)) text) apart ∙ ap (λ (l : List ℕ). byte ∷ l) (without_all spaces text (All-tail (λ b. (b == 32) ≡ false) byte text none))

pub without_word : (word rest : List ℕ) → IsWord word → without_form 1 (word ++ 32 ∷ rest) ≡ word ++ 32 ∷ drop 9 rest
without_word [] rest are = refl
without_word (byte ∷ word) rest are =
    let apart : (byte == 32) ≡ false = (let h = are.0 in grind (arith, nat_tests)) in
    ap (λ b. byte ∷ without_form (cond b 0 1) (word ++ 32 ∷ rest)) apart ∙ ap (λ (l : List ℕ). byte ∷ l) (without_word word rest are.2)

-- with the form
pub form_named : (text rest : List ℕ) → (n : Names text rest) → with_form 2 text ≡ named n.word (format_words ++ rest)
form_named text rest n =
    ap (λ (l : List ℕ). with_form 2 l) (names_begin text rest n) ∙ ap (λ (l : List ℕ). codes "object " ++ l) (form_word n.word rest n.is_word)
    ∙ sym (append_assoc (codes "object ") n.word (32 ∷ (format_words ++ rest)))

-- nine bytes fewer, or all
min_none : (n : ℕ) → min n 0 ≡ 0
min_none n = omega arith

min_more : (n k : ℕ) → min (suc n) (suc k) ≡ suc (min n k)
min_more n k = omega arith

drop_min : (n : ℕ) (l : List ℕ) → drop (min (length l) n) l ≡ drop n l
drop_min zero l = ap (λ (k : ℕ). drop k l) (min_none (length l))
drop_min (suc n) [] = let none : min 0 (suc n) ≡ 0 = omega arith in ap (λ (k : ℕ). drop k []) none
drop_min (suc n) (x ∷ l) = ap (λ (k : ℕ). drop k (x ∷ l)) (min_more (length l) n) ∙ drop_min n l

pub drop_nine : (rest : List ℕ) → drop (min (length rest) 9) rest ≡ drop 9 rest
drop_nine rest = drop_min 9 rest

-- what is written of a front with its form
pub named_form : {E : Type 0} (r : Result (Vec ℕ Global) E) (front word rest behind : List ℕ) → (n : Names front rest) → n.word ≡ word → behind ≡ format_words ++ rest →
    IfOk r (λ t. t.items ≡ named word behind) → IfOk r (λ t. t.items ≡ with_form 2 front)
named_form (Ok text) front word rest behind n same is made =
    made ∙ ap (λ (l : List ℕ). named word l) is ∙ ap (λ (l : List ℕ). named l (format_words ++ rest)) (sym same) ∙ sym (form_named front rest n)
named_form (Err e) front word rest behind n same is made = tt

-- a text without its form, put together
pub without_joined : {E : Type 0} (r : Result (Vec ℕ Global) E) (text first rest second more : List ℕ) → NoSpace first → text ≡ first ++ 32 ∷ rest → NoSpace second → rest ≡ second ++ 32 ∷ more →
    IfOk r (λ t. t.items ≡ (((first ++ 32 ∷ []) ++ second) ++ 32 ∷ []) ++ drop 9 more) → IfOk r (λ t. t.items ≡ without_form 2 text)
without_joined (Ok t) text first rest second more one is two rest_is made =
    let whole : without_form 2 text ≡ first ++ 32 ∷ (second ++ 32 ∷ drop 9 more) =
    ap (λ (l : List ℕ). without_form 2 l) is ∙ without_space 1 first rest one ∙ ap (λ (l : List ℕ). first ++ 32 ∷ without_form 1 l) rest_is ∙ ap (λ (l : List ℕ). first ++ 32 ∷ l) (without_space 0 second more two) in
    made ∙ append_assoc ((first ++ 32 ∷ []) ++ second) (32 ∷ []) (drop 9 more) ∙ append_assoc (first ++ 32 ∷ []) second (32 ∷ drop 9 more) ∙ append_assoc first (32 ∷ []) (second ++ 32 ∷ drop 9 more) ∙ sym whole
without_joined (Err e) text first rest second more one is two rest_is made = tt

pub without_second : (text first rest : List ℕ) → NoSpace first → text ≡ first ++ 32 ∷ rest → NoSpace rest → text ≡ without_form 2 text
without_second text first rest one is none =
    sym (ap (λ (l : List ℕ). without_form 2 l) is ∙ without_space 1 first rest one ∙ ap (λ (l : List ℕ). first ++ 32 ∷ l) (without_all 0 rest none) ∙ sym is)

pub without_first : (text : List ℕ) → NoSpace text → text ≡ without_form 2 text
without_first text none = sym (without_all 1 text none)

-- the name of an object, and what stands behind it
pub head_match : {A : Type 0} (word rest : A → List ℕ) (found : Option A) (text tail : List ℕ) → text ≡ codes "object " ++ tail →
    MatchOption found ((w r : List ℕ) → IsWord w → w ≢ [] → tail ≡ w ++ 32 ∷ r → ⊥) (λ p. IsWord (word p) × (word p ≢ []) × (tail ≡ word p ++ 32 ∷ rest p)) →
    MatchOption found ((r : List ℕ) → Names text r → ⊥) (λ p. (n : Names text (rest p)) × (n.word ≡ word p))
head_match word rest None text tail is none = λ r n. none n.word r n.is_word n.some (cancel (codes "object ") _ _ (sym is ∙ names_begin text r n))
head_match word rest (Some p) text tail is some = (names_of text tail (word p) (rest p) is some.2 some.0 some.1, refl)

pub head_absent : (text : List ℕ) → ((rest : List ℕ) → text ≡ codes "object " ++ rest → ⊥) → (rest : List ℕ) → Names text rest → ⊥
head_absent text none rest n = none (n.word ++ 32 ∷ rest) (names_begin text rest n)

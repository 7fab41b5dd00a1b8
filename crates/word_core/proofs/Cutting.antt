-- A line has its words in one way.
use Rattle.std.proofs.Common.{◌≡◌, ◌≢◌, ℕ, List, [], ◌∷◌, ◌++◌, refl, sym, ap, ◌∙◌, subst, append_assoc}
use Rattle.std.proofs.lemmas.List.Elements.{All-head, All-tail}
use Rattle.std.proofs.lemmas.List.{append-nil}
use Rattle.value_core.specs.Spaces.{NoSpace, EndsWord}
use Rattle.word_core.specs.Words.{Word, bare, quoted, doubled, word_text, IsWord, IsFirst, AreWords}
use Rattle.std.specs.Prelude.{Option, Some}
use Rattle.word_core.specs.Laws.{SaidOnce}
use Rattle.word_core.proofs.Quoting.{unread, closes_here, not_ended}
use Rattle.word_core.proofs.Spaces.{some_text}

bare_once : (x y r s : List ℕ) → NoSpace x → NoSpace y → EndsWord r → EndsWord s → x ++ r ≡ y ++ s → (x ≡ y) × (r ≡ s)
bare_once [] [] r s p q e f same = (refl, same)
bare_once [] (b ∷ y) r s p q e f same =
    let wrong : b ≡ 32 = subst EndsWord same e in absurd (All-head (λ z. z ≢ 32) b y q wrong)
bare_once (a ∷ x) [] r s p q e f same =
    let wrong : a ≡ 32 = subst EndsWord (sym same) f in absurd (All-head (λ z. z ≢ 32) a x p wrong)
bare_once (a ∷ x) (b ∷ y) r s p q e f same =
    let tails : x ++ r ≡ y ++ s = cc in
    let heads : a ≡ b = cc in
    let others = bare_once x y r s (All-tail (λ z. z ≢ 32) a x p) (All-tail (λ z. z ≢ 32) b y q) e f tails in
    ((λ i. heads i ∷ others.0 i), others.1)

quoted_once : (t u r s : List ℕ) → EndsWord r → EndsWord s → doubled t ++ 39 ∷ r ≡ doubled u ++ 39 ∷ s → (t ≡ u) × (r ≡ s)
quoted_once t u r s e f same =
    let left = unread t (39 ∷ r) u s f same in
    let single : (b : ℕ) (bs : List ℕ) → r ≡ b ∷ bs → b ≢ 39 = λ b bs is wrong. not_ended r bs (is ∙ ap (λ z. z ∷ bs) wrong) e in
    let none = closes_here left.0 s r f single left.2 in
    (sym (left.1 ∙ ap (λ zs. t ++ zs) none.0 ∙ append-nil t), none.1)

pub words_once : (a b : Word) (r s : List ℕ) → IsWord a → IsWord b → EndsWord r → EndsWord s → word_text a ++ r ≡ word_text b ++ s → (a ≡ b) × (r ≡ s)
words_once (bare []) b r s p q e f same = absurd p
words_once (bare (x ∷ xs)) (bare []) r s p q e f same = absurd q
words_once (bare (x ∷ xs)) (bare (y ∷ ys)) r s p q e f same =
    let once = bare_once (x ∷ xs) (y ∷ ys) r s p.1 q.1 e f same in (ap bare once.0, once.1)
words_once (bare (x ∷ xs)) (quoted u) r s p q e f same = let wrong : x ≡ 39 = cc in absurd (p.0 wrong)
words_once (quoted t) (bare []) r s p q e f same = absurd q
words_once (quoted t) (bare (y ∷ ys)) r s p q e f same = let wrong : y ≡ 39 = cc in absurd (q.0 wrong)
words_once (quoted t) (quoted u) r s p q e f same =
    let tails : (doubled t ++ 39 ∷ []) ++ r ≡ (doubled u ++ 39 ∷ []) ++ s = cc in
    let once = quoted_once t u r s e f (simp append_assoc at tails) in (ap quoted once.0, once.1)

pub first_once : (line : List ℕ) (a b : Word) (r s : List ℕ) → IsFirst line a r → IsFirst line b s → (a ≡ b) × (r ≡ s)
first_once line a b r s p q = words_once a b r s p.is q.is p.ends q.ends (sym p.stands ∙ q.stands)

pub words_unique : (line : List ℕ) (a b : List Word) → AreWords line a → AreWords line b → a ≡ b
words_unique line [] [] p q = refl
words_unique line [] (b ∷ bs) p q = absurd (some_text b q.0 q.1.is (sym q.1.stands ∙ p))
words_unique line (a ∷ as') [] p q = absurd (some_text a p.0 p.1.is (sym p.1.stands ∙ q))
words_unique line (a ∷ as') (b ∷ bs) p q =
    let same = first_once line a b p.0 q.0 p.1 q.1 in
    let others = words_unique p.0 as' bs p.2 (subst (λ r. AreWords r bs) (sym same.1) q.2) in
    λ i. same.0 i ∷ others i

same_said : {A : Type 0} (found : Option A) (a b : A) → found ≡ Some a → found ≡ Some b → a ≡ b
same_said found a b first second = cc

pub said_once : {A : Type 0} → SaidOnce A
said_once said_of line a b first second =
    let same = words_unique line first.0 second.0 first.1 second.1 in same_said (said_of second.0) a b (ap said_of (sym same) ∙ first.2) second.2

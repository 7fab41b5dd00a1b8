-- One thing more of a list.
use Rattle.std.proofs.Common.{◌≡◌, ℕ, ◌+◌, ◌<◌, List, [], ◌∷◌, ◌++◌, length, take, get_or, sym, ap, ◌∙◌, append_assoc}
use Rattle.std.specs.Prelude.{flat_map}
use Rattle.std.proofs.lemmas.List.{take_more, append-nil}

flat_push : {X : Type 0} (f : X → List ℕ) (xs : List X) (x : X) → flat_map f (xs ++ x ∷ []) ≡ flat_map f xs ++ f x
flat_push f [] x = append-nil (f x)
flat_push f (y ∷ xs) x = ap (λ t. f y ++ t) (flat_push f xs x) ∙ sym (append_assoc (f y) (flat_map f xs) (f x))

pub flat_more : {X : Type 0} (f : X → List ℕ) (first before after : List ℕ) (all : List X) (i : ℕ) (d x : X) → i < length all → x ≡ get_or all i d
    → before ≡ first ++ flat_map f (take i all) → after ≡ before ++ f x → after ≡ first ++ flat_map f (take (i + 1) all)
flat_more f first before after all i d x inside is was more =
    more ∙ ap (λ t. t ++ f x) was ∙ append_assoc first (flat_map f (take i all)) (f x)
    ∙ ap (λ t. first ++ t) (sym (flat_push f (take i all) x) ∙ ap (flat_map f) (ap (λ y. take i all ++ y ∷ []) is ∙ sym (take_more all i d inside)))

pub two : (a b c x y : List ℕ) → b ≡ a ++ x → c ≡ b ++ y → c ≡ a ++ (x ++ y)
two a b c x y p q = q ∙ ap (λ t. t ++ y) p ∙ append_assoc a x y

-- three things more, one after the other
pub three : (a b c d x y z : List ℕ) → b ≡ a ++ x → c ≡ b ++ y → d ≡ c ++ z → d ≡ a ++ ((x ++ y) ++ z)
three a b c d x y z p q r = two a c d (x ++ y) z (two a b c x y p q) r

-- the same, where the last one is two
pub three_parts : (a b c d x y v w : List ℕ) → b ≡ a ++ x → c ≡ b ++ y → d ≡ c ++ (v ++ w) → d ≡ a ++ ((x ++ (y ++ v)) ++ w)
three_parts a b c d x y v w p q r =
    three a b c d x y (v ++ w) p q r
    ∙ ap (λ t. a ++ t) (sym (append_assoc (x ++ y) v w) ∙ ap (λ t. t ++ w) (append_assoc x y v))

-- Bytes of a text, front and back.
use Rattle.std.proofs.Common.{◌≡◌, ◌↔◌, ◌&&◌, Bool, true, false, ℕ, List, [], ◌∷◌, ◌++◌, refl, sym, ◌∙◌, subst}
use Rattle.std.specs.Prelude.{All, IsTrue, IsFalse}
use Rattle.std.proofs.lemmas.Bool.{false≢true}
use Rattle.std.proofs.lemmas.List.Elements.{All-nil, All-cons, All-append}
use Rattle.value_core.specs.Plain.{IsPlain}
use Rattle.value_core.proofs.TableRows.{head, tail}

fore : (xs ys : List ℕ) → All IsPlain (xs ++ ys) → All IsPlain xs
fore [] ys each = All-nil IsPlain
fore (x ∷ xs) ys each = All-cons IsPlain x xs (head IsPlain x (xs ++ ys) each) (fore xs ys (tail IsPlain x (xs ++ ys) each))

aft : (xs ys : List ℕ) → All IsPlain (xs ++ ys) → All IsPlain ys
aft [] ys each = each
aft (x ∷ xs) ys each = aft xs ys (tail IsPlain x (xs ++ ys) each)

pub one_plain : (r : Bool) (a : ℕ) → (IsTrue r ↔ IsPlain a) → IsTrue r ↔ All IsPlain (a ∷ [])
one_plain r a is = (λ yes. All-cons IsPlain a [] (is.0 yes) (All-nil IsPlain), λ each. is.1 (head IsPlain a [] each))

both_so : (x y : Bool) (xs ys : List ℕ) → (IsTrue x ↔ All IsPlain xs) → (IsTrue y ↔ All IsPlain ys) → IsTrue (x && y) ↔ All IsPlain (xs ++ ys)
both_so true y xs ys first second = (λ yes. All-append IsPlain xs ys (first.0 refl) (second.0 yes), λ each. second.1 (aft xs ys each))
both_so false y xs ys first second = (λ yes. absurd (false≢true yes), λ each. absurd (false≢true (first.1 (fore xs ys each))))

-- bytes are plain where those in front and those behind are
pub both_plain : (r x y : Bool) (xs ys : List ℕ) → r ≡ (x && y) → (IsTrue x ↔ All IsPlain xs) → (IsTrue y ↔ All IsPlain ys) → IsTrue r ↔ All IsPlain (xs ++ ys)
both_plain r x y xs ys is first second = subst (λ b. IsTrue b ↔ All IsPlain (xs ++ ys)) (sym is) (both_so x y xs ys first second)

-- a front that is plain is passed
pub front_passed : (r : Bool) (whole front rest bytes : List ℕ) → whole ≡ front ++ rest → (IsTrue r ↔ All IsPlain front) → IsTrue r → (All IsPlain whole ↔ All IsPlain bytes) → All IsPlain rest ↔ All IsPlain bytes
front_passed r whole front rest bytes cut is so all =
    (λ each. all.0 (subst (All IsPlain) (sym cut) (All-append IsPlain front rest (is.0 so) each)), λ each. aft front rest (subst (All IsPlain) cut (all.1 each)))

-- where the front is not plain, the whole is not
pub front_not : (r : Bool) (whole front rest bytes : List ℕ) → whole ≡ front ++ rest → (IsTrue r ↔ All IsPlain front) → IsFalse r → (All IsPlain whole ↔ All IsPlain bytes) → IsTrue false ↔ All IsPlain bytes
front_not r whole front rest bytes cut is other all =
    (λ yes. absurd (false≢true yes), λ each. absurd (false≢true (sym other ∙ is.1 (fore front rest (subst (All IsPlain) cut (all.1 each))))))

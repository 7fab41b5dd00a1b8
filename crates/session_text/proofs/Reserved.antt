-- Reserved words.
use Rattle.std.proofs.Common.{◌≡◌, ◌≢◌, ℕ, ◌⊎◌, inl, inr, Bool, true, false, ◌||◌, List, [], ◌∷◌, refl, ◌∙◌, ap, subst, arith}
use Rattle.std.specs.List.{list_any}
use Rattle.std.specs.Str.{bytes_eq, str_to_ascii_lowercase}
use Rattle.std.proofs.lemmas.Slice.Eq.{bytes_eq-Decides}
use Rattle.path_tree.specs.declared.token.Symbol.{Symbol}
use Rattle.path_tree.specs.declared.token.Symbol.TheVariants as symbols
use Rattle.path_tree.specs.Lexeme.{symbol_text}
use Rattle.path_tree.specs.Tokens.{IsReserved}
use Rattle.session_text.specs.Reserved.{reserved_words, is_reserved}

-- one of these symbols
abbrev IsAmongThese : Symbol → List Symbol → Type 0
IsAmongThese s [] = ⊥
IsAmongThese s (x ∷ xs) = (x ≡ s) ⊎ IsAmongThese s xs

or_right : (b : Bool) → b || true ≡ true
or_right true = refl
or_right false = refl

or_cases : (a b : Bool) → a || b ≡ true → (a ≡ true) ⊎ (b ≡ true)
or_cases true b h = inl refl
or_cases false b h = inr h

any_found : (p : Symbol → Bool) (xs : List Symbol) (s : Symbol) → IsAmongThese s xs → p s ≡ true → list_any p xs ≡ true
any_found p [] s among is = absurd among
any_found p (x ∷ xs) s (inl same) is = ap (λ b. b || list_any p xs) (ap p same ∙ is)
any_found p (x ∷ xs) s (inr later) is = ap (λ b. p x || b) (any_found p xs s later is) ∙ or_right (p x)

any_of : (p : Symbol → Bool) (xs : List Symbol) → list_any p xs ≡ true → (s : Symbol) × IsAmongThese s xs × (p s ≡ true)
any_of p [] is = absurd cc
any_of p (x ∷ xs) is = elim (or_cases (p x) (list_any p xs) is) [
  | inl here ↦ (x, inl refl, here)
  | inr later ↦ let found = any_of p xs later in (found.0, inr found.1, found.2)
]

-- each word is among them
word_among : (s : Symbol) → IsReserved s → IsAmongThese s reserved_words
word_among symbols.OpenParen is = absurd (omega (arith, is))
word_among symbols.CloseParen is = absurd (omega (arith, is))
word_among symbols.OpenBracket is = absurd (omega (arith, is))
word_among symbols.CloseBracket is = absurd (omega (arith, is))
word_among symbols.Comma is = absurd (omega (arith, is))
word_among symbols.Semicolon is = absurd (omega (arith, is))
word_among symbols.Colon is = absurd (omega (arith, is))
word_among symbols.Assign is = absurd (omega (arith, is))
word_among symbols.Equal is = absurd (omega (arith, is))
word_among symbols.Differ is = absurd (omega (arith, is))
word_among symbols.Less is = absurd (omega (arith, is))
word_among symbols.LessEqual is = absurd (omega (arith, is))
word_among symbols.Greater is = absurd (omega (arith, is))
word_among symbols.GreaterEqual is = absurd (omega (arith, is))
word_among symbols.Plus is = absurd (omega (arith, is))
word_among symbols.Minus is = absurd (omega (arith, is))
word_among symbols.Append is = inl refl
word_among symbols.Array is = inr (inl refl)
word_among symbols.Begin is = inr (inr (inl refl))
word_among symbols.Const is = inr (inr (inr (inl refl)))
word_among symbols.Count is = inr (inr (inr (inr (inl refl))))
word_among symbols.Else is = inr (inr (inr (inr (inr (inl refl)))))
word_among symbols.End is = inr (inr (inr (inr (inr (inr (inl refl))))))
word_among symbols.Entry is = inr (inr (inr (inr (inr (inr (inr (inl refl)))))))
word_among symbols.Erase is = inr (inr (inr (inr (inr (inr (inr (inr (inl refl))))))))
word_among symbols.First is = inr (inr (inr (inr (inr (inr (inr (inr (inr (inl refl)))))))))
word_among symbols.Function is = inr (inr (inr (inr (inr (inr (inr (inr (inr (inr (inl refl))))))))))
word_among symbols.Has is = inr (inr (inr (inr (inr (inr (inr (inr (inr (inr (inr (inl refl)))))))))))
word_among symbols.If is = inr (inr (inr (inr (inr (inr (inr (inr (inr (inr (inr (inr (inl refl))))))))))))
word_among symbols.Integer is = inr (inr (inr (inr (inr (inr (inr (inr (inr (inr (inr (inr (inr (inl refl)))))))))))))
word_among symbols.Lookup is = inr (inr (inr (inr (inr (inr (inr (inr (inr (inr (inr (inr (inr (inr (inl refl))))))))))))))
word_among symbols.Not is = inr (inr (inr (inr (inr (inr (inr (inr (inr (inr (inr (inr (inr (inr (inr (inl refl)))))))))))))))
word_among symbols.Object is = inr (inr (inr (inr (inr (inr (inr (inr (inr (inr (inr (inr (inr (inr (inr (inr (inl refl))))))))))))))))
word_among symbols.Of is = inr (inr (inr (inr (inr (inr (inr (inr (inr (inr (inr (inr (inr (inr (inr (inr (inr (inl refl)))))))))))))))))
word_among symbols.Path is = inr (inr (inr (inr (inr (inr (inr (inr (inr (inr (inr (inr (inr (inr (inr (inr (inr (inr (inl refl))))))))))))))))))
word_among symbols.Procedure is = inr (inr (inr (inr (inr (inr (inr (inr (inr (inr (inr (inr (inr (inr (inr (inr (inr (inr (inr (inl refl)))))))))))))))))))
word_among symbols.Queue is = inr (inr (inr (inr (inr (inr (inr (inr (inr (inr (inr (inr (inr (inr (inr (inr (inr (inr (inr (inr (inl refl))))))))))))))))))))
word_among symbols.Refuse is = inr (inr (inr (inr (inr (inr (inr (inr (inr (inr (inr (inr (inr (inr (inr (inr (inr (inr (inr (inr (inr (inl refl)))))))))))))))))))))
word_among symbols.Store is = inr (inr (inr (inr (inr (inr (inr (inr (inr (inr (inr (inr (inr (inr (inr (inr (inr (inr (inr (inr (inr (inr (inl refl))))))))))))))))))))))
word_among symbols.Table is = inr (inr (inr (inr (inr (inr (inr (inr (inr (inr (inr (inr (inr (inr (inr (inr (inr (inr (inr (inr (inr (inr (inr (inl refl)))))))))))))))))))))))
word_among symbols.Take is = inr (inr (inr (inr (inr (inr (inr (inr (inr (inr (inr (inr (inr (inr (inr (inr (inr (inr (inr (inr (inr (inr (inr (inr (inl refl))))))))))))))))))))))))
word_among symbols.Text is = inr (inr (inr (inr (inr (inr (inr (inr (inr (inr (inr (inr (inr (inr (inr (inr (inr (inr (inr (inr (inr (inr (inr (inr (inr (inl refl)))))))))))))))))))))))))
word_among symbols.Then is = inr (inr (inr (inr (inr (inr (inr (inr (inr (inr (inr (inr (inr (inr (inr (inr (inr (inr (inr (inr (inr (inr (inr (inr (inr (inr (inl refl))))))))))))))))))))))))))
word_among symbols.Var is = inr (inr (inr (inr (inr (inr (inr (inr (inr (inr (inr (inr (inr (inr (inr (inr (inr (inr (inr (inr (inr (inr (inr (inr (inr (inr (inr (inl refl)))))))))))))))))))))))))))

abbrev AreWords : List Symbol → Type 0
AreWords [] = Unit {0}
AreWords (x ∷ xs) = IsReserved x × AreWords xs

are_words : AreWords reserved_words
are_words = (omega arith, (omega arith, (omega arith, (omega arith, (omega arith, (omega arith, (omega arith, (omega arith, (omega arith, (omega arith, (omega arith, (omega arith, (omega arith, (omega arith, (omega arith, (omega arith, (omega arith, (omega arith, (omega arith, (omega arith, (omega arith, (omega arith, (omega arith, (omega arith, (omega arith, (omega arith, (omega arith, (omega arith, tt))))))))))))))))))))))))))))

each_word : (xs : List Symbol) → AreWords xs → (s : Symbol) → IsAmongThese s xs → IsReserved s
each_word [] all s among = absurd among
each_word (x ∷ xs) all s (inl same) = subst IsReserved same all.0
each_word (x ∷ xs) all s (inr later) = each_word xs all.1 s later

-- bytes that no word is are no reserved word
pub not_reserved : (bytes : List ℕ) → ((s : Symbol) → IsReserved s → str_to_ascii_lowercase bytes ≢ symbol_text s) → is_reserved bytes ≡ false
not_reserved bytes never = never_true (is_reserved bytes) (λ is.
    let found = any_of (λ s. bytes_eq (str_to_ascii_lowercase bytes) (symbol_text s)) reserved_words is in
    never found.0 (each_word reserved_words are_words found.0 found.1) ((bytes_eq-Decides (str_to_ascii_lowercase bytes) (symbol_text found.0)).0 found.2))
  where
    never_true : (b : Bool) → (b ≡ true → ⊥) → b ≡ false
    never_true true h = absurd (h refl)
    never_true false h = refl

-- a reserved word is one
pub reserved_is : (bytes : List ℕ) (s : Symbol) → IsReserved s → str_to_ascii_lowercase bytes ≡ symbol_text s → is_reserved bytes ≡ true
reserved_is bytes s is same =
    any_found (λ x. bytes_eq (str_to_ascii_lowercase bytes) (symbol_text x)) reserved_words s (word_among s is) ((bytes_eq-Decides (str_to_ascii_lowercase bytes) (symbol_text s)).1 same)

-- How symbols are written: no two alike, and a sign with no letter, digit or blank.
use Rattle.std.proofs.Common.{◌≡◌, ℕ, ◌+◌, ◌*◌, ◌≤◌, List, [], ◌∷◌, slice_index, refl, sym, ap, ◌∙◌, inl, inr, arith}
use Rattle.std.specs.Prelude.{◌⊎◌, ◌==◌, if◌then◌else◌}
use Rattle.path_tree.specs.declared.token.Symbol.{Symbol}
use Rattle.path_tree.specs.declared.token.Symbol.TheVariants as symbols
use Rattle.path_tree.specs.Lexeme.{symbol_text}
use Rattle.path_tree.specs.Tokens.{IsSign}

-- the bytes of a text as the digits of a number
abbrev number_of : ℕ → List ℕ → ℕ
number_of n [] = n
number_of n (b ∷ text) = number_of (n * 256 + b) text

-- the symbol that a number stands for
abbrev symbol_of : ℕ → Symbol
symbol_of n =
    if n == 40 then symbols.OpenParen else (
    if n == 41 then symbols.CloseParen else (
    if n == 91 then symbols.OpenBracket else (
    if n == 93 then symbols.CloseBracket else (
    if n == 44 then symbols.Comma else (
    if n == 59 then symbols.Semicolon else (
    if n == 58 then symbols.Colon else (
    if n == 14909 then symbols.Assign else (
    if n == 61 then symbols.Equal else (
    if n == 15422 then symbols.Differ else (
    if n == 60 then symbols.Less else (
    if n == 15421 then symbols.LessEqual else (
    if n == 62 then symbols.Greater else (
    if n == 15933 then symbols.GreaterEqual else (
    if n == 43 then symbols.Plus else (
    if n == 45 then symbols.Minus else (
    if n == 107135549927012 then symbols.Append else (
    if n == 418531926393 then symbols.Array else (
    if n == 422608071022 then symbols.Begin else (
    if n == 427071271796 then symbols.Const else (
    if n == 427071729268 then symbols.Count else (
    if n == 1701606245 then symbols.Else else (
    if n == 6647396 then symbols.End else (
    if n == 435644822137 then symbols.Entry else (
    if n == 435710686053 then symbols.Erase else (
    if n == 439855772532 then symbols.First else (
    if n == 7382928537577680750 then symbols.Function else (
    if n == 6840691 then symbols.Has else (
    if n == 26982 then symbols.If else (
    if n == 29676318751155570 then symbols.Integer else (
    if n == 119225866483056 then symbols.Lookup else (
    if n == 7237492 then symbols.Not else (
    if n == 122468482507636 then symbols.Object else (
    if n == 28518 then symbols.Of else (
    if n == 1885434984 then symbols.Path else (
    if n == 2074281254985336713829 then symbols.Procedure else (
    if n == 487300887909 then symbols.Queue else (
    if n == 125779836236645 then symbols.Refuse else (
    if n == 495874699877 then symbols.Store else (
    if n == 499850046565 then symbols.Table else (
    if n == 1952541541 then symbols.Take else (
    if n == 1952807028 then symbols.Text else (
    if n == 1952998766 then symbols.Then else (
    symbols.Var)))))))))))))))))))))))))))))))))))))))))))

spelled : (s : Symbol) → symbol_of (number_of 0 (symbol_text s)) ≡ s
spelled symbols.OpenParen = refl
spelled symbols.CloseParen = refl
spelled symbols.OpenBracket = refl
spelled symbols.CloseBracket = refl
spelled symbols.Comma = refl
spelled symbols.Semicolon = refl
spelled symbols.Colon = refl
spelled symbols.Assign = refl
spelled symbols.Equal = refl
spelled symbols.Differ = refl
spelled symbols.Less = refl
spelled symbols.LessEqual = refl
spelled symbols.Greater = refl
spelled symbols.GreaterEqual = refl
spelled symbols.Plus = refl
spelled symbols.Minus = refl
spelled symbols.Append = refl
spelled symbols.Array = refl
spelled symbols.Begin = refl
spelled symbols.Const = refl
spelled symbols.Count = refl
spelled symbols.Else = refl
spelled symbols.End = refl
spelled symbols.Entry = refl
spelled symbols.Erase = refl
spelled symbols.First = refl
spelled symbols.Function = refl
spelled symbols.Has = refl
spelled symbols.If = refl
spelled symbols.Integer = refl
spelled symbols.Lookup = refl
spelled symbols.Not = refl
spelled symbols.Object = refl
spelled symbols.Of = refl
spelled symbols.Path = refl
spelled symbols.Procedure = refl
spelled symbols.Queue = refl
spelled symbols.Refuse = refl
spelled symbols.Store = refl
spelled symbols.Table = refl
spelled symbols.Take = refl
spelled symbols.Text = refl
spelled symbols.Then = refl
spelled symbols.Var = refl

-- no two symbols are written alike
pub one_symbol : (s t : Symbol) → symbol_text s ≡ symbol_text t → s ≡ t
one_symbol s t same = sym (spelled s) ∙ ap (λ text. symbol_of (number_of 0 text)) same ∙ spelled t

-- a byte that some sign begins with lies in one of three ranges, in which no letter, digit, blank, apostrophe or brace is
abbrev pub IsSignByte : ℕ → Type 0
IsSignByte b = ((40 ≤ b) × (b ≤ 45)) ⊎ (((58 ≤ b) × (b ≤ 62)) ⊎ ((91 ≤ b) × (b ≤ 93)))

pub sign_first : (s : Symbol) → IsSign s → IsSignByte (slice_index (symbol_text s) 0)
sign_first symbols.OpenParen h = inl (omega arith, omega arith)
sign_first symbols.CloseParen h = inl (omega arith, omega arith)
sign_first symbols.OpenBracket h = inr (inr (omega arith, omega arith))
sign_first symbols.CloseBracket h = inr (inr (omega arith, omega arith))
sign_first symbols.Comma h = inl (omega arith, omega arith)
sign_first symbols.Semicolon h = inr (inl (omega arith, omega arith))
sign_first symbols.Colon h = inr (inl (omega arith, omega arith))
sign_first symbols.Assign h = inr (inl (omega arith, omega arith))
sign_first symbols.Equal h = inr (inl (omega arith, omega arith))
sign_first symbols.Differ h = inr (inl (omega arith, omega arith))
sign_first symbols.Less h = inr (inl (omega arith, omega arith))
sign_first symbols.LessEqual h = inr (inl (omega arith, omega arith))
sign_first symbols.Greater h = inr (inl (omega arith, omega arith))
sign_first symbols.GreaterEqual h = inr (inl (omega arith, omega arith))
sign_first symbols.Plus h = inl (omega arith, omega arith)
sign_first symbols.Minus h = inl (omega arith, omega arith)
sign_first symbols.Append h = absurd (omega (arith, h))
sign_first symbols.Array h = absurd (omega (arith, h))
sign_first symbols.Begin h = absurd (omega (arith, h))
sign_first symbols.Const h = absurd (omega (arith, h))
sign_first symbols.Count h = absurd (omega (arith, h))
sign_first symbols.Else h = absurd (omega (arith, h))
sign_first symbols.End h = absurd (omega (arith, h))
sign_first symbols.Entry h = absurd (omega (arith, h))
sign_first symbols.Erase h = absurd (omega (arith, h))
sign_first symbols.First h = absurd (omega (arith, h))
sign_first symbols.Function h = absurd (omega (arith, h))
sign_first symbols.Has h = absurd (omega (arith, h))
sign_first symbols.If h = absurd (omega (arith, h))
sign_first symbols.Integer h = absurd (omega (arith, h))
sign_first symbols.Lookup h = absurd (omega (arith, h))
sign_first symbols.Not h = absurd (omega (arith, h))
sign_first symbols.Object h = absurd (omega (arith, h))
sign_first symbols.Of h = absurd (omega (arith, h))
sign_first symbols.Path h = absurd (omega (arith, h))
sign_first symbols.Procedure h = absurd (omega (arith, h))
sign_first symbols.Queue h = absurd (omega (arith, h))
sign_first symbols.Refuse h = absurd (omega (arith, h))
sign_first symbols.Store h = absurd (omega (arith, h))
sign_first symbols.Table h = absurd (omega (arith, h))
sign_first symbols.Take h = absurd (omega (arith, h))
sign_first symbols.Text h = absurd (omega (arith, h))
sign_first symbols.Then h = absurd (omega (arith, h))
sign_first symbols.Var h = absurd (omega (arith, h))

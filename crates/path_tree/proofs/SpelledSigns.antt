-- The signs of a path, spelled.
use Rattle.std.proofs.Common.{◌≡◌, ◌≢◌, ℕ, ◌+◌, ◌<◌, ◌≤◌, List, [], ◌∷◌, ◌++◌, length, get_or, slice_index, inl, inr, sym, ap, ◌∙◌, arith}
use Rattle.std.specs.Prelude.{◌⊎◌}
use Rattle.std.proofs.lemmas.List.{length-append, get_or-append-add}
use Rattle.std.proofs.Math.Seq.{get_or-append_seam}
use Rattle.path_tree.specs.declared.token.Symbol.{Symbol}
use Rattle.path_tree.specs.declared.token.Symbol.TheVariants as symbols
use Rattle.path_tree.specs.Lexeme.{symbol, symbol_text}
use Rattle.path_tree.specs.Gap.{OpensComment}
use Rattle.path_tree.specs.Tokens.{IsSign}
use Rattle.path_tree.proofs.Signs.{single_sign, NoDouble}
use Rattle.path_tree.proofs.Spelled.{Spells, single}

-- a text of two bytes, seen by its first two and its length
record Two (text : List ℕ) (a b : ℕ) : Type 0 where
  long : length text ≡ 2
  first : get_or text 0 0 ≡ a
  second : get_or text 1 0 ≡ b

two_of : (text : List ℕ) (a b : ℕ) → text ≡ a ∷ b ∷ [] → Two text a b
two_of text a b h = record { long = ap length h; first = ap (λ x. get_or x 0 0) h; second = ap (λ x. get_or x 1 0) h }

-- a sign of two bytes is `:=`, or begins with `<` or `>`
double_shape : (s : Symbol) (a b : ℕ) → IsSign s → Two (symbol_text s) a b → ((a ≡ 58) × (b ≡ 61)) ⊎ ((60 ≤ a) × (a ≤ 62))
double_shape symbols.OpenParen a b sign h = absurd (let e = h.long in omega arith)
double_shape symbols.CloseParen a b sign h = absurd (let e = h.long in omega arith)
double_shape symbols.OpenBracket a b sign h = absurd (let e = h.long in omega arith)
double_shape symbols.CloseBracket a b sign h = absurd (let e = h.long in omega arith)
double_shape symbols.Comma a b sign h = absurd (let e = h.long in omega arith)
double_shape symbols.Semicolon a b sign h = absurd (let e = h.long in omega arith)
double_shape symbols.Colon a b sign h = absurd (let e = h.long in omega arith)
double_shape symbols.Assign a b sign h = inl (sym h.first, sym h.second)
double_shape symbols.Equal a b sign h = absurd (let e = h.long in omega arith)
double_shape symbols.Differ a b sign h = let e = h.first in inr (omega arith, omega arith)
double_shape symbols.Less a b sign h = absurd (let e = h.long in omega arith)
double_shape symbols.LessEqual a b sign h = let e = h.first in inr (omega arith, omega arith)
double_shape symbols.Greater a b sign h = absurd (let e = h.long in omega arith)
double_shape symbols.GreaterEqual a b sign h = let e = h.first in inr (omega arith, omega arith)
double_shape symbols.Plus a b sign h = absurd (let e = h.long in omega arith)
double_shape symbols.Minus a b sign h = absurd (let e = h.long in omega arith)
double_shape symbols.Append a b sign h = absurd (omega (arith, sign))
double_shape symbols.Array a b sign h = absurd (omega (arith, sign))
double_shape symbols.Begin a b sign h = absurd (omega (arith, sign))
double_shape symbols.Const a b sign h = absurd (omega (arith, sign))
double_shape symbols.Count a b sign h = absurd (omega (arith, sign))
double_shape symbols.Else a b sign h = absurd (omega (arith, sign))
double_shape symbols.End a b sign h = absurd (omega (arith, sign))
double_shape symbols.Entry a b sign h = absurd (omega (arith, sign))
double_shape symbols.Erase a b sign h = absurd (omega (arith, sign))
double_shape symbols.First a b sign h = absurd (omega (arith, sign))
double_shape symbols.Function a b sign h = absurd (omega (arith, sign))
double_shape symbols.Has a b sign h = absurd (omega (arith, sign))
double_shape symbols.If a b sign h = absurd (omega (arith, sign))
double_shape symbols.Integer a b sign h = absurd (omega (arith, sign))
double_shape symbols.Lookup a b sign h = absurd (omega (arith, sign))
double_shape symbols.Not a b sign h = absurd (omega (arith, sign))
double_shape symbols.Object a b sign h = absurd (omega (arith, sign))
double_shape symbols.Of a b sign h = absurd (omega (arith, sign))
double_shape symbols.Path a b sign h = absurd (omega (arith, sign))
double_shape symbols.Procedure a b sign h = absurd (omega (arith, sign))
double_shape symbols.Queue a b sign h = absurd (omega (arith, sign))
double_shape symbols.Refuse a b sign h = absurd (omega (arith, sign))
double_shape symbols.Store a b sign h = absurd (omega (arith, sign))
double_shape symbols.Table a b sign h = absurd (omega (arith, sign))
double_shape symbols.Take a b sign h = absurd (omega (arith, sign))
double_shape symbols.Text a b sign h = absurd (omega (arith, sign))
double_shape symbols.Then a b sign h = absurd (omega (arith, sign))
double_shape symbols.Var a b sign h = absurd (omega (arith, sign))

-- what may follow a sign of one byte: `:` before `=` and `(` before `*` are no such signs
abbrev pub AfterSign : ℕ → ℕ → Type 0
AfterSign c next = (c ≡ 58 → next ≢ 61) × (c ≡ 40 → next ≢ 42)

pub sign_spelled : (s : Symbol) (c : ℕ) → IsSign s → symbol_text s ≡ c ∷ [] → (c < 60) ⊎ (((62 < c) × (c < 123)) ⊎ (123 < c)) → Spells (c ∷ []) (symbol s ∷ []) (AfterSign c)
sign_spelled s c sign is plain front rest next =
    let source : List ℕ = front ++ (c ∷ rest) in
    let at : ℕ = length front in
    let here : slice_index source at ≡ c = get_or-append_seam front c rest 0 in
    let behind : slice_index source (at + 1) ≡ slice_index rest 0 = get_or-append-add front (c ∷ rest) 1 0 in
    let n = length-append front (c ∷ rest) in
    let no_double : NoDouble source at = λ other other_sign text. elim (double_shape other (slice_index source at) (slice_index source (at + 1)) other_sign (two_of (symbol_text other) (slice_index source at) (slice_index source (at + 1)) text)) [
      | inl w ↦ next.0 (sym here ∙ w.0) (sym behind ∙ w.1)
      | inr w ↦ elim plain [ inl x ↦ omega arith | inr y ↦ elim y [ inl x ↦ omega arith | inr x ↦ omega arith ] ]
    ] in
    let no_comment : OpensComment source at → ⊥ = λ opens. elim opens [
      | inl w ↦ elim plain [ inl x ↦ omega arith | inr y ↦ elim y [ inl x ↦ omega arith | inr x ↦ omega arith ] ]
      | inr w ↦ next.1 (sym here ∙ w.0) (sym behind ∙ w.1)
    ] in
    single source at (symbol s) (at + 1) (inl (single_sign source at s sign (is ∙ ap (λ b. b ∷ []) (sym here)) (omega arith) no_double no_comment))

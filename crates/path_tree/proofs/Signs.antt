-- Signs: how they are written, and where one stands.
use Rattle.std.proofs.Common.{◌≡◌, ℕ, ◌+◌, ◌<◌, ◌≤◌, List, [], ◌∷◌, length, get_or, slice_index, refl, sym, ap, ◌∙◌, inl, inr, ⊎_elim, arith}
use Rattle.std.specs.Prelude.{◌⊎◌, slice_range}
use Rattle.std.proofs.lemmas.List.{get_or_past}
use Rattle.std.proofs.str.Laws.{order}
use Rattle.path_tree.specs.declared.token.Symbol.{Symbol}
use Rattle.path_tree.specs.declared.token.Symbol.TheVariants as symbols
use Rattle.path_tree.specs.Lexeme.{symbol_text}
use Rattle.path_tree.specs.Gap.{OpensComment}
use Rattle.path_tree.specs.Tokens.{IsSign, IsSignAt}
use Rattle.path_tree.proofs.Slices.{length_slice, slice_one, slice_two}

-- a sign has one byte, or two of which the second is not 0
abbrev pub IsShort : List ℕ → Type 0
IsShort text = ((b : ℕ) × (text ≡ b ∷ [])) ⊎ ((b : ℕ) × (c : ℕ) × (0 < c) × (text ≡ b ∷ c ∷ []))

pub sign_short : (s : Symbol) → IsSign s → IsShort (symbol_text s)
sign_short symbols.OpenParen h = inl (40, refl)
sign_short symbols.CloseParen h = inl (41, refl)
sign_short symbols.OpenBracket h = inl (91, refl)
sign_short symbols.CloseBracket h = inl (93, refl)
sign_short symbols.Comma h = inl (44, refl)
sign_short symbols.Semicolon h = inl (59, refl)
sign_short symbols.Colon h = inl (58, refl)
sign_short symbols.Assign h = inr (58, 61, omega arith, refl)
sign_short symbols.Equal h = inl (61, refl)
sign_short symbols.Differ h = inr (60, 62, omega arith, refl)
sign_short symbols.Less h = inl (60, refl)
sign_short symbols.LessEqual h = inr (60, 61, omega arith, refl)
sign_short symbols.Greater h = inl (62, refl)
sign_short symbols.GreaterEqual h = inr (62, 61, omega arith, refl)
sign_short symbols.Plus h = inl (43, refl)
sign_short symbols.Minus h = inl (45, refl)
sign_short symbols.Append h = absurd (omega (arith, h))
sign_short symbols.Array h = absurd (omega (arith, h))
sign_short symbols.Begin h = absurd (omega (arith, h))
sign_short symbols.Const h = absurd (omega (arith, h))
sign_short symbols.Count h = absurd (omega (arith, h))
sign_short symbols.Else h = absurd (omega (arith, h))
sign_short symbols.End h = absurd (omega (arith, h))
sign_short symbols.Entry h = absurd (omega (arith, h))
sign_short symbols.Erase h = absurd (omega (arith, h))
sign_short symbols.First h = absurd (omega (arith, h))
sign_short symbols.Function h = absurd (omega (arith, h))
sign_short symbols.Has h = absurd (omega (arith, h))
sign_short symbols.If h = absurd (omega (arith, h))
sign_short symbols.Integer h = absurd (omega (arith, h))
sign_short symbols.Lookup h = absurd (omega (arith, h))
sign_short symbols.Not h = absurd (omega (arith, h))
sign_short symbols.Object h = absurd (omega (arith, h))
sign_short symbols.Of h = absurd (omega (arith, h))
sign_short symbols.Path h = absurd (omega (arith, h))
sign_short symbols.Procedure h = absurd (omega (arith, h))
sign_short symbols.Queue h = absurd (omega (arith, h))
sign_short symbols.Refuse h = absurd (omega (arith, h))
sign_short symbols.Store h = absurd (omega (arith, h))
sign_short symbols.Table h = absurd (omega (arith, h))
sign_short symbols.Take h = absurd (omega (arith, h))
sign_short symbols.Text h = absurd (omega (arith, h))
sign_short symbols.Then h = absurd (omega (arith, h))
sign_short symbols.Var h = absurd (omega (arith, h))

-- which bytes a sign that stands at a place has
module _ (source : List ℕ) (start : ℕ) where
  pub sign_cases : (end : ℕ) (text : List ℕ) → IsShort text → end ≤ length source → slice_range source start end ≡ text →
      ((end ≡ start + 1) × (text ≡ slice_index source start ∷ [])) ⊎ ((end ≡ start + 2) × (text ≡ slice_index source start ∷ slice_index source (start + 1) ∷ []))
  sign_cases end text (inl w) within is =
      let one = sym (length_slice source start end within) ∙ ap length (is ∙ w.1) in
      let ends : end ≡ start + 1 = omega arith in
      inl (ends, sym is ∙ ap (slice_range source start) ends ∙ slice_one source start (omega arith))
  sign_cases end text (inr w) within is =
      let two = sym (length_slice source start end within) ∙ ap length (is ∙ w.3) in
      let ends : end ≡ start + 2 = omega arith in
      inr (ends, sym is ∙ ap (slice_range source start) ends ∙ slice_two source start (omega arith))

  -- no sign of two bytes stands there
  abbrev pub NoDouble : Type 0
  NoDouble = (s : Symbol) → IsSign s → symbol_text s ≡ slice_index source start ∷ slice_index source (start + 1) ∷ [] → ⊥

  abbrev pub NoSingle : Type 0
  NoSingle = (s : Symbol) → IsSign s → symbol_text s ≡ slice_index source start ∷ [] → ⊥

  pub no_sign : NoDouble → NoSingle → (s : Symbol) (end : ℕ) → IsSign s → end ≤ length source → slice_range source start end ≡ symbol_text s → ⊥
  no_sign no_double no_single s end sign within is =
      elim (sign_cases end (symbol_text s) (sign_short s sign) within is) [ inl w ↦ no_single s sign w.1 | inr w ↦ no_double s sign w.1 ]

  pub single_sign : (s : Symbol) → IsSign s → symbol_text s ≡ slice_index source start ∷ [] → start < length source → NoDouble → (OpensComment source start → ⊥) →
      IsSignAt source s start (start + 1)
  single_sign s sign is within no_double no_comment = (
    sign,
    omega arith,
    omega arith,
    slice_one source start within ∙ sym is,
    λ other end other_sign inside stands. elim (sign_cases end (symbol_text other) (sign_short other other_sign) inside stands) [ inl w ↦ omega (arith, w.0) | inr w ↦ absurd (no_double other other_sign w.1) ],
    no_comment,
  )

  second_within : (text : List ℕ) → IsShort text → text ≡ slice_index source start ∷ slice_index source (start + 1) ∷ [] → start + 1 < length source
  second_within text (inl w) is = absurd (omega (arith, ap length (sym w.1 ∙ is)))
  second_within text (inr w) is =
      let second : w.1 ≡ slice_index source (start + 1) = ap (λ xs. get_or xs 1 0) (sym w.3 ∙ is) in
      ⊎_elim (λ h. h) (λ past. absurd (omega (arith, get_or_past source (start + 1) 0 past))) (order (start + 1) (length source))

  pub double_sign : (s : Symbol) → IsSign s → symbol_text s ≡ slice_index source start ∷ slice_index source (start + 1) ∷ [] → (OpensComment source start → ⊥) →
      IsSignAt source s start (start + 2)
  double_sign s sign is no_comment =
      let within = second_within (symbol_text s) (sign_short s sign) is in (
        sign,
        omega arith,
        omega arith,
        slice_two source start within ∙ sym is,
        λ other end other_sign inside stands. elim (sign_cases end (symbol_text other) (sign_short other other_sign) inside stands) [ inl w ↦ omega (arith, w.0) | inr w ↦ omega (arith, w.0) ],
        no_comment,
      )

-- The tokens of a source are one list.
use Rattle.std.proofs.Common.{◌≡◌, ℕ, ◌+◌, ◌≤◌, List, [], ◌∷◌, ◌++◌, length, slice_index, refl, sym, ap, ◌∙◌, subst, arith}
use Rattle.std.proofs.lemmas.List.{get_or_past}
use Rattle.path_tree.specs.Lexeme.{Lexeme}
use Rattle.path_tree.specs.Gap.{IsGap}
use Rattle.path_tree.specs.Tokens.{Placed, IsToken, Tokens, end_at, AreTokens}
use Rattle.path_tree.proofs.Gaps.{blank_positive, gap_le, NoGap, no_gap, one_gap}
use Rattle.path_tree.proofs.OneToken.{plain_no_comment, token_no_gap, token_within, one_token}

module _ (source : List ℕ) where
  -- one token more
  pub tokens_more : (from at : ℕ) (ts : List Placed) (t : Placed) → Tokens source from ts at → IsGap source at t.start → IsToken source t.lexeme t.start t.end → Tokens source from (ts ++ t ∷ []) t.end
  tokens_more from at [] t h gap is = (subst (λ x. IsGap source x t.start) (sym h) gap, is, refl)
  tokens_more from at (x ∷ ts) t h gap is = (h.0, h.1, tokens_more x.end at ts t h.2 gap is)

  -- each token takes a byte
  pub tokens_few : (from to : ℕ) (ts : List Placed) → Tokens source from ts to → from + length ts ≤ to
  tokens_few from to [] h = omega (arith, h)
  tokens_few from to (t ∷ ts) h = omega (arith, gap_le source h.0, token_within source t.lexeme t.start t.end h.1, tokens_few t.end to ts h.2)

  -- neither a gap nor a token begins there
  abbrev pub Halts : ℕ → Type 0
  Halts at = NoGap source at × ((lexeme : Lexeme) (end : ℕ) → IsToken source lexeme at end → ⊥)

  placed_same : (t u : Placed) → t.lexeme ≡ u.lexeme → t.start ≡ u.start → t.end ≡ u.end → t ≡ u
  placed_same t u same starts ends = λ i. record { lexeme = same i; start = starts i; end = ends i }

  -- from one place to where neither a gap nor a token begins there is one list of tokens
  pub one_reading : (from : ℕ) (ts us : List Placed) (a b p q : ℕ) → Tokens source from ts a → IsGap source a p → Halts p → Tokens source from us b → IsGap source b q → Halts q → (ts ≡ us) × (p ≡ q)
  one_reading from [] [] a b p q h gap_a halts_p k gap_b halts_q =
      (refl, one_gap source (subst (λ x. IsGap source x p) (sym h) gap_a) (subst (λ x. IsGap source x q) (sym k) gap_b) halts_p.0 halts_q.0)
  one_reading from [] (u ∷ us) a b p q h gap_a halts_p k gap_b halts_q =
      let same = one_gap source (subst (λ x. IsGap source x p) (sym h) gap_a) k.0 halts_p.0 (token_no_gap source u.lexeme u.start u.end k.1) in
      absurd (halts_p.1 u.lexeme u.end (subst (λ x. IsToken source u.lexeme x u.end) (sym same) k.1))
  one_reading from (t ∷ ts) [] a b p q h gap_a halts_p k gap_b halts_q =
      let same = one_gap source (subst (λ x. IsGap source x q) (sym k) gap_b) h.0 halts_q.0 (token_no_gap source t.lexeme t.start t.end h.1) in
      absurd (halts_q.1 t.lexeme t.end (subst (λ x. IsToken source t.lexeme x t.end) (sym same) h.1))
  one_reading from (t ∷ ts) (u ∷ us) a b p q h gap_a halts_p k gap_b halts_q =
      let starts = one_gap source h.0 k.0 (token_no_gap source t.lexeme t.start t.end h.1) (token_no_gap source u.lexeme u.start u.end k.1) in
      let same = one_token source t.lexeme u.lexeme u.start t.end u.end (subst (λ x. IsToken source t.lexeme x t.end) starts h.1) k.1 in
      let rest = one_reading u.end ts us a b p q (subst (λ x. Tokens source x ts a) same.1 h.2) gap_a halts_p k.2 gap_b halts_q in
      let heads = placed_same t u same.0 starts same.1 in
      ((λ i. heads i ∷ rest.0 i), rest.1)

  pub end_halts : Halts (length source)
  end_halts =
      let past = get_or_past source (length source) 0 (omega arith) in (
        (λ to g. no_gap source (λ h. omega (arith, blank_positive (slice_index source (length source)) h)) (plain_no_comment source (length source) (omega arith) (omega arith)) g),
        λ lexeme end h. absurd (omega (arith, token_within source lexeme (length source) end h)),
      )

  pub one_list : (a b : List Placed) → AreTokens source a → AreTokens source b → a ≡ b
  one_list a b h k =
      let same = one_reading 0 h.tokens k.tokens h.last k.last (length source) (length source) h.in_order h.gap end_halts k.in_order k.gap end_halts in
      h.ends ∙ ap (λ ts. ts ++ end_at (length source) ∷ []) same.0 ∙ sym k.ends

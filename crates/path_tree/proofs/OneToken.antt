-- At most one token begins at a place, and no gap begins where a token does.
use Rattle.std.proofs.Common.{◌≡◌, ◌≢◌, ℕ, ◌+◌, ◌<◌, ◌≤◌, List, length, get_or, slice_index, sym, ap, ◌∙◌, subst, inl, inr, ⊎_elim, arith}
use Rattle.std.specs.Prelude.{slice_range}
use Rattle.std.specs.Str.{str_to_ascii_lowercase}
use Rattle.std.specs.Str.Parse.{digits_value}
use Rattle.std.proofs.str.Laws.{order}
use Rattle.path_tree.specs.declared.token.Symbol.{Symbol}
use Rattle.path_tree.specs.Identifier.{IsLetter, IsWordByte, IsDigit}
use Rattle.path_tree.specs.Lexeme.{Lexeme, symbol, number, identifier, string, end_mark, symbol_text}
use Rattle.path_tree.specs.Gap.{OpensComment}
use Rattle.path_tree.specs.Tokens.{IsRun, IsSignAt, IsString, IsToken}
use Rattle.path_tree.proofs.Gaps.{blank_below, NoGap, no_gap}
use Rattle.path_tree.proofs.Slices.{byte_within}
use Rattle.path_tree.proofs.Strings.{Stops, content_le, one_content}
use Rattle.path_tree.proofs.Signs.{sign_short, sign_cases}
use Rattle.path_tree.proofs.Symbols.{one_symbol, IsSignByte, sign_first}

-- the first bytes of tokens of different kinds differ
pub letter_digit : (b : ℕ) → IsLetter b → IsDigit b → ⊥
letter_digit b (inl h) d = omega arith
letter_digit b (inr h) d = omega arith

pub letter_apostrophe : (b : ℕ) → IsLetter b → b ≡ 39 → ⊥
letter_apostrophe b (inl h) d = omega arith
letter_apostrophe b (inr h) d = omega arith

pub letter_sign : (b : ℕ) → IsLetter b → IsSignByte b → ⊥
letter_sign b h k = grind arith

pub digit_apostrophe : (b : ℕ) → IsDigit b → b ≡ 39 → ⊥
digit_apostrophe b h d = omega arith

pub digit_sign : (b : ℕ) → IsDigit b → IsSignByte b → ⊥
digit_sign b h k = grind arith

pub sign_apostrophe : (b : ℕ) → IsSignByte b → b ≡ 39 → ⊥
sign_apostrophe b h k = grind arith

letter_above : (b : ℕ) → IsLetter b → (65 ≤ b) × (b ≤ 122)
letter_above b (inl h) = (omega arith, omega arith)
letter_above b (inr h) = (omega arith, omega arith)

sign_above : (b : ℕ) → IsSignByte b → (40 ≤ b) × (b ≤ 93)
sign_above b (inl h) = (omega arith, omega arith)
sign_above b (inr (inl h)) = (omega arith, omega arith)
sign_above b (inr (inr h)) = (omega arith, omega arith)

pub word_byte_positive : (b : ℕ) → IsWordByte b → 0 < b
word_byte_positive b (inl h) = omega (arith, letter_above b h)
word_byte_positive b (inr (inl h)) = omega arith
word_byte_positive b (inr (inr h)) = omega arith

module _ (source : List ℕ) where
  pub sign_byte : (s : Symbol) (from to : ℕ) → IsSignAt source s from to → IsSignByte (slice_index source from)
  sign_byte s from to h =
      let first : slice_index (symbol_text s) 0 ≡ slice_index source from =
      elim (sign_cases source from to (symbol_text s) (sign_short s h.0) h.2 h.3) [ inl w ↦ ap (λ xs. get_or xs 0 0) w.1 | inr w ↦ ap (λ xs. get_or xs 0 0) w.1 ] in
      subst IsSignByte first (sign_first s h.0)

  pub run_first : (P : ℕ → Type 0) (from to : ℕ) → IsRun P source from to → P (slice_index source from)
  run_first P from to h = h.2 from (omega arith) h.0

  -- what begins with a byte above a blank, and opens no comment, begins no gap
  visible_no_gap : (at : ℕ) → 33 ≤ slice_index source at → (OpensComment source at → ⊥) → NoGap source at
  visible_no_gap at above no_comment to g = no_gap source (λ h. omega (arith, blank_below (slice_index source at) h)) no_comment g

  pub plain_no_comment : (at : ℕ) → (slice_index source at ≢ 123) → (slice_index source at ≢ 40) → OpensComment source at → ⊥
  plain_no_comment at no_brace no_paren (inl h) = no_brace h
  plain_no_comment at no_brace no_paren (inr h) = no_paren h.0

  pub letter_opens_none : (at : ℕ) → IsLetter (slice_index source at) → OpensComment source at → ⊥
  letter_opens_none at h = let b = letter_above (slice_index source at) h in plain_no_comment at (omega arith) (omega arith)

  pub digit_opens_none : (at : ℕ) → IsDigit (slice_index source at) → OpensComment source at → ⊥
  digit_opens_none at h = plain_no_comment at (omega arith) (omega arith)

  pub apostrophe_opens_none : (at : ℕ) → slice_index source at ≡ 39 → OpensComment source at → ⊥
  apostrophe_opens_none at h = plain_no_comment at (omega arith) (omega arith)

  -- no comment opens where a token begins
  pub token_opens_none : (lexeme : Lexeme) (from to : ℕ) → IsToken source lexeme from to → OpensComment source from → ⊥
  token_opens_none (symbol s) from to (inl h) = h.5
  token_opens_none (symbol s) from to (inr h) = letter_opens_none from h.1.0
  token_opens_none (number n) from to h = digit_opens_none from (run_first IsDigit from to h.0)
  token_opens_none (identifier name) from to h = letter_opens_none from h.0.0
  token_opens_none (string content) from to h = apostrophe_opens_none from h.1
  token_opens_none end_mark from to h = absurd h

  pub letter_no_gap : (at : ℕ) → IsLetter (slice_index source at) → NoGap source at
  letter_no_gap at h = let b = letter_above (slice_index source at) h in visible_no_gap at (omega arith) (letter_opens_none at h)

  pub digit_no_gap : (at : ℕ) → IsDigit (slice_index source at) → NoGap source at
  digit_no_gap at h = visible_no_gap at (omega arith) (digit_opens_none at h)

  pub apostrophe_no_gap : (at : ℕ) → slice_index source at ≡ 39 → NoGap source at
  apostrophe_no_gap at h = visible_no_gap at (omega arith) (apostrophe_opens_none at h)

  -- no gap begins where a token begins
  pub token_no_gap : (lexeme : Lexeme) (from to : ℕ) → IsToken source lexeme from to → NoGap source from
  token_no_gap (symbol s) from to (inl h) = visible_no_gap from (omega (arith, sign_above (slice_index source from) (sign_byte s from to h))) h.5
  token_no_gap (symbol s) from to (inr h) = letter_no_gap from h.1.0
  token_no_gap (number n) from to h = digit_no_gap from (run_first IsDigit from to h.0)
  token_no_gap (identifier name) from to h = letter_no_gap from h.0.0
  token_no_gap (string content) from to h = apostrophe_no_gap from h.1
  token_no_gap end_mark from to h = absurd h

  -- a token has a byte, and ends within the source
  pub token_within : (lexeme : Lexeme) (from to : ℕ) → IsToken source lexeme from to → (from < to) × (to ≤ length source)
  token_within (symbol s) from to (inl h) = (h.1, h.2)
  token_within (symbol s) from to (inr h) = (h.1.1.0, h.1.1.1)
  token_within (number n) from to h = (h.0.0, h.0.1)
  token_within (identifier name) from to h = (h.0.1.0, h.0.1.1)
  token_within (string content) from to h =
      let inside = byte_within source h.0 (omega (arith, h.4)) in
      (omega (arith, content_le source (from + 1) content h.0 h.2, h.6), omega (arith, h.6))
  token_within end_mark from to h = absurd h

  run_le : (P : ℕ → Type 0) (from a b : ℕ) → IsRun P source from a → IsRun P source from b → b ≤ a
  run_le P from a b h k = ⊎_elim (λ before. absurd (h.3 (omega (arith, k.1)) (k.2 a (omega (arith, h.0)) before))) (λ w. w) (order a b)

  pub one_run : (P : ℕ → Type 0) (from a b : ℕ) → IsRun P source from a → IsRun P source from b → a ≡ b
  one_run P from a b h k = omega (arith, run_le P from a b h k, run_le P from b a k h)

  one_sign : (s t : Symbol) (from a b : ℕ) → IsSignAt source s from a → IsSignAt source t from b → (symbol s ≡ symbol t) × (a ≡ b)
  one_sign s t from a b h k =
      let ends : a ≡ b = omega (arith, h.4 t b k.0 k.2 k.3, k.4 s a h.0 h.2 h.3) in
      (ap symbol (one_symbol s t (sym h.3 ∙ ap (slice_range source from) ends ∙ k.3)), ends)

  pub closes_stops : (at : ℕ) → slice_index source at ≡ 39 → slice_index source (at + 1) ≢ 39 → Stops source at
  closes_stops at here next text twice = next (twice here)

  one_string : (c d : List ℕ) (from a b : ℕ) → IsString source c from a → IsString source d from b → (string c ≡ string d) × (a ≡ b)
  one_string c d from a b h k =
      let same = one_content source (from + 1) c d h.0 k.0 h.2 k.2 (closes_stops h.0 h.4 h.5) (closes_stops k.0 k.4 k.5) in
      (ap string same.0, omega (arith, same.1, h.6, k.6))

  word_text : (from a b : ℕ) → a ≡ b → str_to_ascii_lowercase (slice_range source from a) ≡ str_to_ascii_lowercase (slice_range source from b)
  word_text from a b ends = ap (λ x. str_to_ascii_lowercase (slice_range source from x)) ends

  -- at most one token begins at a place
  pub one_token : (x y : Lexeme) (from a b : ℕ) → IsToken source x from a → IsToken source y from b → (x ≡ y) × (a ≡ b)
  one_token (symbol s) (symbol t) from a b (inl h) (inl k) = one_sign s t from a b h k
  one_token (symbol s) (symbol t) from a b (inl h) (inr k) = absurd (letter_sign (slice_index source from) k.1.0 (sign_byte s from a h))
  one_token (symbol s) (symbol t) from a b (inr h) (inl k) = absurd (letter_sign (slice_index source from) h.1.0 (sign_byte t from b k))
  one_token (symbol s) (symbol t) from a b (inr h) (inr k) =
      let ends = one_run IsWordByte from a b h.1.1 k.1.1 in
      (ap symbol (one_symbol s t (sym h.2 ∙ word_text from a b ends ∙ k.2)), ends)
  one_token (symbol s) (number n) from a b (inl h) k = absurd (digit_sign (slice_index source from) (run_first IsDigit from b k.0) (sign_byte s from a h))
  one_token (symbol s) (number n) from a b (inr h) k = absurd (letter_digit (slice_index source from) h.1.0 (run_first IsDigit from b k.0))
  one_token (symbol s) (identifier name) from a b (inl h) k = absurd (letter_sign (slice_index source from) k.0.0 (sign_byte s from a h))
  one_token (symbol s) (identifier name) from a b (inr h) k =
      let ends = one_run IsWordByte from a b h.1.1 k.0.1 in
      absurd (k.2 s h.0 (k.1 ∙ sym (word_text from a b ends) ∙ h.2))
  one_token (symbol s) (string content) from a b (inl h) k = absurd (sign_apostrophe (slice_index source from) (sign_byte s from a h) k.1)
  one_token (symbol s) (string content) from a b (inr h) k = absurd (letter_apostrophe (slice_index source from) h.1.0 k.1)
  one_token (number n) (symbol s) from a b h (inl k) = absurd (digit_sign (slice_index source from) (run_first IsDigit from a h.0) (sign_byte s from b k))
  one_token (number n) (symbol s) from a b h (inr k) = absurd (letter_digit (slice_index source from) k.1.0 (run_first IsDigit from a h.0))
  one_token (number n) (number m) from a b h k =
      let ends = one_run IsDigit from a b h.0 k.0 in
      (ap number (h.1 ∙ ap (λ x. digits_value 10 (slice_range source from x)) ends ∙ sym k.1), ends)
  one_token (number n) (identifier name) from a b h k = absurd (letter_digit (slice_index source from) k.0.0 (run_first IsDigit from a h.0))
  one_token (number n) (string content) from a b h k = absurd (digit_apostrophe (slice_index source from) (run_first IsDigit from a h.0) k.1)
  one_token (identifier name) (symbol s) from a b h (inl k) = absurd (letter_sign (slice_index source from) h.0.0 (sign_byte s from b k))
  one_token (identifier name) (symbol s) from a b h (inr k) =
      let ends = one_run IsWordByte from a b h.0.1 k.1.1 in
      absurd (h.2 s k.0 (h.1 ∙ word_text from a b ends ∙ k.2))
  one_token (identifier name) (number n) from a b h k = absurd (letter_digit (slice_index source from) h.0.0 (run_first IsDigit from b k.0))
  one_token (identifier name) (identifier other) from a b h k =
      let ends = one_run IsWordByte from a b h.0.1 k.0.1 in
      (ap identifier (h.1 ∙ word_text from a b ends ∙ sym k.1), ends)
  one_token (identifier name) (string content) from a b h k = absurd (letter_apostrophe (slice_index source from) h.0.0 k.1)
  one_token (string content) (symbol s) from a b h (inl k) = absurd (sign_apostrophe (slice_index source from) (sign_byte s from b k) h.1)
  one_token (string content) (symbol s) from a b h (inr k) = absurd (letter_apostrophe (slice_index source from) k.1.0 h.1)
  one_token (string content) (number n) from a b h k = absurd (digit_apostrophe (slice_index source from) (run_first IsDigit from b k.0) h.1)
  one_token (string content) (identifier name) from a b h k = absurd (letter_apostrophe (slice_index source from) k.0.0 h.1)
  one_token (string content) (string other) from a b h k = one_string content other from a b h k
  one_token end_mark y from a b h k = absurd h
  one_token (symbol s) end_mark from a b h k = absurd k
  one_token (number n) end_mark from a b h k = absurd k
  one_token (identifier name) end_mark from a b h k = absurd k
  one_token (string content) end_mark from a b h k = absurd k

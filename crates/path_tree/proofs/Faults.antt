-- Where a fault stands, neither a gap nor a token begins.
use Rattle.std.proofs.Common.{◌≡◌, ◌≢◌, ℕ, ◌+◌, ◌<◌, ◌≤◌, List, length, slice_index, ap, ◌∙◌, subst, inl, inr, arith}
use Rattle.std.specs.Prelude.{◌⊎◌, slice_range}
use Rattle.std.specs.Str.Parse.{digits_value}
use Rattle.std.proofs.lemmas.List.{get_or_past}
use Rattle.path_tree.specs.declared.lex.fault.LexFault.{LexFault}
use Rattle.path_tree.specs.declared.lex.fault.LexFault.TheVariants as faults
use Rattle.path_tree.specs.Identifier.{IsLetter, IsDigit}
use Rattle.path_tree.specs.Lexeme.{Lexeme, symbol, number, identifier, string, end_mark}
use Rattle.path_tree.specs.Gap.{OpensComment}
use Rattle.path_tree.specs.Tokens.{Placed, IsWord, IsTextByte, most_string_bytes, IsString, IsToken, AreTokens, IsStray, IsLongWord, IsLargeNumber, IsStringStart, IsBadInString, IsOpenString, IsFaultAt, IsFirstFault}
use Rattle.path_tree.proofs.Gaps.{NoGap, no_gap, open_opens, open_no_gap}
use Rattle.path_tree.proofs.Slices.{byte_within}
use Rattle.path_tree.proofs.Strings.{Stops, content_longest, one_content}
use Rattle.path_tree.proofs.OneToken.{letter_digit, letter_apostrophe, letter_sign, digit_apostrophe, digit_sign, sign_apostrophe, word_byte_positive, sign_byte, run_first, letter_no_gap, digit_no_gap, apostrophe_no_gap, one_run, closes_stops, token_opens_none}
use Rattle.path_tree.proofs.TokenLists.{Halts, end_halts, one_reading}

module _ (source : List ℕ) where
  -- a token that begins with a letter is a word
  letter_word : (lexeme : Lexeme) (from to : ℕ) → IsLetter (slice_index source from) → IsToken source lexeme from to → IsWord source from to
  letter_word (symbol s) from to h (inl k) = absurd (letter_sign (slice_index source from) h (sign_byte source s from to k))
  letter_word (symbol s) from to h (inr k) = k.1
  letter_word (number n) from to h k = absurd (letter_digit (slice_index source from) h (run_first source IsDigit from to k.0))
  letter_word (identifier name) from to h k = k.0
  letter_word (string content) from to h k = absurd (letter_apostrophe (slice_index source from) h k.1)
  letter_word end_mark from to h k = absurd k

  -- one that begins with a digit is a number
  digit_number : (lexeme : Lexeme) (from to : ℕ) → IsDigit (slice_index source from) → IsToken source lexeme from to → (n : ℕ) × IsToken source (number n) from to
  digit_number (symbol s) from to h (inl k) = absurd (digit_sign (slice_index source from) h (sign_byte source s from to k))
  digit_number (symbol s) from to h (inr k) = absurd (letter_digit (slice_index source from) k.1.0 h)
  digit_number (number n) from to h k = (n, k)
  digit_number (identifier name) from to h k = absurd (letter_digit (slice_index source from) k.0.0 h)
  digit_number (string content) from to h k = absurd (digit_apostrophe (slice_index source from) h k.1)
  digit_number end_mark from to h k = absurd k

  -- one that begins with an apostrophe is a string
  apostrophe_string : (lexeme : Lexeme) (from to : ℕ) → slice_index source from ≡ 39 → IsToken source lexeme from to → (content : List ℕ) × IsString source content from to
  apostrophe_string (symbol s) from to h (inl k) = absurd (sign_apostrophe (slice_index source from) (sign_byte source s from to k) h)
  apostrophe_string (symbol s) from to h (inr k) = absurd (letter_apostrophe (slice_index source from) k.1.0 h)
  apostrophe_string (number n) from to h k = absurd (digit_apostrophe (slice_index source from) (run_first source IsDigit from to k.0) h)
  apostrophe_string (identifier name) from to h k = absurd (letter_apostrophe (slice_index source from) k.0.0 h)
  apostrophe_string (string content) from to h k = (content, k)
  apostrophe_string end_mark from to h k = absurd k

  stray_no_token : (lexeme : Lexeme) (from to : ℕ) → IsStray source from → IsToken source lexeme from to → ⊥
  stray_no_token (symbol s) from to h (inl k) = h.6 s to k.0 k.2 k.3
  stray_no_token (symbol s) from to h (inr k) = h.3 k.1.0
  stray_no_token (number n) from to h k = h.4 (run_first source IsDigit from to k.0)
  stray_no_token (identifier name) from to h k = h.3 k.0.0
  stray_no_token (string content) from to h k = h.5 k.1
  stray_no_token end_mark from to h k = k

  long_no_word : (from to : ℕ) → IsLongWord source from → IsWord source from to → ⊥
  long_no_word from to h k =
      let more = h.1 to (omega (arith, k.1.0)) k.2 in
      k.1.3 (byte_within source to (word_byte_positive (slice_index source to) more)) more

  large_no_number : (n from to : ℕ) → IsLargeNumber source from → IsToken source (number n) from to → ⊥
  large_no_number n from to (end, run, large) k =
      let ends = one_run source IsDigit from end to run k.0 in
      omega (arith, large, k.1, k.2, ap (λ x. digits_value 10 (slice_range source from x)) ends)

  -- content that stops where no apostrophe stands is in no string
  stopped_no_string : (content : List ℕ) (count from at to : ℕ) → IsStringStart source from count at → Stops source at → slice_index source at ≢ 39 → IsString source content from to → ⊥
  stopped_no_string content count from at to h stops no_close k =
      let same = one_content source (from + 1) h.0 content at k.0 h.2 k.2 stops (closes_stops source k.0 k.4 k.5) in
      no_close (ap (slice_index source) same.1 ∙ k.4)

  long_no_string : (content : List ℕ) (from at to : ℕ) → IsStringStart source from (most_string_bytes + 1) at → IsString source content from to → ⊥
  long_no_string content from at to h k =
      omega (arith, content_longest source (from + 1) h.0 content at k.0 h.2 k.2 (closes_stops source k.0 k.4 k.5), h.3, k.3)

  pub end_stops : (at : ℕ) → (length source ≤ at) ⊎ (slice_index source at ≡ 10) → (IsTextByte (slice_index source at) → ⊥) × (slice_index source at ≢ 39)
  end_stops at (inl past) = let none = get_or_past source at 0 past in (λ text. omega arith, omega arith)
  end_stops at (inr line) = (λ text. omega arith, omega arith)

  open_no_string : (content : List ℕ) (from to : ℕ) → IsOpenString source from → IsString source content from to → ⊥
  open_no_string content from to (count, at, start, inl w) k =
      let stops = end_stops at w.1 in
      stopped_no_string content count from at to start (λ text twice. stops.0 text) stops.1 k
  open_no_string content from to (count, at, start, inr w) k =
      long_no_string content from at to (subst (λ n. IsStringStart source from n at) w start) k

  bad_no_string : (content : List ℕ) (from at to : ℕ) → IsBadInString source from at → IsString source content from to → ⊥
  bad_no_string content from at to h k =
      stopped_no_string content h.0 from at to h.1 (λ text twice. h.4 text) (λ close. h.4 (omega arith, omega arith)) k

  pub fault_no_token : (fault : LexFault) (from : ℕ) → IsFaultAt source from fault → (lexeme : Lexeme) (to : ℕ) → IsToken source lexeme from to → ⊥
  fault_no_token faults.TooLong from h lexeme to k = h
  fault_no_token (faults.BadByte at) from (inl h) lexeme to k = stray_no_token lexeme from to h.0 k
  fault_no_token (faults.BadByte at) from (inr (inl h)) lexeme to k = long_no_word from to h.0 (letter_word lexeme from to h.0.0 k)
  fault_no_token (faults.BadByte at) from (inr (inr h)) lexeme to k =
      let s = apostrophe_string lexeme from to h.1.1 k in bad_no_string s.0 from at to h s.1
  fault_no_token (faults.OpenComment at) from h lexeme to k = token_opens_none source lexeme from to k (open_opens source from h.0)
  fault_no_token (faults.OpenString at) from h lexeme to k =
      let s = apostrophe_string lexeme from to h.0.2.1 k in open_no_string s.0 from to h.0 s.1
  fault_no_token (faults.BadNumber at) from h lexeme to k =
      let n = digit_number lexeme from to (run_first source IsDigit from h.0.0 h.0.1) k in large_no_number n.0 from to h.0 n.1
  fault_no_token faults.Memory from h lexeme to k = h

  pub fault_no_gap : (fault : LexFault) (from : ℕ) → IsFaultAt source from fault → NoGap source from
  fault_no_gap faults.TooLong from h = absurd h
  fault_no_gap (faults.BadByte at) from (inl h) = λ to g. no_gap source h.0.1 h.0.2 g
  fault_no_gap (faults.BadByte at) from (inr (inl h)) = letter_no_gap source from h.0.0
  fault_no_gap (faults.BadByte at) from (inr (inr h)) = apostrophe_no_gap source from h.1.1
  fault_no_gap (faults.OpenComment at) from h = λ to g. open_no_gap source h.0 g
  fault_no_gap (faults.OpenString at) from h = apostrophe_no_gap source from h.0.2.1
  fault_no_gap (faults.BadNumber at) from h = digit_no_gap source from (run_first source IsDigit from h.0.0 h.0.1)
  fault_no_gap faults.Memory from h = absurd h

  open_within : (from : ℕ) → OpensComment source from → from < length source
  open_within from (inl h) = byte_within source from (omega arith)
  open_within from (inr h) = byte_within source from (omega (arith, h.0))

  pub fault_within : (fault : LexFault) (from : ℕ) → IsFaultAt source from fault → from < length source
  fault_within faults.TooLong from h = absurd h
  fault_within (faults.BadByte at) from (inl h) = h.0.0
  fault_within (faults.BadByte at) from (inr (inl h)) = byte_within source from (word_byte_positive (slice_index source from) (inl h.0.0))
  fault_within (faults.BadByte at) from (inr (inr h)) = byte_within source from (omega (arith, h.1.1))
  fault_within (faults.OpenComment at) from h = open_within from (open_opens source from h.0)
  fault_within (faults.OpenString at) from h = byte_within source from (omega (arith, h.0.2.1))
  fault_within (faults.BadNumber at) from h = omega (arith, h.0.1.0, h.0.1.1)
  fault_within faults.Memory from h = absurd h

  pub fault_halts : (fault : LexFault) (from : ℕ) → IsFaultAt source from fault → Halts source from
  fault_halts fault from h = (fault_no_gap fault from h, fault_no_token fault from h)

  -- a source with a fault has no tokens
  pub no_tokens : (fault : LexFault) (all : List Placed) → IsFirstFault source fault → AreTokens source all → ⊥
  no_tokens fault all h k =
      let same = one_reading source 0 h.tokens k.tokens h.last k.last h.from (length source) h.in_order h.gap (fault_halts fault h.from h.fault_there) k.in_order k.gap (end_halts source) in
      omega (arith, same.1, fault_within fault h.from h.fault_there)

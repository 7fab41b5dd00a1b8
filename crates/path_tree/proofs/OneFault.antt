-- A source has at most one first fault.
use Rattle.std.proofs.Common.{◌≡◌, ℕ, ◌+◌, List, slice_index, sym, ap, ◌∙◌, subst, inl, inr, arith}
use Rattle.path_tree.specs.declared.lex.fault.LexFault.{LexFault}
use Rattle.path_tree.specs.declared.lex.fault.LexFault.TheVariants as faults
use Rattle.path_tree.specs.Identifier.{IsDigit}
use Rattle.path_tree.specs.Tokens.{IsBadInString, IsOpenString, IsFaultAt, IsFirstFault}
use Rattle.path_tree.proofs.Gaps.{open_opens}
use Rattle.path_tree.proofs.Strings.{content_longest, one_content}
use Rattle.path_tree.proofs.OneToken.{letter_digit, letter_apostrophe, digit_apostrophe, run_first, letter_opens_none, digit_opens_none, apostrophe_opens_none}
use Rattle.path_tree.proofs.TokenLists.{one_reading}
use Rattle.path_tree.proofs.Faults.{end_stops, fault_halts}

module _ (source : List ℕ) where
  one_bad_byte : (from a b : ℕ) → IsBadInString source from a → IsBadInString source from b → a ≡ b
  one_bad_byte from a b h k =
      (one_content source (from + 1) h.1.0 k.1.0 a b h.1.2 k.1.2 (λ text twice. h.4 text) (λ text twice. k.4 text)).1

  bad_or_open : (from a : ℕ) → IsBadInString source from a → IsOpenString source from → ⊥
  bad_or_open from a h (count, at, start, inl w) =
      let stops = end_stops source at w.1 in
      let same = (one_content source (from + 1) h.1.0 start.0 a at h.1.2 start.2 (λ text twice. h.4 text) (λ text twice. stops.0 text)).1 in
      elim w.1 [ inl past ↦ omega (arith, h.3) | inr line ↦ h.5 (ap (slice_index source) same ∙ line) ]
  bad_or_open from a h (count, at, start, inr w) =
      omega (arith, content_longest source (from + 1) start.0 h.1.0 at a start.2 h.1.2 (λ text twice. h.4 text), h.1.3, start.3, h.2)

  bad_or_comment : (a b from : ℕ) → IsFaultAt source from (faults.BadByte a) → IsFaultAt source from (faults.OpenComment b) → ⊥
  bad_or_comment a b from (inl h) k = h.0.2 (open_opens source from k.0)
  bad_or_comment a b from (inr (inl h)) k = letter_opens_none source from h.0.0 (open_opens source from k.0)
  bad_or_comment a b from (inr (inr h)) k = apostrophe_opens_none source from h.1.1 (open_opens source from k.0)

  bad_or_string : (a b from : ℕ) → IsFaultAt source from (faults.BadByte a) → IsFaultAt source from (faults.OpenString b) → ⊥
  bad_or_string a b from (inl h) k = h.0.5 k.0.2.1
  bad_or_string a b from (inr (inl h)) k = letter_apostrophe (slice_index source from) h.0.0 k.0.2.1
  bad_or_string a b from (inr (inr h)) k = bad_or_open from a h k.0

  bad_or_number : (a b from : ℕ) → IsFaultAt source from (faults.BadByte a) → IsFaultAt source from (faults.BadNumber b) → ⊥
  bad_or_number a b from (inl h) k = h.0.4 (run_first source IsDigit from k.0.0 k.0.1)
  bad_or_number a b from (inr (inl h)) k = letter_digit (slice_index source from) h.0.0 (run_first source IsDigit from k.0.0 k.0.1)
  bad_or_number a b from (inr (inr h)) k = digit_apostrophe (slice_index source from) (run_first source IsDigit from k.0.0 k.0.1) h.1.1

  -- two faults at one place are one
  one_fault : (f g : LexFault) (from : ℕ) → IsFaultAt source from f → IsFaultAt source from g → f ≡ g
  one_fault faults.TooLong g from h k = absurd h
  one_fault faults.Memory g from h k = absurd h
  one_fault (faults.BadByte a) faults.TooLong from h k = absurd k
  one_fault (faults.BadByte a) faults.Memory from h k = absurd k
  one_fault (faults.BadByte a) (faults.BadByte b) from (inl h) (inl k) = ap faults.BadByte (h.1 ∙ sym k.1)
  one_fault (faults.BadByte a) (faults.BadByte b) from (inl h) (inr (inl k)) = absurd (h.0.3 k.0.0)
  one_fault (faults.BadByte a) (faults.BadByte b) from (inl h) (inr (inr k)) = absurd (h.0.5 k.1.1)
  one_fault (faults.BadByte a) (faults.BadByte b) from (inr (inl h)) (inl k) = absurd (k.0.3 h.0.0)
  one_fault (faults.BadByte a) (faults.BadByte b) from (inr (inl h)) (inr (inl k)) = ap faults.BadByte (h.1 ∙ sym k.1)
  one_fault (faults.BadByte a) (faults.BadByte b) from (inr (inl h)) (inr (inr k)) = absurd (letter_apostrophe (slice_index source from) h.0.0 k.1.1)
  one_fault (faults.BadByte a) (faults.BadByte b) from (inr (inr h)) (inl k) = absurd (k.0.5 h.1.1)
  one_fault (faults.BadByte a) (faults.BadByte b) from (inr (inr h)) (inr (inl k)) = absurd (letter_apostrophe (slice_index source from) k.0.0 h.1.1)
  one_fault (faults.BadByte a) (faults.BadByte b) from (inr (inr h)) (inr (inr k)) = ap faults.BadByte (one_bad_byte from a b h k)
  one_fault (faults.BadByte a) (faults.OpenComment b) from h k = absurd (bad_or_comment a b from h k)
  one_fault (faults.BadByte a) (faults.OpenString b) from h k = absurd (bad_or_string a b from h k)
  one_fault (faults.BadByte a) (faults.BadNumber b) from h k = absurd (bad_or_number a b from h k)
  one_fault (faults.OpenComment a) (faults.BadByte b) from h k = absurd (bad_or_comment b a from k h)
  one_fault (faults.OpenComment a) (faults.OpenComment b) from h k = ap faults.OpenComment (h.1 ∙ sym k.1)
  one_fault (faults.OpenComment a) (faults.OpenString b) from h k = absurd (apostrophe_opens_none source from k.0.2.1 (open_opens source from h.0))
  one_fault (faults.OpenComment a) (faults.BadNumber b) from h k = absurd (digit_opens_none source from (run_first source IsDigit from k.0.0 k.0.1) (open_opens source from h.0))
  one_fault (faults.OpenComment a) faults.TooLong from h k = absurd k
  one_fault (faults.OpenComment a) faults.Memory from h k = absurd k
  one_fault (faults.OpenString a) (faults.BadByte b) from h k = absurd (bad_or_string b a from k h)
  one_fault (faults.OpenString a) (faults.OpenComment b) from h k = absurd (apostrophe_opens_none source from h.0.2.1 (open_opens source from k.0))
  one_fault (faults.OpenString a) (faults.OpenString b) from h k = ap faults.OpenString (h.1 ∙ sym k.1)
  one_fault (faults.OpenString a) (faults.BadNumber b) from h k = absurd (digit_apostrophe (slice_index source from) (run_first source IsDigit from k.0.0 k.0.1) h.0.2.1)
  one_fault (faults.OpenString a) faults.TooLong from h k = absurd k
  one_fault (faults.OpenString a) faults.Memory from h k = absurd k
  one_fault (faults.BadNumber a) (faults.BadByte b) from h k = absurd (bad_or_number b a from k h)
  one_fault (faults.BadNumber a) (faults.OpenComment b) from h k = absurd (digit_opens_none source from (run_first source IsDigit from h.0.0 h.0.1) (open_opens source from k.0))
  one_fault (faults.BadNumber a) (faults.OpenString b) from h k = absurd (digit_apostrophe (slice_index source from) (run_first source IsDigit from h.0.0 h.0.1) k.0.2.1)
  one_fault (faults.BadNumber a) (faults.BadNumber b) from h k = ap faults.BadNumber (h.1 ∙ sym k.1)
  one_fault (faults.BadNumber a) faults.TooLong from h k = absurd k
  one_fault (faults.BadNumber a) faults.Memory from h k = absurd k

  pub one_first_fault : (f g : LexFault) → IsFirstFault source f → IsFirstFault source g → f ≡ g
  one_first_fault f g h k =
      let same = one_reading source 0 h.tokens k.tokens h.last k.last h.from k.from h.in_order h.gap (fault_halts source f h.from h.fault_there) k.in_order k.gap (fault_halts source g k.from k.fault_there) in
      one_fault f g k.from (subst (λ x. IsFaultAt source x f) same.1 h.fault_there) k.fault_there

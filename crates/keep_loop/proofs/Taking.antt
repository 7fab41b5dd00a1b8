-- Lines of a text, and those without check lines.
use Rattle.std.proofs.Common.{◌≡◌, ◌≢◌, ◌⊎◌, inl, inr, ℕ, ◌+◌, ◌-◌, ◌^◌, ◌<◌, ◌≤◌, List, [], ◌∷◌, ◌++◌, length, take, drop, refl, sym, ◌∙◌, ap, subst, arith, append_assoc, length-append, eqb-true}
use Rattle.std.specs.Prelude.{Bool, true, false, cond, ◌||◌, ◌&&◌, ◌==◌, Option, Some, None, Result, Ok, Err, IfOk, codes, decimal, bit_xor}
use Rattle.std.specs.List.{concat}
use Rattle.std.proofs.lemmas.List.{append-nil, take_at}
use Rattle.std.proofs.lemmas.List.Elements.{All-head, All-tail}
use Rattle.std.proofs.lemmas.Bool.Decides.{nat_tests}
use Rattle.keep_loop.specs.Texts.{NoLineFeed}
use Rattle.keep_loop.specs.Journal.{whole, has_end, written}
use Rattle.keep_loop.specs.Crc.{crc_more, crc_start, crc_of}
use Rattle.keep_loop.specs.Taken.{CutFirst, NoZero, SaysMore, HasMore, says_stored, onto, cut, plain, since, begins_with, is_check, is_front_line, has_check, has_front, check_line, hex_digits, front_word, stored_word, IsFrontRight, IsRoundRight, IsRight, AreRight}
use Rattle.keep_loop.proofs.Lines.{whole_past}
use Rattle.keep_loop.proofs.Texts.{concat_append, right_append, cut_append, cut_end, cut_on, plain_other, plain_check, plain_append, IsOne}
use Rattle.keep_loop.proofs.Told.{ended_whole}
use Rattle.keep_loop.proofs.CheckLines.{cancel, same_size}

-- all lines
no_end : (text : List ℕ) → NoLineFeed text → has_end text ≡ false
no_end [] none = refl
no_end (byte ∷ text) none =
    let here : (byte == 10) ≡ false = All-head (λ b. (b == 10) ≡ false) byte text none in
    let later : has_end text ≡ false = no_end text (All-tail (λ b. (b == 10) ≡ false) byte text none) in
    ap (λ b. b || has_end text) here ∙ later

pub whole_nothing : (text : List ℕ) → NoLineFeed text → whole text ≡ []
whole_nothing [] none = refl
whole_nothing (byte ∷ text) none = ap (λ b. cond b (byte ∷ whole text) []) (no_end (byte ∷ text) none)

pub quiet_of : (text : List ℕ) → NoLineFeed text → IsOne text
quiet_of [] none = tt
quiet_of (byte ∷ text) none =
    let here : (byte == 10) ≡ false = All-head (λ b. (b == 10) ≡ false) byte text none in
    (λ is. absurd (grind (arith, nat_tests)), quiet_of text (All-tail (λ b. (b == 10) ≡ false) byte text none))

cut_ended : (line more : List ℕ) → IsOne line → cut (line ++ 10 ∷ more) ≡ (line ++ 10 ∷ []) ∷ cut more
cut_ended [] more one = cut_end 10 more refl
cut_ended (byte ∷ line) more one = cut_on byte (line ++ 10 ∷ more) one.0 ∙ ap (λ (l : List (List ℕ)). onto byte l) (cut_ended line more one.1)

pub cut_first : (text front line more : List ℕ) → NoLineFeed front → text ≡ front ++ 10 ∷ more → line ≡ front ++ 10 ∷ [] → CutFirst text line more
cut_first text front line more none is line_is = record {
  cut_is = ap cut is ∙ cut_ended front more (quiet_of front none) ∙ ap (λ (l : List ℕ). l ∷ cut more) (sym line_is);
  alone = ap cut line_is ∙ cut_ended front [] (quiet_of front none) ∙ ap (λ (l : List ℕ). l ∷ []) (sym line_is);
  is = is ∙ sym (append_assoc front (10 ∷ []) more) ∙ ap (λ (l : List ℕ). l ++ more) (sym line_is);
  ended = ap whole line_is ∙ ended_whole front ∙ sym line_is;
  some = omega (arith, ap length line_is, length-append front (10 ∷ []));
}

-- a check line among lines
pub check_first : (rest line more : List ℕ) → CutFirst rest line more → has_check (cut (whole rest)) ≡ (is_check line || has_check (cut (whole more)))
check_first rest line more c =
    let all : whole rest ≡ line ++ whole more = ap whole c.is ∙ whole_past line more c.ended in
    ap has_check (ap cut all ∙ cut_append line (whole more) c.ended ∙ ap (λ (l : List (List ℕ)). l ++ cut (whole more)) c.alone)

pub check_none : (rest : List ℕ) → NoLineFeed rest → has_check (cut (whole rest)) ≡ false
check_none rest none = ap (λ (l : List ℕ). has_check (cut l)) (whole_nothing rest none)

-- a line with its line feed
pub cut_taken : (text front more : List ℕ) → text ≡ front ++ 10 ∷ more → take (length front + 1) text ≡ front ++ 10 ∷ []
cut_taken text front more is =
    ap (λ (l : List ℕ). take (length front + 1) l) (is ∙ sym (append_assoc front (10 ∷ []) more)) ∙ take_at (front ++ 10 ∷ []) more (length front + 1) (omega (arith, length-append front (10 ∷ [])))

-- a line more, where it is no check line
pub check_left_out : (out line : List ℕ) → is_check line ≡ true → out ≡ out ++ plain (line ∷ [])
check_left_out out line is = sym (ap (λ (l : List ℕ). out ++ l) (plain_check line [] is) ∙ append-nil out)

pub line_added : (out line : List ℕ) → is_check line ≡ false → out ++ line ≡ out ++ plain (line ∷ [])
line_added out line is = ap (λ (l : List ℕ). out ++ l) (sym (plain_other line [] is ∙ append-nil line))

pub plain_next : (out rest line more : List ℕ) → CutFirst rest line more → (out ++ plain (line ∷ [])) ++ plain (cut (whole more)) ≡ out ++ plain (cut (whole rest))
plain_next out rest line more c =
    let all : whole rest ≡ line ++ whole more = ap whole c.is ∙ whole_past line more c.ended in
    let cuts : cut (whole rest) ≡ (line ∷ []) ++ cut (whole more) = ap cut all ∙ cut_append line (whole more) c.ended ∙ ap (λ (l : List (List ℕ)). l ++ cut (whole more)) c.alone in
    append_assoc out (plain (line ∷ [])) (plain (cut (whole more))) ∙ ap (λ (l : List ℕ). out ++ l) (sym (plain_append (line ∷ []) (cut (whole more)))) ∙ ap (λ l. out ++ plain l) (sym cuts)

pub plain_done : (out rest : List ℕ) → NoLineFeed rest → out ++ plain (cut (whole rest)) ≡ out
plain_done out rest none = ap (λ (l : List ℕ). out ++ plain (cut l)) (whole_nothing rest none) ∙ append-nil out

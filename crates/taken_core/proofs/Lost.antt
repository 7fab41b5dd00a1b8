-- What says that more was stored.
use Rattle.std.proofs.Common.{◌≡◌, ◌⊎◌, inl, inr, ℕ, ◌+◌, ◌-◌, ◌^◌, ◌<◌, ◌≤◌, List, [], ◌∷◌, ◌++◌, length, take, drop, refl, sym, ◌∙◌, ap, subst, arith, append_assoc, length-drop}
use Rattle.std.proofs.lemmas.List.{take_all}
use Rattle.std.specs.Prelude.{Bool, false, cond, ◌==◌, Option, Some, None, MatchOption}
use Rattle.std.proofs.lemmas.List.Elements.{All-head, All-tail}
use Rattle.keep_loop.specs.Texts.{NoLineFeed}
use Rattle.keep_loop.specs.Journal.{written}
use Rattle.keep_loop.specs.Taken.{NoZero, SaysMore, HasMore, says_stored, spelled, stored_word}
use Rattle.taken_core.specs.TakeFile.{Tests, Lacks}
use Rattle.keep_loop.proofs.Taking.{quiet_of}
use Rattle.keep_loop.proofs.Texts.{IsOne}
use Rattle.keep_loop.proofs.CheckLines.{same_size}

pub written_all : (file : List ℕ) → NoZero file → written file ≡ file
written_all [] none = refl
written_all (byte ∷ file) none =
    let here : (byte == 0) ≡ false = All-head (λ b. (b == 0) ≡ false) byte file none in
    ap (λ b. cond b [] (byte ∷ written file)) here ∙ ap (λ (l : List ℕ). byte ∷ l) (written_all file (All-tail (λ b. (b == 0) ≡ false) byte file none))

pub written_front : (front more : List ℕ) → NoZero front → written (front ++ 0 ∷ more) ≡ front
written_front [] more none = refl
written_front (byte ∷ front) more none =
    let here : (byte == 0) ≡ false = All-head (λ b. (b == 0) ≡ false) byte front none in
    ap (λ b. cond b [] (byte ∷ written (front ++ 0 ∷ more))) here ∙ ap (λ (l : List ℕ). byte ∷ l) (written_front front more (All-tail (λ b. (b == 0) ≡ false) byte front none))

feed_cases : (line before more rest : List ℕ) → IsOne line → line ++ 10 ∷ more ≡ before ++ 10 ∷ rest → (more ≡ rest) ⊎ ((b : List ℕ) × (more ≡ b ++ 10 ∷ rest))
feed_cases [] [] more rest one is = inl (cc is)
feed_cases [] (byte ∷ before) more rest one is = inr (before, cc is)
feed_cases (byte ∷ line) [] more rest one is = absurd (one.0 (cc is))
feed_cases (byte ∷ line) (x ∷ before) more rest one is = feed_cases line before more rest one.1 (cc is)

pub more_on : (text line more : List ℕ) (written : ℕ) → NoLineFeed line → text ≡ line ++ 10 ∷ more → (SaysMore more written → ⊥) → HasMore text written → HasMore more written
more_on text line more written none is not has =
    elim (feed_cases line has.0 more has.1 (quiet_of line none) (sym is ∙ has.2)) [
      | inl same ↦ absurd (not (subst (λ (l : List ℕ). SaysMore l written) (sym same) has.3))
      | inr later ↦ (later.0, has.1, later.1, has.3)
    ]

pub more_back : (text line more : List ℕ) (written : ℕ) → text ≡ line ++ 10 ∷ more → HasMore more written → HasMore text written
more_back text line more written is has =
    (line ++ 10 ∷ has.0, has.1, is ∙ ap (λ (l : List ℕ). line ++ 10 ∷ l) has.2 ∙ sym (append_assoc line (10 ∷ has.0) (10 ∷ has.1)), has.3)

pub more_here : (text line more : List ℕ) (written : ℕ) → text ≡ line ++ 10 ∷ more → SaysMore more written → HasMore text written
more_here text line more written is says = (line, more, is, says)

no_ten : (a b : List ℕ) → IsOne (a ++ 10 ∷ b) → ⊥
no_ten [] b one = one.0 refl
no_ten (byte ∷ a) b one = no_ten a b one.1

pub more_none : (text : List ℕ) (written : ℕ) → NoLineFeed text → HasMore text written → ⊥
more_none text written none has = no_ten has.0 has.1 (subst IsOne has.2 (quiet_of text none))

-- the number that a text says
pub says_tests : (text : List ℕ) (written size : ℕ) (more : List ℕ) → size < 2 ^ 64 → text ≡ says_stored size more → SaysMore text written → written < size
says_tests text written size more small is says =
    let same : says.0 ≡ size = same_size says.0 size says.1 more says.2 small (sym says.3 ∙ is) in omega (arith, same, says.4)

-- what is read of a text
abbrev pub IsRead : List ℕ → Option ℕ → Type 0
IsRead text found = MatchOption found ((size : ℕ) (more : List ℕ) → size < 2 ^ 64 → text ≡ spelled stored_word size more → ⊥) (λ size. (size < 2 ^ 64) × (more : List ℕ) × (text ≡ spelled stored_word size more))

pub says_read : (text : List ℕ) (written size : ℕ) (found : Option ℕ) → IsRead text found → found ≡ Some size → written < size → SaysMore text written
says_read text written size None read is more = absurd (cc is)
says_read text written size (Some n) read is more = let same : n ≡ size = cc is in (n, read.1, read.0, read.2, omega (arith, same, more))

pub says_few : (text : List ℕ) (written size : ℕ) (found : Option ℕ) → IsRead text found → found ≡ Some size → size ≤ written → SaysMore text written → ⊥
says_few text written size None read is few says = absurd (cc is)
says_few text written size (Some n) read is few says =
    let same : n ≡ size = cc is in
    let more = says_tests text written n read.1 read.0 read.2 says in absurd (omega (arith, same, few, more))

pub says_none : (text : List ℕ) (written : ℕ) (found : Option ℕ) → IsRead text found → found ≡ None → SaysMore text written → ⊥
says_none text written None read is says = read says.0 says.1 says.2 says.3
says_none text written (Some n) read is says = absurd (cc is)

-- what a file lacks
pub slice_behind : (file : List ℕ) (n : ℕ) → take (length file - n) (drop n file) ≡ drop n file
slice_behind file n = take_all (length file - n) (drop n file) (omega (arith, length-drop n file))

pub lacks_test : (file : List ℕ) (n : ℕ) (is : Bool) → n ≡ length (written file) → Tests is (HasMore (take (length file - n) (drop n file)) n) → Tests is (Lacks file)
lacks_test file n is same t =
    let all = subst (λ (l : List ℕ). Tests is (HasMore l n)) (slice_behind file n) t in subst (λ (k : ℕ). Tests is (HasMore (drop k file) k)) same all

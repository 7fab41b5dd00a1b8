-- Where a line stands among those of a file.
use Rattle.std.proofs.Common.{◌≡◌, ◌⊎◌, inl, inr, ℕ, suc, ◌+◌, ◌-◌, ◌^◌, ◌<◌, ◌≤◌, List, [], ◌∷◌, ◌++◌, sym, ◌∙◌, ap, subst, arith}
use Rattle.std.specs.Prelude.{true, false, cond, min, codes}
use Rattle.keep_loop.specs.Journal.{whole, recovered}
use Rattle.keep_loop.specs.Texts.{NoLineFeed}
use Rattle.keep_loop.specs.Taken.{CutFirst, cut, is_check, begins_with, Names}
use Rattle.keep_loop.proofs.Lines.{whole_past, bool_cases, recovered_lines}
use Rattle.keep_loop.proofs.Texts.{cut_append}
use Rattle.keep_loop.proofs.Taking.{whole_nothing}
use Rattle.keep_loop.proofs.Heads.{names_one}
use Rattle.taken_core.specs.TakeFile.{count_plain, IsPlaceOf, IsBare}

count_check : (line : List ℕ) (lines : List (List ℕ)) → is_check line ≡ true → count_plain (line ∷ lines) ≡ count_plain lines
count_check line lines is = ap (λ b. cond b (count_plain lines) (suc (count_plain lines))) is

count_other : (line : List ℕ) (lines : List (List ℕ)) → is_check line ≡ false → count_plain (line ∷ lines) ≡ suc (count_plain lines)
count_other line lines is = ap (λ b. cond b (count_plain lines) (suc (count_plain lines))) is

cuts : (rest line more : List ℕ) → CutFirst rest line more → cut (whole rest) ≡ line ∷ cut (whole more)
cuts rest line more c =
    let all : whole rest ≡ line ++ whole more = ap whole c.is ∙ whole_past line more c.ended in
    ap cut all ∙ cut_append line (whole more) c.ended ∙ ap (λ (l : List (List ℕ)). l ++ cut (whole more)) c.alone

first_of : (a b : List ℕ) (x y : List (List ℕ)) → a ∷ x ≡ b ∷ y → a ≡ b
first_of a b x y is = cc is

others_of : (a b : List ℕ) (x y : List (List ℕ)) → a ∷ x ≡ b ∷ y → x ≡ y
others_of a b x y is = cc is

here : (lines : List (List ℕ)) (line : List ℕ) (left number : ℕ) → is_check line ≡ false → left ≤ 1 → number < 2 ^ 64 → IsPlaceOf (line ∷ lines) left number number
here lines line left number other few small [] more l is l_other left_is = omega (arith, small)
here lines line left number other few small (b ∷ before) more l is l_other left_is =
    let same : is_check b ≡ false = ap is_check (sym (first_of line b lines (before ++ l ∷ more) is)) ∙ other in
    let one : count_plain (b ∷ before) ≡ suc (count_plain before) = count_other b before same in
    absurd (omega (arith, one, few, left_is))

past : (lines : List (List ℕ)) (line : List ℕ) (left next number after place : ℕ) → (is_check line ≡ true) ⊎ (1 < left) → (is_check line ≡ true → next ≡ left) → (is_check line ≡ false → next ≡ left - 1) → after ≡ min (number + 1) (2 ^ 64 - 1) →
    IsPlaceOf lines next after place → IsPlaceOf (line ∷ lines) left number place
past lines line left next number after place way check other after_is at [] more l is l_other left_is =
    let same : is_check line ≡ false = ap is_check (first_of line l lines more is) ∙ l_other in
    elim way [
      | inl check_is ↦ absurd (cc (check_is, same))
      | inr big ↦ absurd (omega (arith, big, left_is))
    ]
past lines line left next number after place way check other after_is at (b ∷ before) more l is l_other left_is =
    let same : is_check b ≡ is_check line = ap is_check (sym (first_of line b lines (before ++ l ∷ more) is)) in
    let rest = others_of line b lines (before ++ l ∷ more) is in
    elim (bool_cases (is_check line)) [
      | inl check_is ↦
          let one : count_plain (b ∷ before) ≡ count_plain before = count_check b before (same ∙ check_is) in
          let next_is = check check_is in
          let place_is = at before more l rest l_other (omega (arith, one, next_is, left_is)) in
          omega (arith, place_is, after_is)
      | inr other_is ↦
          let one : count_plain (b ∷ before) ≡ suc (count_plain before) = count_other b before (same ∙ other_is) in
          let next_is = other other_is in
          let place_is = at before more l rest l_other (omega (arith, one, next_is, left_is)) in
          omega (arith, place_is, after_is)
    ]

pub place_here : (rest line more : List ℕ) (left number : ℕ) → CutFirst rest line more → (is_check line ≡ false) × (left ≤ 1) → number < 2 ^ 64 → IsPlaceOf (cut (whole rest)) left number number
place_here rest line more left number c found small = subst (λ (l : List (List ℕ)). IsPlaceOf l left number number) (sym (cuts rest line more c)) (here (cut (whole more)) line left number found.0 found.1 small)

pub place_past : (rest line more : List ℕ) (left next number after place : ℕ) → CutFirst rest line more → (is_check line ≡ true) ⊎ (1 < left) → (is_check line ≡ true → next ≡ left) → (is_check line ≡ false → next ≡ left - 1) → after ≡ min (number + 1) (2 ^ 64 - 1) →
    IsPlaceOf (cut (whole more)) next after place → IsPlaceOf (cut (whole rest)) left number place
place_past rest line more left next number after place c way check other after_is at =
    subst (λ (l : List (List ℕ)). IsPlaceOf l left number place) (sym (cuts rest line more c)) (past (cut (whole more)) line left next number after place way check other after_is at)

nowhere : (left number place : ℕ) → IsPlaceOf [] left number place
nowhere left number place [] more l is = absurd (cc is)
nowhere left number place (b ∷ before) more l is = absurd (cc is)

pub place_none : (rest : List ℕ) (left number place : ℕ) → NoLineFeed rest → IsPlaceOf (cut (whole rest)) left number place
place_none rest left number place none = subst (λ (l : List ℕ). IsPlaceOf (cut l) left number place) (sym (whole_nothing rest none)) (nowhere left number place)

-- of a file
pub place_told : (file text : List ℕ) (number place : ℕ) → text ≡ recovered file → IsPlaceOf (cut (whole text)) number 1 place → IsPlaceOf (cut (recovered file)) number 1 place
place_told file text number place same at = subst (λ (l : List ℕ). IsPlaceOf (cut l) number 1 place) (ap whole same ∙ (recovered_lines file).ended) at

rest_begins : (file text rest other : List ℕ) → text ≡ recovered file → Names text rest → Names (recovered file) other → begins_with (codes "format ") other ≡ begins_with (codes "format ") rest
rest_begins file text rest other same names one =
    ap (λ (l : List ℕ). begins_with (codes "format ") l) (names_one (recovered file) other rest one (subst (λ (l : List ℕ). Names l rest) same names)).1

pub told_not_bare : (file text rest : List ℕ) → text ≡ recovered file → Names text rest → begins_with (codes "format ") rest ≡ true → IsBare (recovered file) → ⊥
told_not_bare file text rest same names begins bare = let other = rest_begins file text rest bare.0 same names bare.1 in let none = bare.2 in absurd (cc (begins, other, none))

pub bare_not_told : (file text rest other : List ℕ) → text ≡ recovered file → Names text rest → begins_with (codes "format ") rest ≡ false → Names (recovered file) other → begins_with (codes "format ") other ≡ true → ⊥
bare_not_told file text rest other same names none one begins = let is = rest_begins file text rest other same names one in absurd (cc (begins, is, none))

pub none_not_told : (file text other : List ℕ) → text ≡ recovered file → ((rest : List ℕ) → Names text rest → ⊥) → Names (recovered file) other → ⊥
none_not_told file text other same none one = none other (subst (λ (l : List ℕ). Names l other) (sym same) one)

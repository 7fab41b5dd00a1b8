-- Pins in their row, one behind the other.
use Rattle.std.proofs.Common.{◌≡◌, ℕ, zero, suc, ◌+◌, ◌<◌, ◌≤◌, Bool, true, false, List, [], ◌∷◌, ◌++◌, length, take, drop, refl, sym, ap, ◌∙◌, subst, arith, length-take, length-drop}
use Rattle.std.proofs.lemmas.List.{nil_from_length, take_at, drop_at, take-append-drop}
use Rattle.device_core.specs.declared.hand.Stamp.{Stamp}
use Rattle.page_core.specs.Cut.{together}
use Rattle.page_core.specs.PartPins.{PartPin, pins_by, put_if, count_pages, added_if}

-- counts of nothing
pub none_by : (p : ℕ) (counts : List ℕ) → together counts ≡ 0 → pins_by p counts [] ≡ []
none_by p [] none = refl
none_by p (zero ∷ counts) none = none_by (p + 1) counts (omega (arith, none))
none_by p (suc n ∷ counts) none = absurd (omega (arith, none))

-- one part more in front
pub one_by : (p : ℕ) (read : Bool) (pages : List Stamp) (count : ℕ) (counts : List ℕ) (more : List Stamp) (others : List PartPin) → 0 < length pages → count ≡ length (added_if read pages) → pins_by (p + 1) counts more ≡ others
    → pins_by p (count ∷ counts) (added_if read pages ++ more) ≡ put_if read (record { part = p; pages = pages }) others
one_by p false pages count counts more others some is behind = subst (λ n. pins_by p (n ∷ counts) more ≡ others) (sym is) behind
one_by p true [] count counts more others some is behind = absurd (omega (arith, some))
one_by p true (s ∷ pages) count counts more others some is behind =
    subst (λ n. pins_by p (n ∷ counts) (s ∷ (pages ++ more)) ≡ record { part = p; pages = s ∷ pages } ∷ others) (sym is) front where
      front : pins_by p (suc (length pages) ∷ counts) (s ∷ (pages ++ more)) ≡ record { part = p; pages = s ∷ pages } ∷ others
      front = ap (λ (front : List Stamp). record { part = p; pages = front } ∷ pins_by (p + 1) counts (drop (suc (length pages)) (s ∷ (pages ++ more)))) (take_at (s ∷ pages) more (suc (length pages)) refl)
          ∙ ap (λ (rest : List Stamp). record { part = p; pages = s ∷ pages } ∷ pins_by (p + 1) counts rest) (drop_at (s ∷ pages) more (suc (length pages)) refl)
          ∙ ap (λ (pins : List PartPin). record { part = p; pages = s ∷ pages } ∷ pins) behind

-- as many pages as stamps
pub count_by : (p : ℕ) (counts : List ℕ) (stamps : List Stamp) → together counts ≡ length stamps → count_pages (pins_by p counts stamps) ≡ length stamps
count_by p [] stamps is = omega (arith, is)
count_by p (zero ∷ counts) stamps is = count_by (p + 1) counts stamps (omega (arith, is))
count_by p (suc n ∷ counts) stamps is =
    omega (arith, is, length-take (suc n) stamps, length-drop (suc n) stamps, count_by (p + 1) counts (drop (suc n) stamps) (omega (arith, is, length-drop (suc n) stamps)))

-- a pin is of this part or of one behind it
abbrev pub IsFrom : ℕ → List PartPin → Type 0
IsFrom p [] = Unit {0}
IsFrom p (pin ∷ pins) = p ≤ pin.part

from_by : (p q : ℕ) (counts : List ℕ) (stamps : List Stamp) → q ≤ p → IsFrom q (pins_by p counts stamps)
from_by p q [] stamps low = tt
from_by p q (zero ∷ counts) stamps low = from_by (p + 1) q counts stamps (omega (arith, low))
from_by p q (suc n ∷ counts) stamps low = low

-- what stands in front of a list of pins, and behind it
abbrev head_part : ℕ → List PartPin → ℕ
head_part d [] = d
head_part d (pin ∷ pins) = pin.part

abbrev head_pages : List PartPin → List Stamp
head_pages [] = []
head_pages (pin ∷ pins) = pin.pages

abbrev tail_pins : List PartPin → List PartPin
tail_pins [] = []
tail_pins (pin ∷ pins) = pins

head_from : (p d : ℕ) (pins : List PartPin) → p ≤ d → IsFrom p pins → p ≤ head_part d pins
head_from p d [] low from = low
head_from p d (pin ∷ pins) low from = from

-- Two rows with the same pins are the same.
pub same_rows : (p : ℕ) (counts counts2 : List ℕ) (stamps stamps2 : List Stamp) → length counts ≡ length counts2 → together counts ≡ length stamps → together counts2 ≡ length stamps2
    → pins_by p counts stamps ≡ pins_by p counts2 stamps2 → (counts ≡ counts2) × (stamps ≡ stamps2)
same_rows p [] [] stamps stamps2 many one two is = (refl, nil_from_length stamps (omega (arith, one)) ∙ sym (nil_from_length stamps2 (omega (arith, two))))
same_rows p [] (c ∷ counts2) stamps stamps2 many one two is = absurd (omega (arith, many))
same_rows p (c ∷ counts) [] stamps stamps2 many one two is = absurd (omega (arith, many))
same_rows p (zero ∷ counts) (zero ∷ counts2) stamps stamps2 many one two is =
    let rest = same_rows (p + 1) counts counts2 stamps stamps2 (omega (arith, many)) (omega (arith, one)) (omega (arith, two)) is in
    (ap (λ (cs : List ℕ). 0 ∷ cs) rest.0, rest.1)
same_rows p (zero ∷ counts) (suc n ∷ counts2) stamps stamps2 many one two is =
    absurd (omega (arith, head_from (p + 1) (p + 1) (pins_by (p + 1) counts stamps) (omega arith) (from_by (p + 1) (p + 1) counts stamps (omega arith)), ap (head_part (p + 1)) is))
same_rows p (suc n ∷ counts) (zero ∷ counts2) stamps stamps2 many one two is =
    absurd (omega (arith, head_from (p + 1) (p + 1) (pins_by (p + 1) counts2 stamps2) (omega arith) (from_by (p + 1) (p + 1) counts2 stamps2 (omega arith)), ap (head_part (p + 1)) is))
same_rows p (suc n ∷ counts) (suc m ∷ counts2) stamps stamps2 many one two is =
    let pages : take (suc n) stamps ≡ take (suc m) stamps2 = ap head_pages is in
    let same : suc n ≡ suc m = omega (arith, ap length pages, length-take (suc n) stamps, length-take (suc m) stamps2, one, two) in
    let rest = same_rows (p + 1) counts counts2 (drop (suc n) stamps) (drop (suc m) stamps2) (omega (arith, many)) (omega (arith, one, length-drop (suc n) stamps)) (omega (arith, two, length-drop (suc m) stamps2)) (ap tail_pins is) in (
      ap (λ k. k ∷ counts) same ∙ ap (λ (cs : List ℕ). suc m ∷ cs) rest.0,
      sym (take-append-drop (suc n) stamps) ∙ ap (λ (t : List Stamp). t ++ drop (suc n) stamps) pages ∙ ap (λ (t : List Stamp). take (suc m) stamps2 ++ t) rest.1 ∙ take-append-drop (suc m) stamps2,
    )

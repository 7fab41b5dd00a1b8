-- The rest of a certificate from one pair of operations, and from the next.
use Rattle.std.proofs.Common.{◌≡◌, ℕ, ◌+◌, ◌≤◌, ◌<◌, inl, inr, List, [], ◌∷◌, length, refl, sym, subst, ◌∙◌, arith}
use Rattle.std.specs.Prelude.{◌↔◌}
use Rattle.std.proofs.lemmas.Bool.{cases_eq, cases_lt}
use Rattle.std.proofs.lemmas.Option.{slice_get_within}
use Rattle.decl_core.specs.ObjectForm.{ObjectForm}
use Rattle.decl_core.specs.declared.certificate.SeparatedPair.{SeparatedPair}
use Rattle.decl_core.specs.Exclusive.{Conflicts, PairBefore}
use Rattle.decl_core.specs.Certificate.{Each, HasPair}
use Rattle.decl_core.specs.Rest.{IsFrom, IsEntryFrom, IsRest}

-- ---- pairs

pub from_next : (i j a b : ℕ) → PairBefore i j a b → IsFrom i (j + 1) a b
from_next i j a b h = elim h [
  | inl less ↦ omega arith
  | inr same ↦ omega arith
]

pub next_from : (i j a b : ℕ) → IsFrom i (j + 1) a b → PairBefore i j a b
next_from i j a b h = elim (cases_lt i a) [
  | inl less ↦ inl less
  | inr more ↦ inr (omega arith, omega arith)
]

-- what is from a pair on and another one is from the next on
from_after : (i j a b : ℕ) → IsFrom i j a b → (a ≡ i → b ≡ j → ⊥) → IsFrom i (j + 1) a b
from_after i j a b h other = (
  h.0,
  λ row. elim (cases_eq b j) [
    | inl column ↦ absurd (other row column)
    | inr apart ↦ omega (arith, h.1 row)
  ],
)

-- what is from the end of a row on is from the next row on
from_row : (i j n a b : ℕ) → n ≤ j → a ≤ b → b < n → IsFrom i j a b → IsFrom (i + 1) (i + 1) a b
from_row i j n a b end le within h = elim (cases_eq a i) [
  | inl row ↦ absurd (omega (arith, h.1 row))
  | inr other ↦ omega arith
]

-- ---- lists of entries

pub each_of : {P Q : SeparatedPair → Type 0} → ((e : SeparatedPair) → P e → Q e) → (es : List SeparatedPair) → Each P es → Each Q es
each_of f [] h = tt
each_of f (e ∷ es) h = (f e h.0, each_of f es h.1)

pub each_of_both : {P Q R : SeparatedPair → Type 0} → ((e : SeparatedPair) → P e → Q e → R e) → (es : List SeparatedPair) → Each P es → Each Q es → Each R es
each_of_both f [] h k = tt
each_of_both f (e ∷ es) h k = (f e h.0 k.0, each_of_both f es h.1 k.1)

-- the entry of a pair
pub entry_of : {P : SeparatedPair → Type 0} (i j : ℕ) (es : List SeparatedPair) → Each P es → HasPair i j es → (e : SeparatedPair) × (e.first ≡ i) × (e.second ≡ j) × P e
entry_of i j [] h k = absurd k
entry_of i j (e ∷ es) h k = elim k [
  | inl here ↦ (e, here.0, here.1, h.0)
  | inr later ↦ entry_of i j es h.1 later
]

module _ (o : ObjectForm) (Fits : SeparatedPair → Type 0) where
  -- operations that conflict are operations of the object
  pub conflicts_within : (i j : ℕ) → Conflicts o i j → (i < length o.operations) × (j < length o.operations)
  conflicts_within i j h = (slice_get_within o.operations i h.1.0 h.1.2, slice_get_within o.operations j h.1.1 h.1.3)

  -- what holds of pairs holds of pairs that are the same
  pub conflicts_same : (i j a b : ℕ) → a ≡ i → b ≡ j → Conflicts o a b → Conflicts o i j
  conflicts_same i j a b p q h = subst (λ x. Conflicts o x j) p (subst (λ y. Conflicts o a y) q h)

  -- what is from one pair on is so from each before it on
  entry_from : (i j k l : ℕ) → (e : SeparatedPair) → IsFrom i j k l → IsEntryFrom o Fits k l e → IsEntryFrom o Fits i j e
  entry_from i j k l e h entry = record { in_order = entry.in_order; from = omega (arith, entry.from); conflict = entry.conflict; fits = entry.fits }

  -- ---- a pair that does not conflict

  entry_skipped : (i j : ℕ) → (Conflicts o i j → ⊥) → (e : SeparatedPair) → IsEntryFrom o Fits i j e → IsEntryFrom o Fits i (j + 1) e
  entry_skipped i j apart e h =
      let other : e.first ≡ i → e.second ≡ j → ⊥ = λ p q. apart (conflicts_same i j e.first e.second p q h.conflict) in
      record { in_order = h.in_order; from = from_after i j e.first e.second h.from other; conflict = h.conflict; fits = h.fits }

  -- a pair that conflicts, from one on that does not, is from the next on
  past : (i j a b : ℕ) → (Conflicts o i j → ⊥) → IsFrom i j a b → Conflicts o a b → IsFrom i (j + 1) a b
  past i j a b apart h c =
      from_after i j a b h (λ p q. apart (conflicts_same i j a b p q c))

  pub skipped : (i j : ℕ) → (Conflicts o i j → ⊥) → (es : List SeparatedPair) → IsRest o Fits i j es ↔ IsRest o Fits i (j + 1) es
  skipped i j apart es = (
    λ h. record {
      rising = h.rising;
      each = each_of (entry_skipped i j apart) es h.each;
      all = λ a b le from c. h.all a b le (omega arith) c;
    },
    λ h. record {
      rising = h.rising;
      each = each_of (λ e. entry_from i j i (j + 1) e (omega arith)) es h.each;
      all = λ a b le from c. h.all a b le (past i j a b apart from c) c;
    },
  )

  -- ---- a pair that conflicts

  -- the first entry is of this pair
  heads : (i j : ℕ) → i ≤ j → Conflicts o i j → (e : SeparatedPair) (es : List SeparatedPair) → IsRest o Fits i j (e ∷ es) → (e.first ≡ i) × (e.second ≡ j)
  heads i j le c e es h = elim (h.all i j le (omega arith) c) [
    | inl here ↦ here
    | inr later ↦ let f = entry_of i j es h.rising.0 later in absurd (omega (arith, f.3, h.each.0.from))
  ]

  pub tail_entry : (i j : ℕ) (e : SeparatedPair) → e.first ≡ i → e.second ≡ j → (f : SeparatedPair) → PairBefore e.first e.second f.first f.second → IsEntryFrom o Fits i j f → IsEntryFrom o Fits i (j + 1) f
  tail_entry i j e p q f before h = record { in_order = h.in_order; from = omega (arith, before); conflict = h.conflict; fits = h.fits }

  pub tail_has : (i j a b : ℕ) (e : SeparatedPair) (es : List SeparatedPair) → e.first ≡ i → e.second ≡ j → IsFrom i (j + 1) a b → HasPair a b (e ∷ es) → HasPair a b es
  tail_has i j a b e es p q from h = elim h [
    | inl here ↦ absurd (omega (arith, here.0, here.1))
    | inr later ↦ later
  ]

  whole_has : (i j a b : ℕ) (e : SeparatedPair) (es : List SeparatedPair) → e.first ≡ i → e.second ≡ j → IsFrom i j a b → (IsFrom i (j + 1) a b → HasPair a b es) → HasPair a b (e ∷ es)
  whole_has i j a b e es p q from later = elim (cases_eq a i) [
    | inl row ↦ elim (cases_eq b j) [
      | inl column ↦ inl (p ∙ sym row, q ∙ sym column)
      | inr other ↦ inr (later (omega arith))
    ]
    | inr other ↦ inr (later (omega arith))
  ]

  pub taken : (i j : ℕ) → i ≤ j → Conflicts o i j → (e : SeparatedPair) (es : List SeparatedPair) →
      IsRest o Fits i j (e ∷ es) ↔ ((e.first ≡ i) × (e.second ≡ j) × Fits e × IsRest o Fits i (j + 1) es)
  taken i j le c e es = (
    λ h. let at = heads i j le c e es h in (
      at.0,
      at.1,
      h.each.0.fits,
      record {
        rising = h.rising.1;
        each = each_of_both (tail_entry i j e at.0 at.1) es h.rising.0 h.each.1;
        all = λ a b in_order from conflict. tail_has i j a b e es at.0 at.1 from (h.all a b in_order (omega arith) conflict);
      },
    ),
    λ h. record {
      rising = (each_of (λ f entry. next_from e.first e.second f.first f.second (omega (arith, h.0, h.1, entry.from))) es h.3.each, h.3.rising);
      each = (
        record { in_order = omega (arith, h.0, h.1); from = omega (arith, h.0, h.1); conflict = conflicts_same e.first e.second i j (sym h.0) (sym h.1) c; fits = h.2 },
        each_of (λ f. entry_from i j i (j + 1) f (omega arith)) es h.3.each,
      );
      all = λ a b in_order from conflict. whole_has i j a b e es h.0 h.1 from (λ later. h.3.all a b in_order later conflict);
    },
  )

  -- the same of entries that begin with this one
  pub behind_taken : (i j : ℕ) → i ≤ j → Conflicts o i j → (es : List SeparatedPair) (e : SeparatedPair) (rest : List SeparatedPair) → es ≡ e ∷ rest →
      (e.first ≡ i) × (e.second ≡ j) × Fits e → IsRest o Fits i j es ↔ IsRest o Fits i (j + 1) rest
  behind_taken i j le c es e rest is fits = (
    λ h. ((taken i j le c e rest).0 (subst (λ all. IsRest o Fits i j all) is h)).3,
    λ h. subst (λ all. IsRest o Fits i j all) (sym is) ((taken i j le c e rest).1 (fits.0, fits.1, fits.2, h)),
  )

  -- entries that begin with another one are no rest
  pub other_first : (i j : ℕ) → i ≤ j → Conflicts o i j → (es : List SeparatedPair) (e : SeparatedPair) (rest : List SeparatedPair) → es ≡ e ∷ rest →
      ((e.first ≡ i) × (e.second ≡ j) × Fits e → ⊥) → IsRest o Fits i j es → ⊥
  other_first i j le c es e rest is apart h =
      let at = (taken i j le c e rest).0 (subst (λ all. IsRest o Fits i j all) is h) in
      apart (at.0, at.1, at.2)

  -- neither are none
  pub none_left : (i j : ℕ) → i ≤ j → Conflicts o i j → (es : List SeparatedPair) → length es ≡ 0 → IsRest o Fits i j es → ⊥
  none_left i j le c [] none h = h.all i j le (omega arith) c
  none_left i j le c (e ∷ es) none h = omega arith

  -- ---- the end of a row, and of all

  entry_below : (i j : ℕ) → length o.operations ≤ j → (e : SeparatedPair) → IsEntryFrom o Fits i j e → IsEntryFrom o Fits (i + 1) (i + 1) e
  entry_below i j end e h =
      let within = conflicts_within e.first e.second h.conflict in
      record { in_order = h.in_order; from = from_row i j (length o.operations) e.first e.second end h.in_order within.1 h.from; conflict = h.conflict; fits = h.fits }

  pub row_ends : (i j : ℕ) → length o.operations ≤ j → (es : List SeparatedPair) → IsRest o Fits i j es ↔ IsRest o Fits (i + 1) (i + 1) es
  row_ends i j end es = (
    λ h. record {
      rising = h.rising;
      each = each_of (entry_below i j end) es h.each;
      all = λ a b le from c. h.all a b le (omega arith) c;
    },
    λ h. record {
      rising = h.rising;
      each = each_of (λ e. entry_from i j (i + 1) (i + 1) e (omega arith)) es h.each;
      all = λ a b le from c. h.all a b le (from_row i j (length o.operations) a b end le (conflicts_within a b c).1 from) c;
    },
  )

  -- the rest of a row, up to its end
  pub row_rest : (i j k l : ℕ) → length o.operations ≤ l → (es more : List SeparatedPair) → IsRest o Fits i j es ↔ IsRest o Fits k l more → IsRest o Fits i j es ↔ IsRest o Fits (k + 1) (k + 1) more
  row_rest i j k l end es more same = (λ h. (row_ends k l end more).0 (same.0 h), λ h. same.1 ((row_ends k l end more).1 h))

  pub all_end : (i j : ℕ) → length o.operations ≤ i → (es : List SeparatedPair) → IsRest o Fits i j es ↔ (es ≡ [])
  all_end i j end [] = (λ h. refl, λ e. record { rising = tt; each = tt; all = λ a b le from c. absurd (let within = conflicts_within a b c in omega arith) })
  all_end i j end (e ∷ es) = (λ h. absurd (let within = conflicts_within e.first e.second h.each.0.conflict in omega (arith, h.each.0.from)), λ none. cc)

-- Certificates as the rest from the first pair on, and the entries of a certificate so far.
use Rattle.std.proofs.Common.{◌≡◌, ℕ, ◌+◌, ◌≤◌, ◌<◌, ◌⊎◌, inl, inr, List, [], ◌∷◌, ◌++◌, length, refl, sym, ap, subst, ◌∙◌, append_assoc, append-nil, arith}
use Rattle.std.specs.Prelude.{◌↔◌, Bool, ◌==◌, IsTrue, vec_len}
use Rattle.std.specs.Arc.{arc_value}
use Rattle.std.proofs.lemmas.Bool.{cases_lt, eqb-true}
use Rattle.std.proofs.lemmas.List.{length-map}
use Rattle.decl_core.specs.ObjectForm.{ObjectForm}
use Rattle.decl_core.specs.declared.object.Object.{Object}
use Rattle.decl_core.specs.ObjectMap.{operation_of}
use Rattle.decl_core.specs.ObjectMap.{object_of}
use Rattle.decl_core.specs.declared.certificate.SeparatedPair.{SeparatedPair}
use Rattle.decl_core.specs.Exclusive.{Conflicts, AreSeparated, IsExclusive, PairBefore}
use Rattle.decl_core.specs.Certificate.{IsCertificate, IsFirstCertificate}
use Rattle.decl_core.specs.Rest.{IsRest, NodeSeparates, NodeIsFirst, IsCertified}
use Rattle.decl_core.proofs.Rest.{each_of, each_of_both, skipped, taken, row_ends, all_end, conflicts_within, conflicts_same}
use Rattle.decl_core.proofs.Symmetry.{are_separated_swapped}

-- a pair before the next one, and not before this one, is this one
before_next : (a b i j : ℕ) → PairBefore a b i (j + 1) → PairBefore a b i j ⊎ ((a ≡ i) × (b ≡ j))
before_next a b i j h = elim (cases_lt a i) [
  | inl less ↦ inl (inl less)
  | inr more ↦ elim (cases_lt b j) [
    | inl less ↦ inl (inr (omega arith, less))
    | inr same ↦ inr (omega arith, omega arith)
  ]
]

-- a pair in order before the next row, whose second is in range, is before the end of this row
before_row : (a b i j n : ℕ) → n ≤ j → a ≤ b → b < n → PairBefore a b (i + 1) (i + 1) → PairBefore a b i j
before_row a b i j n end le within h = elim (cases_lt a i) [
  | inl less ↦ inl less
  | inr more ↦ inr (omega arith, omega arith)
]

none_of_length : (es : List SeparatedPair) → length es ≡ 0 → es ≡ []
none_of_length [] h = refl
none_of_length (e ∷ es) h = absurd (omega arith)

-- the operations of an object, counted
pub operations_counted : (object : Object) → length (object_of object).operations ≡ vec_len object.operations
operations_counted object = length-map object.operations.items (λ o. operation_of (arc_value o)) ∙ omega (arith, object.operations.ok.0)

module _ (o : ObjectForm) where
  -- ---- certificates

  rest_is_certificate : (es : List SeparatedPair) → IsRest o (NodeSeparates o) 0 0 es → IsCertificate o es
  rest_is_certificate es h = record {
    rising = h.rising;
    sound = each_of (λ e entry. record { in_order = entry.in_order; conflict = entry.conflict; separated = entry.fits }) es h.each;
    all = λ i j le c. h.all i j le (omega arith) c;
  }

  certificate_is_rest : (es : List SeparatedPair) → IsCertificate o es → IsRest o (NodeSeparates o) 0 0 es
  certificate_is_rest es h = record {
    rising = h.rising;
    each = each_of (λ e entry. record { in_order = entry.in_order; from = omega arith; conflict = entry.conflict; fits = entry.separated }) es h.sound;
    all = λ i j le from c. h.all i j le c;
  }

  pub certificate_is : (es : List SeparatedPair) → IsCertificate o es ↔ IsRest o (NodeSeparates o) 0 0 es
  certificate_is es = (certificate_is_rest es, rest_is_certificate es)

  -- entries are a certificate where none is left behind those of all rows
  pub nothing_left : (i : ℕ) → length o.operations ≤ i → (es rest : List SeparatedPair) → IsRest o (NodeSeparates o) 0 0 es ↔ IsRest o (NodeSeparates o) i i rest →
      (empty : Bool) → empty ≡ (length rest == 0) → IsTrue empty ↔ IsCertificate o es
  nothing_left i end es rest same empty is = (
    λ h. rest_is_certificate es (same.1 ((all_end o (NodeSeparates o) i i end rest).1 (none_of_length rest (eqb-true (length rest) 0 (sym is ∙ h))))),
    λ h. is ∙ ap (λ l. length l == 0) ((all_end o (NodeSeparates o) i i end rest).0 (same.0 (certificate_is_rest es h))),
  )

  pub rest_is_first : (es : List SeparatedPair) → IsRest o (NodeIsFirst o) 0 0 es → IsFirstCertificate o es
  rest_is_first es h = record {
    certificate = record {
      rising = h.rising;
      sound = each_of (λ e entry. record { in_order = entry.in_order; conflict = entry.conflict; separated = entry.fits.0 }) es h.each;
      all = λ i j le c. h.all i j le (omega arith) c;
    };
    first = each_of (λ e entry. entry.fits.1) es h.each;
  }

  pub first_is_rest : (es : List SeparatedPair) → IsFirstCertificate o es → IsRest o (NodeIsFirst o) 0 0 es
  first_is_rest es h = record {
    rising = h.certificate.rising;
    each = each_of_both (λ e entry first. record { in_order = entry.in_order; from = omega arith; conflict = entry.conflict; fits = (entry.separated, first) }) es h.certificate.sound h.first;
    all = λ i j le from c. h.certificate.all i j le c;
  }

  -- ---- the entries so far

  pub none_yet : IsCertified o 0 0 []
  none_yet = record { whole = λ more h. h; separated = λ a b le before c. absurd (omega arith) }

  pub certified_past : (i j : ℕ) → (Conflicts o i j → ⊥) → (es : List SeparatedPair) → IsCertified o i j es → IsCertified o i (j + 1) es
  certified_past i j apart es h = record {
    whole = λ more rest. h.whole more ((skipped o (NodeIsFirst o) i j apart more).1 rest);
    separated = λ a b le before c. elim (before_next a b i j before) [
      | inl sooner ↦ h.separated a b le sooner c
      | inr here ↦ absurd (apart (conflicts_same o (NodeIsFirst o) i j a b here.0 here.1 c))
    ];
  }

  pub separated_same : (i j a b : ℕ) → a ≡ i → b ≡ j → AreSeparated o i j → AreSeparated o a b
  separated_same i j a b p q h = subst (λ x. AreSeparated o x b) (sym p) (subst (λ y. AreSeparated o i y) (sym q) h)

  pub certified_with : (i j : ℕ) → i ≤ j → Conflicts o i j → (e : SeparatedPair) → e.first ≡ i → e.second ≡ j → NodeIsFirst o e → (es : List SeparatedPair) → IsCertified o i j es →
      IsCertified o i (j + 1) (es ++ e ∷ [])
  certified_with i j le c e p q first es h = record {
    whole = λ more rest. subst (λ all. IsRest o (NodeIsFirst o) 0 0 all) (sym (append_assoc es (e ∷ []) more))
        (h.whole (e ∷ more) ((taken o (NodeIsFirst o) i j le c e more).1 (p, q, first, rest)));
    separated = λ a b in_order before conflict. elim (before_next a b i j before) [
      | inl sooner ↦ h.separated a b in_order sooner conflict
      | inr here ↦ separated_same e.first e.second a b (here.0 ∙ sym p) (here.1 ∙ sym q) (e.path, e.node, first.0)
    ];
  }

  pub certified_row : (i j : ℕ) → length o.operations ≤ j → (es : List SeparatedPair) → IsCertified o i j es → IsCertified o (i + 1) (i + 1) es
  certified_row i j end es h = record {
    whole = λ more rest. h.whole more ((row_ends o (NodeIsFirst o) i j end more).1 rest);
    separated = λ a b le before c. h.separated a b le (before_row a b i j (length o.operations) end le (conflicts_within o (NodeIsFirst o) a b c).1 before) c;
  }

  pub certified_first : (i j : ℕ) → length o.operations ≤ i → (es : List SeparatedPair) → IsCertified o i j es → IsFirstCertificate o es
  certified_first i j end es h = rest_is_first es (subst (λ all. IsRest o (NodeIsFirst o) 0 0 all) (append-nil es) (h.whole [] ((all_end o (NodeIsFirst o) i j end []).1 refl)))

  -- ---- exclusion

  pub conflicts_swapped : (i j : ℕ) → Conflicts o i j → Conflicts o j i
  conflicts_swapped i j h = (h.0, (h.1.1, h.1.0, h.1.3, h.1.2, elim h.1.4 [ inl one ↦ inr one | inr other ↦ inl other ]))

  pub certified_exclusive : (i j : ℕ) → length o.operations ≤ i → (es : List SeparatedPair) → IsCertified o i j es → IsExclusive o
  certified_exclusive i j end es h = λ a b c. elim (cases_lt b a) [
    | inl swapped ↦ are_separated_swapped o b a (h.separated b a (omega arith) (inl (omega (arith, (conflicts_within o (NodeIsFirst o) a b c).1))) (conflicts_swapped a b c))
    | inr in_order ↦ h.separated a b in_order (inl (omega (arith, (conflicts_within o (NodeIsFirst o) a b c).0))) c
  ]

-- A certificate makes an object exclusive, and the first certificate is one.
use Rattle.std.proofs.Common.{◌≡◌, ℕ, ◌+◌, ◌≤◌, inl, inr, List, [], ◌∷◌, refl, sym, subst, arith}
use Rattle.std.proofs.lemmas.Bool.{cases_lt}
use Rattle.decl_core.specs.ObjectForm.{ObjectForm}
use Rattle.decl_core.specs.declared.certificate.SeparatedPair.{SeparatedPair}
use Rattle.decl_core.specs.Exclusive.{Conflicts, SeparatedBy, AreSeparated, PairBefore}
use Rattle.decl_core.specs.Certificate.{IsCertificate}
use Rattle.decl_core.specs.CertificateLaws.{CertifiedIsExclusive, OneFirstCertificate}
use Rattle.decl_core.specs.Rest.{IsEntryFrom, IsRest, NodeIsFirst}
use Rattle.decl_core.proofs.Rest.{each_of_both, entry_of, taken}
use Rattle.decl_core.proofs.Certified.{first_is_rest, separated_same, conflicts_swapped}
use Rattle.decl_core.proofs.Symmetry.{are_separated_swapped}

-- ---- exclusion

-- operations in order that conflict are separated
separated_in_order : (o : ObjectForm) (es : List SeparatedPair) → IsCertificate o es → (i j : ℕ) → i ≤ j → Conflicts o i j → AreSeparated o i j
separated_in_order o es h i j le c =
    let e = entry_of i j es h.sound (h.all i j le c) in
    separated_same o e.0.first e.0.second i j (sym e.1) (sym e.2) (e.0.path, e.0.node, e.3.separated)

pub certified_is_exclusive : CertifiedIsExclusive
certified_is_exclusive o es h = λ i j c. elim (cases_lt j i) [
  | inl swapped ↦ are_separated_swapped o j i (separated_in_order o es h j i (omega arith) (conflicts_swapped o i j c))
  | inr in_order ↦ separated_in_order o es h i j in_order c
]

-- ---- one first certificate

same_entry : (e f : SeparatedPair) → e.first ≡ f.first → e.second ≡ f.second → e.path ≡ f.path → e.node ≡ f.node → e ≡ f
same_entry e f p q r s = λ i. record { first = p i; second = q i; path = r i; node = s i }

module _ (o : ObjectForm) where
  later_entry : (i j : ℕ) (e f : SeparatedPair) → PairBefore e.first e.second f.first f.second → IsEntryFrom o (NodeIsFirst o) i j f → IsEntryFrom o (NodeIsFirst o) e.first e.second f
  later_entry i j e f before h = record { in_order = h.in_order; from = omega (arith, before); conflict = h.conflict; fits = h.fits }

  -- the rest from a pair on is the rest from its first entry on
  from_head : (i j : ℕ) (e : SeparatedPair) (es : List SeparatedPair) → IsRest o (NodeIsFirst o) i j (e ∷ es) → IsRest o (NodeIsFirst o) e.first e.second (e ∷ es)
  from_head i j e es h = record {
    rising = h.rising;
    each = (record { in_order = h.each.0.in_order; from = omega arith; conflict = h.each.0.conflict; fits = h.each.0.fits }, each_of_both (later_entry i j e) es h.rising.0 h.each.1);
    all = λ a b le from c. h.all a b le (omega (arith, h.each.0.from)) c;
  }

  behind_head : (i j : ℕ) (e : SeparatedPair) (es : List SeparatedPair) → IsRest o (NodeIsFirst o) i j (e ∷ es) → IsRest o (NodeIsFirst o) e.first (e.second + 1) es
  behind_head i j e es h = ((taken o (NodeIsFirst o) e.first e.second h.each.0.in_order h.each.0.conflict e es).0 (from_head i j e es h)).3

  -- two rests begin with entries of one pair
  same_pair : (i j : ℕ) (e f : SeparatedPair) (es fs : List SeparatedPair) → IsRest o (NodeIsFirst o) i j (e ∷ es) → IsRest o (NodeIsFirst o) i j (f ∷ fs) →
      (e.first ≡ f.first) × (e.second ≡ f.second)
  same_pair i j e f es fs h k = elim (h.all f.first f.second k.each.0.in_order k.each.0.from k.each.0.conflict) [
    | inl here ↦ here
    | inr later ↦ elim (k.all e.first e.second h.each.0.in_order h.each.0.from h.each.0.conflict) [
      | inl here ↦ (sym here.0, sym here.1)
      | inr also ↦ let x = entry_of f.first f.second es h.rising.0 later in let y = entry_of e.first e.second fs k.rising.0 also in
          absurd (omega (arith, x.1, x.2, x.3, y.1, y.2, y.3))
    ]
  ]

  separated_at : (path node i j a b : ℕ) → i ≡ a → j ≡ b → SeparatedBy o path node i j → SeparatedBy o path node a b
  separated_at path node i j a b p q h = subst (λ x. SeparatedBy o path node x b) p (subst (λ y. SeparatedBy o path node i y) q h)

  -- entries of one pair with its first node are the same
  same_first : (e f : SeparatedPair) → e.first ≡ f.first → e.second ≡ f.second → NodeIsFirst o e → NodeIsFirst o f → e ≡ f
  same_first e f p q h k =
      let there = h.1 f.path f.node (separated_at f.path f.node f.first f.second e.first e.second (sym p) (sym q) k.0) in
      let back = k.1 e.path e.node (separated_at e.path e.node e.first e.second f.first f.second p q h.0) in
      same_entry e f p q (omega (arith, there, back)) (omega (arith, there, back))

  same_rests : (i j : ℕ) (es fs : List SeparatedPair) → IsRest o (NodeIsFirst o) i j es → IsRest o (NodeIsFirst o) i j fs → es ≡ fs
  same_rests i j [] [] h k = refl
  same_rests i j [] (f ∷ fs) h k = absurd (h.all f.first f.second k.each.0.in_order k.each.0.from k.each.0.conflict)
  same_rests i j (e ∷ es) [] h k = absurd (k.all e.first e.second h.each.0.in_order h.each.0.from h.each.0.conflict)
  same_rests i j (e ∷ es) (f ∷ fs) h k =
      let at = same_pair i j e f es fs h k in
      let front = same_first e f at.0 at.1 h.each.0.fits k.each.0.fits in
      let behind : IsRest o (NodeIsFirst o) e.first (e.second + 1) fs = subst (λ (x : SeparatedPair). IsRest o (NodeIsFirst o) x.first (x.second + 1) fs) (sym front) (behind_head i j f fs k) in
      let rest = same_rests e.first (e.second + 1) es fs (behind_head i j e es h) behind in
      cc

pub one_first_certificate : OneFirstCertificate
one_first_certificate o es fs h k = same_rests o 0 0 es fs (first_is_rest o es h) (first_is_rest o fs k)

-- One page more is known.
use Rattle.std.proofs.Common.{◌≡◌, ◌≢◌, ℕ, ◌⊎◌, inl, inr, Bool, true, false, List, length, sym, ap, ◌∙◌, subst, arith}
use Rattle.std.specs.Prelude.{slice_index, ◌==◌}
use Rattle.std.specs.Int.{bit_at}
use Rattle.std.proofs.lemmas.Bool.{cases_eq}
use Rattle.std.proofs.lemmas.Nat.Bits.{bit_at_above}
use Rattle.value_core.specs.declared.kind.Elem.TheVariants as elem
use Rattle.value_core.specs.declared.kind.Kind.{Kind}
use Rattle.value_core.specs.declared.kind.Kind.TheVariants as kind
use Rattle.value_bytes.specs.Laws.{AreBytes}
use Rattle.apply_core.specs.Fits.{IsNamed}
use Rattle.run_core.specs.Verdicts.{ReadAs}
use Rattle.apply_core.specs.Pages.{page_at}
use Rattle.apply_core.proofs.PieceSpelled.{frame_is_due}
use Rattle.known_core.specs.Filled.{IsFilled}
use Rattle.known_core.proofs.Filling.{frame_on}
use Rattle.run_core.specs.Reads.{pages_of, IsKnownAs, IsKnownPart}
use Rattle.run_core.specs.Grown.{KnownGrows, FirstIsKnown, MissIsDamaged}
use Rattle.run_core.proofs.Completing.{kind_once, some_one}

-- the bytes of a part, with one page more
pub grows : (pages more : ℕ → Bool) (k : ℕ) (filled new whole : List ℕ) → IsFilled pages filled whole → AreBytes new → length new ≡ length filled → page_at k new ≡ page_at k whole → ((j : ℕ) → j ≢ k → page_at j new ≡ page_at j filled)
    → ((j : ℕ) → j ≢ k → more j ≡ pages j) → more k ≡ true → IsFilled more new whole
grows pages more k filled new whole h are long page others bits set = record {
  long = h.long ∙ sym long;
  bytes = h.bytes;
  read = are;
  first = first_on (cases_eq 0 k);
  same = λ j known. same_on j known (cases_eq j k);
} where
  first_on : (0 ≡ k) ⊎ (0 ≡ k → ⊥) → more 0 ≡ true
  first_on (inl is) = ap more is ∙ set
  first_on (inr differ) = bits 0 differ ∙ h.first

  same_on : (j : ℕ) → more j ≡ true → (j ≡ k) ⊎ (j ≡ k → ⊥) → page_at j whole ≡ page_at j new
  same_on j known (inl is) = ap (λ i. page_at i whole) is ∙ sym page ∙ ap (λ i. page_at i new) (sym is)
  same_on j known (inr differ) = h.same j (sym (bits j differ) ∙ known) ∙ sym (others j differ)

-- a part of which nothing more was read
stays : (k : Kind) (pages more : ℕ → Bool) (filled whole : List ℕ) → ((j : ℕ) → more j ≡ pages j) → IsKnownAs k pages filled whole → IsKnownAs k more filled whole
stays (kind.Array n elem.Integer) pages more filled whole same h = record { long = h.long; bytes = h.bytes; read = h.read; first = same 0 ∙ h.first; same = λ j known. h.same j (sym (same j) ∙ known) }
stays (kind.Array n elem.Text) pages more filled whole same h = h
stays (kind.Queue e) pages more filled whole same h = h
stays (kind.Table e) pages more filled whole same h = h

-- one page more of what was read
pub known_grows : KnownGrows
known_grows operation old new p k read after whole bytes wanted more there into known = λ q kd named. at q kd named (cases_eq q p) where
  bit_same : (m n : ℕ) → m ≡ n → (m == 1) ≡ (n == 1)
  bit_same m n is = ap (λ b. b == 1) is

  this : IsKnownPart old read (ReadAs whole) p (kind.Array wanted.many elem.Integer) → IsKnownPart new after (ReadAs whole) p (kind.Array wanted.many elem.Integer)
  this h =
      let f : h.filled ≡ into.filled = some_one h.filled into.filled (sym h.there ∙ into.was) in
      let w : h.whole ≡ bytes = some_one h.whole bytes (sym h.held ∙ there) in
      let before : IsFilled (pages_of old p) into.filled bytes = subst (λ (b : List ℕ). IsFilled (pages_of old p) b bytes) f (subst (λ (b : List ℕ). IsFilled (pages_of old p) h.filled b) w h.known) in
      record {
        filled = into.fresh;
        there = into.now;
        whole = bytes;
        held = there;
        known = grows (pages_of old p) (pages_of new p) k into.filled into.fresh bytes before into.bytes into.long into.stands into.pages (λ j differ. bit_same _ _ (more.same j differ)) (ap (λ b. b == 1) more.set);
      }

  at : (q : ℕ) (kd : Kind) → IsNamed operation q kd → (q ≡ p) ⊎ (q ≡ p → ⊥) → IsKnownPart new after (ReadAs whole) q kd
  at q kd named (inr differ) =
      let h = known q kd named in
      record { filled = h.filled; there = into.others q differ ∙ h.there; whole = h.whole; held = h.held; known = stays kd (pages_of old q) (pages_of new q) h.filled h.whole (λ j. bit_same _ _ (ap (λ m. bit_at m j) (more.others q differ))) h.known }
  at q kd named (inl is) =
      let here : IsNamed operation p kd = subst (λ r. IsNamed operation r kd) is named in
      let same : kind.Array wanted.many elem.Integer ≡ kd = kind_once operation p (kind.Array wanted.many elem.Integer) kd wanted.named here in
      subst (λ r. IsKnownPart new after (ReadAs whole) r kd) (sym is) (subst (IsKnownPart new after (ReadAs whole) p) same (this (known p (kind.Array wanted.many elem.Integer) wanted.named)))

-- the first page of a part
pub first_is_known : FirstIsKnown
first_is_known masks p filled whole mask read bytes long page = record {
  long = long;
  bytes = bytes;
  read = read;
  first = ap (λ m. bit_at m 0 == 1) mask;
  same = λ k known. same_at k known (cases_eq k 0);
} where
  same_at : (k : ℕ) → (bit_at (slice_index masks p) k == 1) ≡ true → (k ≡ 0) ⊎ (k ≡ 0 → ⊥) → page_at k whole ≡ page_at k filled
  same_at k known (inl is) = ap (λ j. page_at j whole) is ∙ page ∙ ap (λ j. page_at j filled) (sym is)
  same_at k known (inr behind) =
      let clear : bit_at (slice_index masks p) k ≡ 0 = ap (λ m. bit_at m k) mask ∙ bit_at_above 1 1 k (omega arith) (omega (arith, behind)) in
      absurd (none (sym known ∙ ap (λ b. b == 1) clear)) where
        none : true ≡ false → ⊥
        none is = cc

-- where the first page and the length show no frame
pub miss_is_damaged : MissIsDamaged
miss_is_damaged operation p n filled whole wholes named held long page miss = record {
  p = p;
  kind = kind.Array n elem.Integer;
  named = named;
  bytes = whole;
  there = held;
  spell_none = λ value spells. miss (frame_on n whole filled (sym long) (sym page) (frame_is_due n whole value spells).0);
}

-- What the bytes read say of the whole bytes.
use Rattle.std.proofs.Common.{◌≡◌, ℕ, zero, suc, ◌+◌, ◌<◌, ◌≤◌, ◌⊎◌, inl, inr, Bool, List, [], ◌∷◌, length, get_or, refl, sym, ap, ◌∙◌, subst, arith}
use Rattle.std.specs.Prelude.{Some}
use Rattle.std.proofs.lemmas.Bool.{cases_lt}
use Rattle.std.proofs.lemmas.Option.{slice_get_within, slice_get-get_or, get_or_from_slice_get}
use Rattle.value_core.specs.declared.kind.Elem.TheVariants as elem
use Rattle.value_core.specs.declared.kind.Kind.{Kind}
use Rattle.value_core.specs.declared.kind.Kind.TheVariants as kind
use Rattle.value_core.specs.Contents.{Contents, array}
use Rattle.value_bytes.specs.Spelling.{Spells}
use Rattle.decl_core.specs.declared.object.Operation.{Operation}
use Rattle.decl_core.specs.Meaning.{part_at}
use Rattle.apply_core.specs.Fits.{IsNamed}
use Rattle.page_core.specs.Given.{AreSpelled}
use Rattle.run_core.specs.Verdicts.{ReadAs}
use Rattle.known_core.specs.Known.{AgreeAt, Agree}
use Rattle.known_core.specs.Filled.{by_page}
use Rattle.known_core.specs.Masks.{known_by}
use Rattle.run_core.specs.Reads.{pages_of, IsKnownAs, AreKnown}
use Rattle.known_core.proofs.Filling.{whole_is_spelled}

-- a list made of one for each place
record Chosen {X : Type 0} (P : ℕ → X → Type 0) (d : X) (n from : ℕ) : Type 0 where
  xs : List X
  many : length xs ≡ n
  each : (k : ℕ) → k < n → P (from + k) (get_or xs k d)

choose : {X : Type 0} (P : ℕ → X → Type 0) (d : X) (n from : ℕ) → ((k : ℕ) → k < n → (x : X) × P (from + k) x) → Chosen P d n from
choose {X} P d zero from one = record { xs = []; many = refl; each = λ k less. absurd (omega (arith, less)) }
choose {X} P d (suc n) from one =
    let first = one 0 (omega arith) in
    let rest = choose P d n (from + 1) (λ k less. let x = one (k + 1) (omega (arith, less)) in (x.0, subst (λ p. P p x.0) (omega arith) x.1)) in
    record {
      xs = first.0 ∷ rest.xs;
      many = ap suc rest.many;
      each = λ k less. at k less first rest;
    } where
      at : (k : ℕ) → k < suc n → (first : (x : X) × P (from + 0) x) → (rest : Chosen P d n (from + 1)) → P (from + k) (get_or (first.0 ∷ rest.xs) k d)
      at zero less first rest = first.1
      at (suc k) less first rest = subst (λ p. P p (get_or rest.xs k d)) (omega arith) (rest.each k (omega (arith, less)))

pub agree_self : (known : ℕ → Bool) (v : Contents) → AgreeAt known v v
agree_self known v = record { kind = refl; elements = λ i is. refl; others = λ none. refl }

past_end : (parts : List Contents) (p : ℕ) → length parts ≤ p → part_at parts p ≡ array elem.Integer []
past_end [] p past = refl
past_end (v ∷ parts) zero past = absurd (omega (arith, past))
past_end (v ∷ parts) (suc p) past = past_end parts p (omega (arith, past))

-- a part that is read, and what completes it
completes : (k : Kind) (pages : ℕ → Bool) (filled whole : List ℕ) (seen : Contents) → Spells filled k seen → IsKnownAs k pages filled whole → (value : Contents) × Spells whole k value × AgreeAt (by_page pages) seen value
completes (kind.Array n elem.Integer) pages filled whole seen spelled known = whole_is_spelled pages n filled whole seen spelled known
completes (kind.Array n elem.Text) pages filled whole seen spelled known = (seen, subst (λ (b : List ℕ). Spells b (kind.Array n elem.Text) seen) known spelled, agree_self (by_page pages) seen)
completes (kind.Queue e) pages filled whole seen spelled known = (seen, subst (λ (b : List ℕ). Spells b (kind.Queue e) seen) known spelled, agree_self (by_page pages) seen)
completes (kind.Table e) pages filled whole seen spelled known = (seen, subst (λ (b : List ℕ). Spells b (kind.Table e) seen) known spelled, agree_self (by_page pages) seen)

pub some_one : {X : Type 0} (a b : X) → Some a ≡ Some b → a ≡ b
some_one a b is = cc

pub kind_once : (operation : Operation) (p : ℕ) (k l : Kind) → IsNamed operation p k → IsNamed operation p l → k ≡ l
kind_once operation p k l a b = let both : Some (Some k) ≡ Some (Some l) = sym a.held ∙ b.held in some_one k l (some_one (Some k) (Some l) both)

module _ (masks : List ℕ) (operation : Operation) (read : List (List ℕ)) (at : ℕ → List ℕ → Type 0) (seen : List Contents) (spelled : AreSpelled (ReadAs read) operation seen) (known : AreKnown masks operation read at) where
  -- what completes one part
  record Completes (p : ℕ) (value : Contents) : Type 0 where
    agrees : AgreeAt (known_by masks p) (part_at seen p) value
    spells : (k : Kind) → IsNamed operation p k → (bytes : List ℕ) × at p bytes × Spells bytes k value

  one_part : (p : ℕ) → ((k : Kind) × IsNamed operation p k) ⊎ ((k : Kind) → IsNamed operation p k → ⊥) → (value : Contents) × Completes p value
  one_part p (inr none) = (part_at seen p, record { agrees = agree_self (known_by masks p) (part_at seen p); spells = λ k named. absurd (none k named) })
  one_part p (inl named) =
      let was = spelled p named.0 named.1 in
      let h = known p named.0 named.1 in
      let bytes : was.0 ≡ h.filled = some_one was.0 h.filled (sym was.1 ∙ h.there) in
      let held : part_at seen p ≡ was.2.0 = get_or_from_slice_get seen p was.2.0 (array elem.Integer []) was.2.1 in
      let found = completes named.0 (pages_of masks p) h.filled h.whole was.2.0 (subst (λ (b : List ℕ). Spells b named.0 was.2.0) bytes was.2.2) h.known in (
        found.0,
        record {
          agrees = subst (λ v. AgreeAt (known_by masks p) v found.0) (sym held) found.2;
          spells = λ k other. (h.whole, h.held, subst (λ l. Spells h.whole l found.0) (kind_once operation p named.0 k named.1 other) found.1);
        },
      )

  -- whole contents that complete what is known
  pub record Completion : Type 0 where
    pub whole : List Contents
    pub spelled_whole : AreSpelled at operation whole
    pub agree : Agree (known_by masks) seen whole

  pub completion : ((p : ℕ) → ((k : Kind) × IsNamed operation p k) ⊎ ((k : Kind) → IsNamed operation p k → ⊥)) → Completion
  completion naming =
      let all = choose Completes (array elem.Integer []) (length seen) 0 (λ k less. let one = one_part k (naming k) in (one.0, subst (λ p. Completes p one.0) (omega arith) one.1)) in
      let each : (p : ℕ) → p < length seen → Completes p (part_at all.xs p) = λ p less. subst (λ q. Completes q (part_at all.xs p)) (omega arith) (all.each p less) in
      record {
        whole = all.xs;
        spelled_whole = λ p k named.
            let was = spelled p k named in
            let less : p < length seen = slice_get_within seen p was.2.0 was.2.1 in
            let s = (each p less).spells k named in
            (s.0, s.1, (part_at all.xs p, slice_get-get_or all.xs p (array elem.Integer []) (omega (arith, less, all.many)), s.2));
        agree = record {
          many = sym all.many;
          each = λ p. agree_at p all.xs all.many each (cases_lt p (length seen));
        };
      } where
        agree_at : (p : ℕ) (whole : List Contents) → length whole ≡ length seen → ((p : ℕ) → p < length seen → Completes p (part_at whole p)) → (p < length seen) ⊎ (length seen ≤ p) → AgreeAt (known_by masks p) (part_at seen p) (part_at whole p)
        agree_at p whole many each (inl less) = (each p less).agrees
        agree_at p whole many each (inr past) =
            let one : part_at seen p ≡ array elem.Integer [] = past_end seen p past in
            let other : part_at whole p ≡ array elem.Integer [] = past_end whole p (omega (arith, past, many)) in
            subst (λ v. AgreeAt (known_by masks p) v (part_at whole p)) (sym one) (subst (λ w. AgreeAt (known_by masks p) (array elem.Integer []) w) (sym other) (agree_self (known_by masks p) (array elem.Integer [])))

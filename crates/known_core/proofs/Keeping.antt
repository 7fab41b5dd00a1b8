-- Only what is known is changed.
use Rattle.std.proofs.Common.{◌≡◌, ℕ, ◌<◌, Bool, true, false, List, length, ◌⊎◌, inl, inr, refl, sym, ap, ◌∙◌, subst}
use Rattle.std.specs.Prelude.{Result, Ok, Err, ok_or, slice_set, if◌then◌else◌}
use Rattle.std.proofs.lemmas.List.{length-set}
use Rattle.value_core.specs.declared.datum.Datum.{Datum}
use Rattle.value_core.specs.declared.refusal.Refusal.{Refusal}
use Rattle.value_core.specs.declared.refusal.Refusal.TheVariants.{Index}
use Rattle.value_core.specs.declared.kind.Kind.TheVariants as kind
use Rattle.value_core.specs.Contents.{Contents, array, queue, table}
use Rattle.value_core.specs.Meaning.{with_element, without_oldest, with_newest, with_row, without_key}
use Rattle.decl_core.specs.Form.{Statement, block, set_element, set_result, append, take, store, erase, choose, refuse, Statements, nothing, first_and}
use Rattle.decl_core.specs.Meaning.{Changed, part_at, seen_with}
use Rattle.known_core.specs.Known.{Known, KeepsAt, Keeps}
use Rattle.known_core.specs.Partly.{needs, Partly, ◌>>>◌, integer_known, text_known, value_known, holds_known, with_contents, chosen_known, after_known, all_known}
use Rattle.known_core.proofs.Agreeing.{got_other, at_set}

keep_at : (known : ℕ → Bool) (v : Contents) → KeepsAt known v v
keep_at known v = record { kind = refl; elements = λ i is. refl }

pub keep : (known : Known) (parts : List Contents) → Keeps known parts parts
keep known parts = record { many = refl; each = λ p. keep_at (known p) (part_at parts p) }

pub keep_on : (known : Known) (before between after : List Contents) → Keeps known before between → Keeps known between after → Keeps known before after
keep_on known before between after h k = record {
  many = k.many ∙ h.many;
  each = λ p. record {
    kind = (k.each p).kind ∙ (h.each p).kind;
    elements = λ i is. (k.each p).elements i is ∙ (h.each p).elements i is;
  };
}

abbrev KeepsOf : (ℕ → Bool) → Contents → Result Contents Refusal → Type 0
KeepsOf known v (Ok x) = KeepsAt known v x
KeepsOf known v (Err r) = Unit {0}

by_test : (b : Bool) (known : ℕ → Bool) (v x : Contents) (r : Refusal) → KeepsAt known v x → KeepsOf known v (if b then Ok x else Err r)
by_test true known v x r h = h
by_test false known v x r h = tt

oldest_keeps : (known : ℕ → Bool) (v : Contents) → KeepsOf known v (without_oldest v)
oldest_keeps known (array e xs) = tt
oldest_keeps known (queue e xs) = by_test _ known (queue e xs) _ _ (record { kind = refl; elements = λ i is. refl })
oldest_keeps known (table e m) = tt

newest_keeps : (known : ℕ → Bool) (v : Contents) (d : Datum) → KeepsOf known v (with_newest v d)
newest_keeps known (array e xs) d = tt
newest_keeps known (queue e xs) d = by_test _ known (queue e xs) _ _ (record { kind = refl; elements = λ i is. refl })
newest_keeps known (table e m) d = tt

row_keeps : (known : ℕ → Bool) (v : Contents) (k : List ℕ) (d : Datum) → KeepsOf known v (with_row v k d)
row_keeps known (array e xs) k d = tt
row_keeps known (queue e xs) k d = tt
row_keeps known (table e m) k d = by_test _ known (table e m) _ _ (record { kind = refl; elements = λ i is. refl })

key_keeps : (known : ℕ → Bool) (v : Contents) (k : List ℕ) → KeepsOf known v (without_key v k)
key_keeps known (array e xs) k = tt
key_keeps known (queue e xs) k = tt
key_keeps known (table e m) k = by_test _ known (table e m) _ _ (record { kind = refl; elements = λ i is. refl })

true_or : (b : Bool) → b ≡ true → b ≡ false → ⊥
true_or b is not = cc

element_keeps : (known : ℕ → Bool) (v : Contents) (n : ℕ) (d : Datum) → known n ≡ true → KeepsOf known v (with_element v n d)
element_keeps known (array e xs) n d knows = by_test _ known (array e xs) _ _ (record {
  kind = ap (λ k. kind.Array k e) (length-set xs n d);
  elements = λ i is. ap (λ o. ok_or o Index) (got_other xs n i d (λ same. true_or (known n) knows (subst (λ j. known j ≡ false) same is)));
})
element_keeps known (queue e xs) n d knows = tt
element_keeps known (table e m) n d knows = tt

-- statements that were done keep the rest
abbrev pub KeepsBy : Known → List Contents → Partly Changed → Type 0
KeepsBy known before (Ok d) = Keeps known before d.parts
KeepsBy known before (Err h) = Unit {0}

put_keeps : (known : Known) (c : Changed) (p : ℕ) (new : Result Contents Refusal) → KeepsOf (known p) (part_at c.parts p) new → KeepsBy known c.parts (with_contents c p new)
put_keeps known c p (Ok x) h = record { many = length-set c.parts p x; each = λ q. put_at q (at_set c.parts p q x) } where
  put_at : (q : ℕ) → ((q ≡ p) × (p < length c.parts) × (part_at (slice_set c.parts p x) q ≡ x)) ⊎ (part_at (slice_set c.parts p x) q ≡ part_at c.parts q) → KeepsAt (known q) (part_at c.parts q) (part_at (slice_set c.parts p x) q)
  put_at q (inl a) = subst (λ v. KeepsAt (known q) (part_at c.parts q) v) (sym a.2) (subst (λ k. KeepsAt (known k) (part_at c.parts k) x) (sym a.0) h)
  put_at q (inr b) = subst (λ v. KeepsAt (known q) (part_at c.parts q) v) (sym b) (keep_at (known q) (part_at c.parts q))
put_keeps known c p (Err r) h = tt

value_keeps : {A : Type 0} (known : Known) (before : List Contents) (r : Partly A) (f : A → Partly Changed) → ((x : A) → KeepsBy known before (f x)) → KeepsBy known before (r >>> f)
value_keeps known before (Ok x) f h = h x
value_keeps known before (Err k) f h = tt

later : (known : Known) (before between : List Contents) (r : Partly Changed) → Keeps known before between → KeepsBy known between r → KeepsBy known before r
later known before between (Ok d) h k = keep_on known before between d.parts h k
later known before between (Err l) h k = tt

done_keeps : (known : Known) (before : List Contents) (r : Partly Changed) (f : Changed → Partly Changed) → KeepsBy known before r → ((d : Changed) → KeepsBy known d.parts (f d)) → KeepsBy known before (r >>> f)
done_keeps known before (Ok d) f h k = later known before d.parts (f d) h (k d)
done_keeps known before (Err l) f h k = tt

chosen_keeps : (known : Known) (b : Bool) (before : List Contents) (r s : Partly Changed) → KeepsBy known before r → KeepsBy known before s → KeepsBy known before (chosen_known b r s)
chosen_keeps known true before r s h k = h
chosen_keeps known false before r s h k = k

-- an element that is set is known
element_set : (known : Known) (c : Changed) (p n : ℕ) (d : Datum) (b : Bool) → known p n ≡ b → KeepsBy known c.parts (with_contents c p (with_element (part_at c.parts p) n d) >>> λ x. if b then Ok x else Err (needs p n))
element_set known c p n d true is = kept (with_contents c p (with_element (part_at c.parts p) n d)) (put_keeps known c p _ (element_keeps (known p) (part_at c.parts p) n d is)) where
  kept : (r : Partly Changed) → KeepsBy known c.parts r → KeepsBy known c.parts (r >>> λ x. Ok x)
  kept (Ok x) h = h
  kept (Err k) h = tt
element_set known c p n d false is = none (with_contents c p (with_element (part_at c.parts p) n d)) where
  none : (r : Partly Changed) → KeepsBy known c.parts (r >>> λ x. Err (needs p n))
  none (Ok x) = tt
  none (Err k) = tt

module _ (known : Known) (args : List Datum) where
  mutual
    pub statement_keeps : (s : Statement) (c : Changed) → KeepsBy known c.parts (after_known known args s c)
    statement_keeps (block all) c = all_keeps all c
    statement_keeps (set_element p i x) c = value_keeps known c.parts (integer_known known (seen_with args c) i) _ (λ n. value_keeps known c.parts (value_known known (seen_with args c) x) _ (λ d. element_set known c p n d (known p n) refl))
    statement_keeps (set_result x) c = value_keeps known c.parts (value_known known (seen_with args c) x) _ (λ d. keep known c.parts)
    statement_keeps (append p x) c = value_keeps known c.parts (value_known known (seen_with args c) x) _ (λ d. put_keeps known c p _ (newest_keeps (known p) (part_at c.parts p) d))
    statement_keeps (take p) c = put_keeps known c p _ (oldest_keeps (known p) (part_at c.parts p))
    statement_keeps (store p k x) c = value_keeps known c.parts (text_known known (seen_with args c) k) _ (λ key. value_keeps known c.parts (value_known known (seen_with args c) x) _ (λ d. put_keeps known c p _ (row_keeps (known p) (part_at c.parts p) key d)))
    statement_keeps (erase p k) c = value_keeps known c.parts (text_known known (seen_with args c) k) _ (λ key. put_keeps known c p _ (key_keeps (known p) (part_at c.parts p) key))
    statement_keeps (choose q s t) c = value_keeps known c.parts (holds_known known (seen_with args c) q) _ (λ b. chosen_keeps known b c.parts (after_known known args s c) (after_known known args t c) (statement_keeps s c) (statement_keeps t c))
    statement_keeps (refuse w) c = tt

    pub all_keeps : (all : Statements) (c : Changed) → KeepsBy known c.parts (all_known known args all c)
    all_keeps nothing c = keep known c.parts
    all_keeps (first_and s rest) c = done_keeps known c.parts (after_known known args s c) _ (statement_keeps s c) (λ d. all_keeps rest d)

-- Where names are distinct, each is found at its own place.
use Rattle.std.proofs.Common.{◌≡◌, ℕ, zero, suc, ◌<◌, Bool, true, false, cond, Some, List, [], ◌∷◌, length, refl, sym, ap, subst, ◌∙◌, arith, inl, inr, ◌⊎◌}
use Rattle.std.specs.Prelude.{Decides, bytes_eq, ◌||◌}
use Rattle.std.proofs.lemmas.Bool.{eqb-true}
use Rattle.std.proofs.lemmas.Slice.Eq.{bytes_eq-Decides}
use Rattle.path_tree.specs.Path.{Path, Paths, name, list, sequence, bound, burst, two, more}
use Rattle.path_tree.specs.Names.{names, some_names, NamesBelow, AllBelow}
use Rattle.path_tree.specs.Known.{Known, place_of, next}
use Rattle.path_tree.specs.Canonical.{name_of, AreDistinct}
use Rattle.path_tree.proofs.Printing.{AreFound}

decided_false : (b : Bool) (P : Type 0) → Decides b P → (P → ⊥) → b ≡ false
decided_false true P d n = absurd (n (d.0 refl))
decided_false false P d n = refl

-- the same bytes are told to be so, and no others
same_true : (x y : List ℕ) → x ≡ y → bytes_eq x y ≡ true
same_true x y h = (bytes_eq-Decides x y).1 h

same_false : (x y : List ℕ) → (x ≡ y → ⊥) → bytes_eq x y ≡ false
same_false x y h = decided_false (bytes_eq x y) (x ≡ y) (bytes_eq-Decides x y) h

later : (xs : List (List ℕ)) (x : List ℕ) → AreDistinct (x ∷ xs) → AreDistinct xs
later xs x h j k p q e = let r : suc j ≡ suc k = h (suc j) (suc k) (omega arith) (omega arith) e in omega arith

pub at_its_place : (xs : List (List ℕ)) (op : ℕ) → AreDistinct xs → op < length xs → place_of xs (name_of xs op) ≡ Some op
at_its_place [] op h lt = absurd (omega arith)
at_its_place (x ∷ xs) zero h lt = ap (λ b. cond b (Some 0) (next (place_of xs x))) (same_true x x refl)
at_its_place (x ∷ xs) (suc k) h lt =
    let other : x ≡ name_of xs k → ⊥ = λ e. let r : 0 ≡ suc k = h 0 (suc k) (omega arith) lt e in absurd (omega arith) in
    ap (λ b. cond b (Some 0) (next (place_of xs (name_of xs k)))) (same_false x (name_of xs k) other)
    ∙ ap next (at_its_place xs k (later xs x h) (omega arith))

either : (a b : Bool) → (a || b) ≡ true → (a ≡ true) ⊎ (b ≡ true)
either true b h = inl refl
either false b h = inr h

mutual
  pub named_below : (e : Path) (n op : ℕ) → NamesBelow e n → names e op ≡ true → op < n
  named_below (name o) n op h named = subst (λ i. i < n) (sym (eqb-true op o named)) h
  named_below (list ms) n op h named = all_below ms n op h named
  named_below (sequence ms) n op h named = all_below ms n op h named
  named_below (bound m e) n op h named = named_below e n op h named
  named_below (burst e) n op h named = named_below e n op h named

  all_below : (ms : Paths) (n op : ℕ) → AllBelow ms n → some_names ms op ≡ true → op < n
  all_below (two a b) n op h named = elim (either (names a op) (names b op) named) [ inl x ↦ named_below a n op h.0 x | inr y ↦ named_below b n op h.1 y ]
  all_below (more a rest) n op h named = elim (either (names a op) (some_names rest op) named) [ inl x ↦ named_below a n op h.0 x | inr y ↦ all_below rest n op h.1 y ]

pub found_by_name : (known : Known) (e : Path) → AreDistinct known.operations → NamesBelow e (length known.operations) → AreFound known (names e)
found_by_name known e distinct below op named = at_its_place known.operations op distinct (named_below e (length known.operations) op below named)

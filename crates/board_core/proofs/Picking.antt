-- Stamps that are picked where they stand.
use Rattle.std.proofs.Common.{◌≡◌, ℕ, zero, suc, ◌+◌, ◌<◌, ◌≤◌, ◌⊎◌, inl, inr, List, [], ◌∷◌, ◌++◌, length, take, drop, slice_index_or, refl, sym, ap, ◌∙◌, subst, arith, length-take}
use Rattle.std.proofs.lemmas.List.{take_all, take_at, drop_at}
use Rattle.std.specs.Prelude.{slice_get}
use Rattle.page_core.proofs.ListBytes.{some_same}
use Rattle.device_core.specs.declared.hand.Stamp.{Stamp}
use Rattle.board_core.specs.Free.{HasFile, Picks, no_more, needed, again, one_more}

-- what stands at a place, and behind it
pub record Stands (items : List Stamp) (at : ℕ) : Type 0 where
  pub stamp : Stamp
  pub rest : List Stamp
  pub here : drop at items ≡ stamp ∷ rest
  pub front : take (at + 1) items ≡ take at items ++ stamp ∷ []
  pub behind : drop (at + 1) items ≡ rest

pub stands : (items : List Stamp) (at : ℕ) → at < length items → Stands items at
stands [] at less = absurd (omega (arith, less))
stands (x ∷ xs) zero less = record { stamp = x; rest = xs; here = refl; front = refl; behind = refl }
stands (x ∷ xs) (suc k) less =
    let next = stands xs k (omega (arith, less)) in
    let one : suc (k + 1) ≡ suc k + 1 = omega arith in
    record {
      stamp = next.stamp;
      rest = next.rest;
      here = next.here;
      front = subst (λ n. take n (x ∷ xs) ≡ x ∷ (take k xs ++ next.stamp ∷ [])) one (ap (λ (t : List Stamp). x ∷ t) next.front);
      behind = subst (λ n. drop n (x ∷ xs) ≡ next.rest) one next.behind;
    }

-- the stamp at a place is the first behind it
pub first_there : (items : List Stamp) (at : ℕ) (other stamp : Stamp) (rest : List Stamp) → drop at items ≡ stamp ∷ rest → slice_index_or items at other ≡ stamp
first_there [] zero other stamp rest is = absurd cc
first_there [] (suc k) other stamp rest is = absurd cc
first_there (x ∷ xs) zero other stamp rest is = some_same (ap (λ (l : List Stamp). slice_get l 0) is)
first_there (x ∷ xs) (suc k) other stamp rest is = first_there xs k other stamp rest is

module _ (Needed : ℕ → Type 0) (items : List Stamp) (at : ℕ) where
  pub pick_ends : at ≡ length items → Picks Needed (take at items) (drop at items) items
  pick_ends end = subst (λ (p : List Stamp). Picks Needed p (drop at items) items) (sym (take_all at items (omega (arith, end)))) (subst (λ (r : List Stamp). Picks Needed items r items) (sym (none at items (omega (arith, end)))) no_more) where
    none : (n : ℕ) (xs : List Stamp) → length xs ≤ n → drop n xs ≡ []
    none zero [] le = refl
    none (suc n) [] le = refl
    none zero (x ∷ xs) le = absurd (omega (arith, le))
    none (suc n) (x ∷ xs) le = none n xs (omega (arith, le))

  module _ (at_low : at < length items) (here : Stands items at) where
    -- it goes: it is needed, or stands before it
    pub pick_goes : (items1 all : List Stamp) → (Needed here.stamp.number ⊎ HasFile here.stamp.number (take at items)) → items1 ≡ take at items ++ drop (at + 1) items → Picks Needed (take at items1) (drop at items1) all → Picks Needed (take at items) (drop at items) all
    pick_goes items1 all goes is more =
        let long : length (take at items) ≡ at = omega (arith, length-take at items, at_low) in
        let front : take at items1 ≡ take at items = ap (λ (t : List Stamp). take at t) is ∙ take_at (take at items) (drop (at + 1) items) at long in
        let behind : drop at items1 ≡ here.rest = ap (λ (t : List Stamp). drop at t) is ∙ drop_at (take at items) (drop (at + 1) items) at long ∙ here.behind in
        let rest : Picks Needed (take at items) here.rest all = subst (λ (p : List Stamp). Picks Needed p here.rest all) front (subst (λ (r : List Stamp). Picks Needed (take at items1) r all) behind more) in
        subst (λ (r : List Stamp). Picks Needed (take at items) r all) (sym here.here) (elim goes [
          | inl n ↦ needed here.stamp n rest
          | inr a ↦ again here.stamp a rest
        ])

    -- it is picked
    pub pick_stays : (all : List Stamp) → ((Needed here.stamp.number ⊎ HasFile here.stamp.number (take at items)) → ⊥) → Picks Needed (take (at + 1) items) (drop (at + 1) items) all → Picks Needed (take at items) (drop at items) all
    pick_stays all stays more =
        let rest : Picks Needed (take at items ++ here.stamp ∷ []) here.rest all = subst (λ (p : List Stamp). Picks Needed p here.rest all) here.front (subst (λ (r : List Stamp). Picks Needed (take (at + 1) items) r all) here.behind more) in
        subst (λ (r : List Stamp). Picks Needed (take at items) r all) (sym here.here) (one_more here.stamp (λ n. stays (inl n)) (λ a. stays (inr a)) rest)

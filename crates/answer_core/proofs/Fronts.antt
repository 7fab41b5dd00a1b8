-- The front of a text that is known.
use Rattle.std.proofs.Common.{◌≡◌, ℕ, List, [], ◌++◌, take, subst}
use Rattle.std.specs.Prelude.{Option, Some, None, IfSome, option_map}

-- where so many first bytes are put behind nothing, they are what there is
behind_nothing : (known : Option (List ℕ)) (n : ℕ) (new : List ℕ) → IfSome (option_map (take n) known) (λ xs. new ≡ [] ++ xs) → IfSome known (λ text. new ≡ take n text)
behind_nothing None n new h = tt
behind_nothing (Some text) n new h = h

-- the same by equations
pub front_known : (known other : Option (List ℕ)) (n m : ℕ) (old new : List ℕ) → other ≡ known → n ≡ m → old ≡ [] →
    IfSome (option_map (take n) other) (λ xs. new ≡ old ++ xs) → IfSome known (λ text. new ≡ take m text)
front_known known other n m old new e f o h =
    let a = subst (λ k. IfSome (option_map (take n) k) (λ xs. new ≡ old ++ xs)) e h in
    let b = subst (λ k. IfSome (option_map (take k) known) (λ xs. new ≡ old ++ xs)) f a in
    behind_nothing known m new (subst (λ k. IfSome (option_map (take m) known) (λ xs. new ≡ k ++ xs)) o b)

-- What a certificate of an exclusive object is.
use Rattle.std.specs.Prelude.{◌≡◌, ℕ, ◌≤◌, ◌<◌, ◌⊎◌, List, [], ◌∷◌}
use Rattle.decl_core.specs.ObjectForm.{ObjectForm}
use Rattle.decl_core.specs.declared.certificate.SeparatedPair.{SeparatedPair}
use Rattle.decl_core.specs.Exclusive.{Conflicts, SeparatedBy, PairBefore}

-- each entry has this
abbrev pub Each : (SeparatedPair → Type 0) → List SeparatedPair → Type 0
Each P [] = Unit {0}
Each P (e ∷ es) = P e × Each P es

-- the pairs of the entries rise
abbrev pub AreRising : List SeparatedPair → Type 0
AreRising [] = Unit {0}
AreRising (e ∷ es) = Each (λ f. PairBefore e.first e.second f.first f.second) es × AreRising es

-- an entry is of this pair
abbrev pub HasPair : ℕ → ℕ → List SeparatedPair → Type 0
HasPair i j [] = ⊥
HasPair i j (e ∷ es) = ((e.first ≡ i) × (e.second ≡ j)) ⊎ HasPair i j es

-- an entry is of two operations that conflict, in order, and its node separates them
pub record IsSound (o : ObjectForm) (e : SeparatedPair) : Type 0 where
  pub in_order : e.first ≤ e.second
  pub conflict : Conflicts o e.first e.second
  pub separated : SeparatedBy o e.path e.node e.first e.second

-- no node before that of the entry separates its operations
abbrev pub IsOfFirst : ObjectForm → SeparatedPair → Type 0
IsOfFirst o e =
    (path node : ℕ) → SeparatedBy o path node e.first e.second → (e.path < path) ⊎ ((e.path ≡ path) × (e.node ≤ node))

-- The entries are the pairs of operations that conflict, in order, one each, and each entry's node separates its pair.
pub record IsCertificate (o : ObjectForm) (entries : List SeparatedPair) : Type 0 where
  pub rising : AreRising entries
  pub sound : Each (IsSound o) entries
  pub all : (i j : ℕ) → i ≤ j → Conflicts o i j → HasPair i j entries

-- a certificate each of whose entries has the first path and in it the first node that separates
pub record IsFirstCertificate (o : ObjectForm) (entries : List SeparatedPair) : Type 0 where
  pub certificate : IsCertificate o entries
  pub first : Each (IsOfFirst o) entries

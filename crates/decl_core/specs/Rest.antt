-- What is left of a certificate from a pair of operations on. The contracts of inner functions alone name this.
use Rattle.std.specs.Prelude.{◌≡◌, ℕ, ◌≤◌, List, ◌++◌}
use Rattle.decl_core.specs.ObjectForm.{ObjectForm}
use Rattle.decl_core.specs.declared.certificate.SeparatedPair.{SeparatedPair}
use Rattle.decl_core.specs.Exclusive.{Conflicts, SeparatedBy, AreSeparated, PairBefore}
use Rattle.decl_core.specs.Certificate.{Each, AreRising, HasPair, IsOfFirst}

-- the pair a, b does not stand before the pair i, j
abbrev pub IsFrom : ℕ → ℕ → ℕ → ℕ → Type 0
IsFrom i j a b = (i ≤ a) × (a ≡ i → j ≤ b)

-- an entry whose node fits, of two operations that conflict, in order, and not before the pair i, j
pub record IsEntryFrom (o : ObjectForm) (Fits : SeparatedPair → Type 0) (i j : ℕ) (e : SeparatedPair) : Type 0 where
  pub in_order : e.first ≤ e.second
  pub from : IsFrom i j e.first e.second
  pub conflict : Conflicts o e.first e.second
  pub fits : Fits e

-- The entries are the pairs of operations that conflict, from the pair i, j on, in order, one each, and
-- the node of each fits.
pub record IsRest (o : ObjectForm) (Fits : SeparatedPair → Type 0) (i j : ℕ) (entries : List SeparatedPair) : Type 0 where
  pub rising : AreRising entries
  pub each : Each (IsEntryFrom o Fits i j) entries
  pub all : (a b : ℕ) → a ≤ b → IsFrom i j a b → Conflicts o a b → HasPair a b entries

-- the node of an entry separates its operations
abbrev pub NodeSeparates : ObjectForm → SeparatedPair → Type 0
NodeSeparates o e = SeparatedBy o e.path e.node e.first e.second

-- the entries are the rest of a certificate from the pair i, j on
abbrev pub IsRestOf : ObjectForm → ℕ → ℕ → List SeparatedPair → Type 0
IsRestOf o i j entries = IsRest o (NodeSeparates o) i j entries

-- the node of an entry separates its operations, and no node before it does
abbrev pub NodeIsFirst : ObjectForm → SeparatedPair → Type 0
NodeIsFirst o e = NodeSeparates o e × IsOfFirst o e

-- These are the entries of a first certificate up to the pair i, j: with those from there on they are a whole one, and
-- each two operations that conflict before it are separated.
pub record IsCertified (o : ObjectForm) (i j : ℕ) (entries : List SeparatedPair) : Type 0 where
  pub whole : (more : List SeparatedPair) → IsRest o (NodeIsFirst o) i j more → IsRest o (NodeIsFirst o) 0 0 (entries ++ more)
  pub separated : (a b : ℕ) → a ≤ b → PairBefore a b i j → Conflicts o a b → AreSeparated o a b

-- Parts that hold values of their kinds.
use Rattle.std.proofs.Common.{◌≡◌, ℕ, zero, suc, List, [], ◌∷◌, refl, ap}
use Rattle.std.specs.Prelude.{Option, Some, unwrap_or}
use Rattle.value_core.specs.declared.kind.Kind.{Kind}
use Rattle.value_core.specs.Contents.{Contents, kind_of}
use Rattle.decl_core.specs.declared.object.Operation.{Operation}
use Rattle.apply_core.specs.Fits.{HoldsReads}
use Rattle.apply_core.specs.Held.{HoldsItsKind}

-- of no part a kind is asked
pub none_held : (parts : List Contents) (p : ℕ) → HoldsItsKind parts [] p
none_held parts p kind is = absurd cc

-- a part that holds its kind, before those that do
pub more_held : (value : Contents) (parts : List Contents) (first : Option Kind) (kinds : List (Option Kind)) → ((k : Kind) → first ≡ Some k → kind_of value ≡ k)
    → ((p : ℕ) → HoldsItsKind parts kinds p) → (p : ℕ) → HoldsItsKind (value ∷ parts) (first ∷ kinds) p
more_held value parts first kinds here more zero kind is = (value, refl, here kind (ap (λ o. unwrap_or o first) is))
more_held value parts first kinds here more (suc p) kind is = more p kind is

-- then each that an operation reads does
pub reads_held : (operation : Operation) (parts : List Contents) → ((p : ℕ) → HoldsItsKind parts operation.kinds.items p) → HoldsReads operation parts
reads_held operation parts all p kind named = all p kind named.held

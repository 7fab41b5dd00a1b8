-- What a part begins with is what a value can have.
use Rattle.std.proofs.Common.{◌≡◌, ℕ, zero, suc, ◌≤◌, [], ◌∷◌, replicate, refl, sym, ap, subst, arith}
use Rattle.std.specs.Prelude.{All, map}
use Rattle.std.specs.FinMap as map
use Rattle.std.proofs.lemmas.List.{length-replicate}
use Rattle.std.proofs.lemmas.List.Elements.{All-nil, All-replicate}
use Rattle.value_core.specs.Limits.{most_elements}
use Rattle.value_core.specs.declared.datum.Datum.{Datum}
use Rattle.value_core.specs.declared.kind.Elem.{Elem}
use Rattle.value_core.specs.declared.kind.Elem.TheVariants as elem
use Rattle.value_core.specs.Plain.{IsText}
use Rattle.value_core.specs.Datum.{zero_of, IsElement}
use Rattle.value_core.specs.TextOrder.{text_cmp}
use Rattle.value_core.specs.Contents.{AreElements, AreRows, IsRow}
use Rattle.value_core.proofs.Tables.{none_of}

no_byte : IsText []
no_byte = record { few = omega arith; plain = All-nil _ }

zero_is : (e : Elem) → IsElement e (zero_of e)
zero_is elem.Integer = record { sort = refl; datum = omega arith }
zero_is elem.Text = record { sort = refl; datum = no_byte }

pub zeros_are : (e : Elem) (n : ℕ) → n ≤ most_elements → AreElements e (replicate n (zero_of e))
zeros_are e n few = record { each = All-replicate (IsElement e) n (zero_of e) (zero_is e); few = omega (arith, length-replicate n (zero_of e)) }

pub none_are : (e : Elem) → AreElements e []
none_are e = record { each = All-nil (IsElement e); few = omega arith }

pub empty_are : (e : Elem) → AreRows e map.empty
empty_are e = record { each = subst (All (IsRow e)) (sym none_of) (All-nil (IsRow e)); few = omega (arith, map.len-empty text_cmp Datum) }

pub map_all : {X Y : Type 0} (f : X → Y) (n : ℕ) (x : X) → map f (replicate n x) ≡ replicate n (f x)
map_all f zero x = refl
map_all f (suc n) x = ap (λ ys. f x ∷ ys) (map_all f n x)

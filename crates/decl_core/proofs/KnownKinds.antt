-- What an operation knows of the parts of its object.
use Rattle.std.proofs.Common.{◌≡◌, ℕ, zero, suc, ◌+◌, ◌==◌, ◌≤◌, Bool, true, false, if◌then◌else◌, map, List, [], ◌∷◌, ◌++◌, length, Option, Some, None, refl, ap, ◌∙◌, append_assoc, arith}
use Rattle.std.specs.Int.{bit_at}
use Rattle.value_core.specs.declared.kind.Kind.{Kind}
use Rattle.decl_core.specs.declared.object.Part.{Part}
use Rattle.decl_core.specs.declared.stmt.Stmt.{Stmt}
use Rattle.decl_core.specs.View.{all_of}
use Rattle.decl_core.specs.Footprint.{named_in_all}
use Rattle.decl_core.specs.ObjectForm.{kinds_from}
use Rattle.decl_core.specs.ObjectMap.{parts_of}
use Rattle.decl_core.specs.PartKinds.{AreKindsOf}

-- one element more behind a list, and then others
pub kinds_pushed : (before after : List (Option Kind)) (k : Option Kind) (others : List (Option Kind)) → after ≡ before ++ k ∷ [] → after ++ others ≡ before ++ (k ∷ others)
kinds_pushed before after k others is = ap (λ xs. xs ++ others) is ∙ append_assoc before (k ∷ []) others

length_kinds : (reads place : ℕ) (parts : List Part) → length (kinds_from reads place (parts_of parts)) ≡ length parts
length_kinds reads place [] = refl
length_kinds reads place (p ∷ parts) = omega (arith, length_kinds reads (place + 1) parts)

-- the kinds that were put in an empty list
pub kinds_are : (before kinds : List (Option Kind)) (bits : ℕ) (parts : List Part) (list body : List Stmt) → before ≡ [] → bits ≡ named_in_all (all_of list) 0 → list ≡ body → kinds ≡ before ++ kinds_from bits 0 (parts_of parts) →
    kinds ≡ kinds_from (named_in_all (all_of body) 0) 0 (parts_of parts)
kinds_are before kinds bits parts list body none named same h =
    h ∙ ap (λ xs. xs ++ kinds_from bits 0 (parts_of parts)) none ∙ ap (λ b. kinds_from b 0 (parts_of parts)) (named ∙ ap (λ xs. named_in_all (all_of xs) 0) same)

pub kinds_few : (kinds : List (Option Kind)) (bits : ℕ) (parts : List Part) → kinds ≡ kinds_from bits 0 (parts_of parts) → length parts ≤ 16 → length kinds ≤ 16
kinds_few kinds bits parts same few = omega (arith, ap length same, length_kinds bits 0 parts)

known_where : (b : Bool) (a k : Kind) → Some (if b then Some a else None) ≡ Some (Some k) → Some a ≡ Some k
known_where true a k h = cc
known_where false a k h = absurd cc

-- what is known of parts is so
pub kinds_known : (reads place : ℕ) (parts : List (List ℕ × Kind)) → AreKindsOf (map (λ p. p.1) parts) (kinds_from reads place parts)
kinds_known reads place [] p k h = absurd cc
kinds_known reads place (x ∷ parts) zero k h = known_where (bit_at reads place == 1) x.1 k h
kinds_known reads place (x ∷ parts) (suc p) k h = kinds_known reads (place + 1) parts p k h

-- What the compiler keeps on its way over the paths and the operations.
use Rattle.std.proofs.Common.{◌≡◌, ℕ, zero, suc, ◌+◌, ◌-◌, ◌<◌, ◌≤◌, inl, inr, true, false, List, [], ◌∷◌, ◌++◌, refl, ap, arith, sym, ◌∙◌, length, get_or, map, subst, append_assoc}
use Rattle.std.proofs.Math.ListN.{get_or-append}
use Rattle.std.proofs.Math.Seq.{get_or-append_right, get_or-append_seam}
use Rattle.std.specs.Prelude.{if◌then◌else◌}
use Rattle.std.proofs.lemmas.Bool.Decides.{leb_tells}
use Rattle.std.proofs.lemmas.List.{length-append}
use Rattle.path_tree.specs.Path.{Path, Paths, name, list, sequence, bound, burst, two, more}
use Rattle.path_tree.specs.Names.{names}
use Rattle.path_tree.specs.Limits.{IsPathTree, node_count, count_of_all}
use Rattle.path_count.specs.declared.program.Step.{Step}
use Rattle.path_count.specs.declared.object.OperationPrograms.{OperationPrograms}
use Rattle.path_count.specs.Program.{slots, slots_of}
use Rattle.path_count.specs.Object.{all_slots, programs_of, AllOnce}
use Rattle.path_count.specs.Parts.{chosen}
use Rattle.path_count.specs.Steps.{IsCompiled, AreCompiled, AllZero}

-- a path has fewer counters than nodes
mutual
  slots_below : (e : Path) → slots e < node_count e
  slots_below (name o) = omega arith
  slots_below (list ms) = omega (arith, slots_at_most ms)
  slots_below (sequence ms) = omega (arith, slots_at_most ms)
  slots_below (bound n e) = omega (arith, slots_below e)
  slots_below (burst e) = omega (arith, slots_below e)

  slots_at_most : (ms : Paths) → slots_of ms ≤ count_of_all ms
  slots_at_most (two a b) = omega (arith, slots_below a, slots_below b)
  slots_at_most (more a rest) = omega (arith, slots_below a, slots_at_most rest)

pub few_slots : (e : Path) → IsPathTree e → slots e < 256
few_slots e tree = omega (arith, slots_below e, tree.few)

-- a part that says nothing of any path has all of them
pub whole_part : (k : ℕ) (paths : List Path) → chosen [] k paths ≡ paths
whole_part k [] = refl
whole_part k (p ∷ paths) = ap (λ rest. p ∷ rest) (whole_part (k + 1) paths)

-- so many counters for one path more
pub slots_next : (all rest : List Path) (p : Path) → all ≡ p ∷ rest → all_slots all ≡ slots p + all_slots rest
slots_next all rest p is = ap all_slots is

pub once_next : (all rest : List Path) (p : Path) → all ≡ p ∷ rest → IsPathTree p → AllOnce rest → AllOnce all
once_next all rest p is tree once = subst AllOnce (sym is) (tree.once, once)

one_zero : (k : ℕ) → get_or {A = ℕ} (0 ∷ []) k 0 ≡ 0
one_zero zero = refl
one_zero (suc k) = refl

-- one zero more
pub zero_push : (w v : List ℕ) → v ≡ w ++ 0 ∷ [] → AllZero w → AllZero v
zero_push w v is zeros k = ap (λ x. get_or x k 0) is ∙ elim (leb_tells (length w) k) [
  | inl past ↦ get_or-append_right w (0 ∷ []) k 0 past.1 ∙ one_zero (k - length w)
  | inr within ↦ get_or-append w (0 ∷ []) 0 k within.1 ∙ zeros k
]

-- the program of a path that names the operation
pub push_named : (steps : Path → ℕ → ℕ → List Step) (p : Path) (all rest : List Path) (at op : ℕ) (done now every : List (List Step)) →
    names p op ≡ true → all ≡ p ∷ rest → now ≡ done ++ steps p at op ∷ [] → done ++ programs_of steps all at op ≡ every → now ++ programs_of steps rest (at + slots p) op ≡ every
push_named steps p all rest at op done now every here is pushed h =
    ap (λ x. x ++ programs_of steps rest (at + slots p) op) pushed
    ∙ append_assoc done (steps p at op ∷ []) (programs_of steps rest (at + slots p) op)
    ∙ ap (λ b. done ++ (if b then steps p at op ∷ programs_of steps rest (at + slots p) op else programs_of steps rest (at + slots p) op)) (sym here)
    ∙ ap (λ x. done ++ programs_of steps x at op) (sym is) ∙ h

-- none of a path that does not
pub skip_unnamed : (steps : Path → ℕ → ℕ → List Step) (p : Path) (all rest : List Path) (at op : ℕ) (done every : List (List Step)) →
    names p op ≡ false → all ≡ p ∷ rest → done ++ programs_of steps all at op ≡ every → done ++ programs_of steps rest (at + slots p) op ≡ every
skip_unnamed steps p all rest at op done every absent is h =
    ap (λ b. done ++ (if b then steps p at op ∷ programs_of steps rest (at + slots p) op else programs_of steps rest (at + slots p) op)) (sym absent)
    ∙ ap (λ x. done ++ programs_of steps x at op) (sym is) ∙ h

-- one operation more
pub compiled_push : (paths : List Path) (all now : List OperationPrograms) (o : OperationPrograms) → now ≡ all ++ o ∷ [] → AreCompiled paths all → IsCompiled paths (length all) o → AreCompiled paths now
compiled_push paths all now o is each last = subst (AreCompiled paths) (sym is) (λ op d lt. elim (leb_tells (length all) op) [
  | inl past ↦ let same : length all ≡ op = omega (arith, lt, past.1, length-append all (o ∷ [])) in
      subst (λ k. IsCompiled paths k (get_or (all ++ o ∷ []) k d)) same (subst (IsCompiled paths (length all)) (sym (get_or-append_seam all o [] d)) last)
  | inr within ↦ subst (IsCompiled paths op) (sym (get_or-append all (o ∷ []) d op within.1)) (each op d within.1)
])

-- the programs of an operation among those of all
pub compiled_at : (f : OperationPrograms → List (List Step)) (all : List OperationPrograms) (op : ℕ) (programs : List (List Step)) → op < length all →
    ((o : OperationPrograms) → f (get_or all op o) ≡ programs) → get_or (map f all) op [] ≡ programs
compiled_at f [] op programs lt h = absurd (omega (arith, lt))
compiled_at f (o ∷ all) zero programs lt h = h o
compiled_at f (o ∷ all) (suc op) programs lt h = compiled_at f all op programs (omega (arith, lt)) h

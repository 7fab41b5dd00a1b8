-- Some assignment agrees with a hand in memory: the map of its own files.
use Rattle.std.proofs.Common.{◌≡◌, ◌≢◌, ℕ, zero, suc, ◌+◌, true, false, cond, List, [], ◌∷◌, Option, Some, None, refl, sym, ap, ◌∙◌, subst, arith}
use Rattle.std.specs.Prelude.{slice_get}
use Rattle.std.specs.Cmp.{nat_cmp_total, nat_cmp_is}
use Rattle.std.specs.Ordering.{nat_cmp, eq_by_cmp, is_eq}
use Rattle.std.specs.declared.cmp.Ordering.TheVariants.{Less, Equal, Greater}
use Rattle.std.specs.FinMap.{get, insert, empty, get-insert, nat_cmp-IsAntisymmetric}
use Rattle.device_core.specs.Device.{Assignment}
use Rattle.device_core.specs.declared.file.File.{File}
use Rattle.device_core.specs.Files.{file_at, sealed_of, HasFiles}

differ : (q k : ℕ) → q ≢ k → eq_by_cmp nat_cmp q k ≡ false
differ q k ne = elim (nat_cmp q k) as (λ r. nat_cmp q k ≡ r → is_eq r ≡ false) [
  | Less ↦ λ e. refl
  | Equal ↦ λ e. absurd (ne (nat_cmp-IsAntisymmetric q k e))
  | Greater ↦ λ e. refl
] refl

same_key : (q : ℕ) → eq_by_cmp nat_cmp q q ≡ true
same_key q = ap is_eq (sym (nat_cmp_is q q Equal refl))

abbrev put_if : Option (List ℕ) → ℕ → Assignment → Assignment
put_if None k m = m
put_if (Some b) k m = insert m k b

abbrev map_from : ℕ → List File → Assignment
map_from i [] = empty
map_from i (f ∷ fs) = put_if (sealed_of (Some f)) (suc i) (map_from (suc i) fs)

first : (s : Option (List ℕ)) (k : ℕ) (m : Assignment) (b : List ℕ) → s ≡ Some b → get (put_if s k m) k ≡ Some b
first None k m b e = absurd cc
first (Some c) k m b e = get-insert nat_cmp_total m k c k ∙ ap (λ t. cond t (Some c) (get m k)) (same_key k) ∙ e

later : (s : Option (List ℕ)) (k q : ℕ) (m : Assignment) → q ≢ k → get (put_if s k m) q ≡ get m q
later None k q m ne = refl
later (Some c) k q m ne = get-insert nat_cmp_total m k c q ∙ ap (λ t. cond t (Some c) (get m q)) (differ q k ne)

each_file : (files : List File) (i k : ℕ) (b : List ℕ) → sealed_of (slice_get files k) ≡ Some b → get (map_from i files) (suc (i + k)) ≡ Some b
each_file [] i k b e = absurd cc
each_file (f ∷ fs) i zero b e =
    subst (λ q. get (map_from i (f ∷ fs)) q ≡ Some b) (let z : suc i ≡ suc (i + 0) = omega arith in z) (first (sealed_of (Some f)) (suc i) (map_from (suc i) fs) b e)
each_file (f ∷ fs) i (suc k) b e =
    later (sealed_of (Some f)) (suc i) (suc (i + suc k)) (map_from (suc i) fs) (λ same. absurd (omega (arith, same)))
    ∙ ap (get (map_from (suc i) fs)) (let z : suc (i + suc k) ≡ suc (suc i + k) = omega arith in z) ∙ each_file fs (suc i) k b e

pub some_map : (files : List File) → (a : Assignment) × HasFiles files a
some_map files = (map_from 0 files, record { each = each }) where
  each : (n : ℕ) (b : List ℕ) → sealed_of (file_at files n) ≡ Some b → get (map_from 0 files) n ≡ Some b
  each zero b e = absurd cc
  each (suc n) b e = subst (λ q. get (map_from 0 files) q ≡ Some b) (let z : suc (0 + n) ≡ suc n = omega arith in z) (each_file files 0 n b e)

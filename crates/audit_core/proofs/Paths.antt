-- What paths let start.
use Rattle.std.proofs.Common.{◌+◌, ◌-◌, take, drop, get_or, length-append, drop-cons, false, Bool, ◌≡◌, ℕ, zero, suc, ◌<◌, List, [], ◌∷◌, ◌++◌, length, refl, sym, ap, ◌∙◌, subst, arith, inl, inr}
use Rattle.std.specs.Prelude.{Some, slice_get, IsTrue, ◌↔◌}
use Rattle.std.proofs.lemmas.Bool.{cases_eq, false≢true}
use Rattle.std.proofs.lemmas.List.{take_more}
use Rattle.path_tree.specs.Path.{Path, name}
use Rattle.path_tree.specs.Trace.{Event, Start}
use Rattle.path_tree.specs.Satisfies.{SatisfiesAll, MayStart}
use Rattle.path_count.specs.State.{State}
use Rattle.path_count.specs.Stands.{StandsFor, started_calls}
use Rattle.audit_core.specs.Counting.{AreCounters, AllMayStart}

each_may : (paths : List Path) (op number : ℕ) (t : List Event) → AllMayStart paths op t → SatisfiesAll paths (Start (record { number = number; operation = op }) ∷ t)
each_may [] op number t may = tt
each_may (p ∷ paths) op number t may = ((may zero p refl number).0, each_may paths op number t (λ k q at. may (suc k) q at))

-- where each path admits a start, all do
pub all_may : (paths : List Path) (op : ℕ) (t : List Event) → AllMayStart paths op t → MayStart paths op t
all_may paths op t may = λ number. each_may paths op number t may

each_push : (P : State → Path → Type 0) (xs : List State) (ys : List Path) (c : State) (p : Path) → length xs ≡ length ys
    → ((k : ℕ) (d : State) (q : Path) → slice_get xs k ≡ Some d → slice_get ys k ≡ Some q → P d q) → P c p
    → (k : ℕ) (d : State) (q : Path) → slice_get (xs ++ c ∷ []) k ≡ Some d → slice_get (ys ++ p ∷ []) k ≡ Some q → P d q
each_push P [] [] c p same each one zero d q at by = let e : c ≡ d = cc in let f : p ≡ q = cc in subst (λ x. P x q) e (subst (P c) f one)
each_push P [] [] c p same each one (suc k) d q at by = cc
each_push P [] (y ∷ ys) c p same each one k d q at by = absurd (omega (arith, same))
each_push P (x ∷ xs) [] c p same each one k d q at by = absurd (omega (arith, same))
each_push P (x ∷ xs) (y ∷ ys) c p same each one zero d q at by = each zero d q at by
each_push P (x ∷ xs) (y ∷ ys) c p same each one (suc k) d q at by = each_push P xs ys c p (omega (arith, same)) (λ j. each (suc j)) one k d q at by

no_path : Path
no_path = name 0

one_of : (paths : List Path) (i : ℕ) → i < length paths → take ((i + 1) - i) (drop i paths) ≡ get_or paths i no_path ∷ []
one_of paths i inside =
    let one : (i + 1) - i ≡ 1 = omega arith in
    ap (λ n. take n (drop i paths)) one ∙ ap (take 1) (drop-cons paths i no_path inside)

-- the counters of one path more
pub counted_more : (cs : List State) (n : ℕ) (paths : List Path) (t : List Event) (i : ℕ) (c : State) → i < length paths → AreCounters cs n (take i paths) t → StandsFor c n (take ((i + 1) - i) (drop i paths)) t → AreCounters (cs ++ c ∷ []) n (take (i + 1) paths) t
counted_more cs n paths t i c inside are one =
    let p = get_or paths i no_path in
    let more : take (i + 1) paths ≡ take i paths ++ p ∷ [] = take_more paths i no_path inside in
    let stands : StandsFor c n (p ∷ []) t = subst (λ ps. StandsFor c n ps t) (one_of paths i inside) one in
    subst (λ ps. AreCounters (cs ++ c ∷ []) n ps t) (sym more) (record {
      many = length-append cs (c ∷ []) ∙ ap (λ m. m + 1) are.many ∙ sym (length-append (take i paths) (p ∷ []));
      each = each_push (λ d q. StandsFor d n (q ∷ []) t) cs (take i paths) c p are.many are.each stands;
    })

-- where the starts are not spent, one is left
pub one_left : (c : State) (n : ℕ) (paths : List Path) (t : List Event) (b : Bool) → StandsFor c n paths t → (IsTrue b ↔ (started_calls t ≡ 65536)) → b ≡ false → started_calls t < 65536
one_left c n paths t b stands tells isnt = elim (cases_eq (started_calls t) 65536) [
  | inl same ↦ absurd (false≢true (sym isnt ∙ tells.1 same))
  | inr other ↦ omega (arith, other, stands.few, stands.taken)
]

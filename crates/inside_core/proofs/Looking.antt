-- What is told of objects.
use Rattle.std.proofs.Common.{◌≡◌, ℕ, ◌+◌, ◌<◌, List, [], ◌∷◌, ◌++◌, length, take, get_or, ap, subst, refl, arith}
use Rattle.std.proofs.lemmas.List.Sums.{sum_by_more}
use Rattle.word_core.specs.Events.{Called}
use Rattle.std.specs.Prelude.{Bool, true, false, ◌==◌, Option, Some, None, cond, slice_get, if◌then◌else◌}
use Rattle.live_core.specs.Scene.{Scene}
use Rattle.client_core.specs.declared.client.OpenObject.{OpenObject}
use Rattle.client_core.specs.declared.clients.ClientPlaces.{ClientPlaces}
use Rattle.inside_core.specs.declared.numbers.SeenObject.{SeenObject}
use Rattle.inside_core.specs.declared.numbers.OperationTally.{OperationTally}
use Rattle.inside_core.specs.declared.tallies.CallEnds.{CallEnds}
use Rattle.inside_core.specs.declared.tallies.ObjectTally.{ObjectTally}
use Rattle.client_core.specs.Custody.{Custodies}
use Rattle.client_core.specs.ToldInside.{Crowd, is_asked, sits_in, sitting_from}
use Rattle.client_core.specs.State.{Peer, opened_in}
use Rattle.inside_core.proofs.Sitting.{sits_more}
use Rattle.inside_core.specs.Looks.{waiting_of, IsTally, AreTallies, ShowsAt, ShowsAll}

-- one call more is counted
pub waiting_more : (op k count one : ℕ) (calls : List Called) (c : Called) → k < length calls → c ≡ get_or calls k c → count ≡ waiting_of op (take k calls) →
    one ≡ cond (c.operation == op) 1 0 → count + one ≡ waiting_of op (take (k + 1) calls)
waiting_more op k count one calls c inside is was this =
    let f : Called → ℕ = λ x. cond (x.operation == op) 1 0 in
    let more = sum_by_more f calls k c inside in
    let here = ap f is in
    omega (arith, more, here, was, this)

pub length_more : {X : Type 0} (xs : List X) (x : X) → length (xs ++ x ∷ []) ≡ length xs + 1
length_more [] x = refl
length_more (y ∷ xs) x = omega (arith, length_more xs x)

length_both : {X : Type 0} (xs ys : List X) → length (xs ++ ys) ≡ length xs + length ys
length_both [] ys = omega arith
length_both (x ∷ xs) ys = omega (arith, length_both xs ys)

-- one operation more
pub tallies_more : (crowd : Crowd) (object : Scene) (ends : List CallEnds) (k n : ℕ) (ts : List OperationTally) (t : OperationTally) → n ≡ k + length ts → AreTallies crowd object ends k ts →
    IsTally crowd object ends n t → AreTallies crowd object ends k (ts ++ t ∷ [])
tallies_more crowd object ends k n [] t same all one =
    let is : n ≡ k = omega (arith, same) in
    (subst (λ m. IsTally crowd object ends m t) is one, tt)
tallies_more crowd object ends k n (s ∷ ts) t same all one =
    let is : n ≡ k + 1 + length ts = omega (arith, same) in
    (all.0, tallies_more crowd object ends (k + 1) n ts t is all.1 one)

-- one object more
pub seen_more : (objects : List Scene) (tallies : List ObjectTally) (clients : ClientPlaces) (custody : Custodies) (now k n : ℕ) (all : List SeenObject) (s : SeenObject) → n ≡ k + length all →
    ShowsAll objects tallies clients custody now k all → ShowsAt objects tallies clients custody now n s → ShowsAll objects tallies clients custody now k (all ++ s ∷ [])
seen_more objects tallies clients custody now k n [] s same shown one =
    let is : n ≡ k = omega (arith, same) in
    (subst (λ m. ShowsAt objects tallies clients custody now m s) is one, tt)
seen_more objects tallies clients custody now k n (x ∷ all) s same shown one =
    let is : n ≡ k + 1 + length all = omega (arith, same) in
    (shown.0, seen_more objects tallies clients custody now (k + 1) n all s is shown.1 one)

-- a connection counts as one, wherever it is
one_or_none : {X : Type 0} (b : Bool) (x y : X) → length (if b then x ∷ [] else []) ≡ length (if b then y ∷ [] else [])
one_or_none true x y = refl
one_or_none false x y = refl

alike : (at m n : ℕ) (opened : Option OpenObject) → length (sits_in at 0 m opened) ≡ length (sits_in at 0 n opened)
alike at m n None = refl
alike at m n (Some o) = one_or_none (is_asked at 0 o) (m, o) (n, o)

-- one connection more
pub sessions_more : (at k before one after : ℕ) (peers : List Peer) → k < length peers → before ≡ length (sitting_from 0 at 0 (take k peers)) →
    one ≡ length (sits_in at 0 0 (opened_in (slice_get peers k))) → after ≡ before + one → after ≡ length (sitting_from 0 at 0 (take (k + 1) peers))
sessions_more at k before one after peers inside was is sum =
    let more = ap length (sits_more at 0 peers k (sitting_from 0 at 0 (take k peers)) (sitting_from 0 at 0 (take k peers) ++ sits_in at 0 k (opened_in (slice_get peers k))) inside refl refl) in
    let both = length_both (sitting_from 0 at 0 (take k peers)) (sits_in at 0 k (opened_in (slice_get peers k))) in
    let here = alike at 0 k (opened_in (slice_get peers k)) in
    omega (arith, more, both, here, was, is, sum)

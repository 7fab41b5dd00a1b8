-- A call that joins those that wait.
use Rattle.std.proofs.Common.{◌≡◌, ◌≢◌, ℕ, List, ◌+◌, ◌<◌, ◌≤◌, [], ◌∷◌, arith, length-append}
use Rattle.decl_core.specs.ObjectMap.{object_of}
use Rattle.word_core.specs.Events.{Called, Happened, began, ended}
use Rattle.live_core.specs.Hall.{Hall, Told, Every, IsKept, IsWaiting, IsCallOf, AreNumbered}
use Rattle.live_core.specs.Steps.{joined}
use Rattle.live_core.proofs.Listing.{every_map, every_snoc, pairs_snoc}

numbered_more : (few many : ℕ) (past : List Happened) → few ≤ many → AreNumbered few past → AreNumbered many past
numbered_more few many [] less all = tt
numbered_more few many (began c ∷ past) less all = (all.0, omega (arith, less, all.1), numbered_more few many past less all.2)
numbered_more few many (ended c reply ∷ past) less all = numbered_more few many past less all

pub joined_kept : (h : Hall) (t : Told) (c : Called) → IsKept h t → IsCallOf (object_of h.object) c → c.number ≡ h.given + 1 → h.before + h.given < 65536 →
    Every (λ (d : Called). d.session ≢ c.session) h.waiting → IsKept (joined h c) t
joined_kept h t c kept of number few free = record {
  stands = kept.stands;
  quiet = kept.quiet;
  legal = kept.legal;
  contents = kept.contents;
  numbers = numbered_more h.given (h.given + 1) t.happened (omega arith) kept.numbers;
  kinds = kept.kinds;
  fresh = λ n more most. kept.fresh n (omega (arith, more)) most;
  waits = every_snoc (IsWaiting (joined h c) t) h.waiting c
      (every_map (IsWaiting h t) (IsWaiting (joined h c) t) (λ x w. record { of = w.of; number = (w.number.0, omega (arith, w.number.1)); fresh = w.fresh }) h.waiting kept.waits)
      (record { of = of; number = (omega (arith, number), omega (arith, number)); fresh = kept.fresh c.number (omega (arith, number)) (omega (arith, number, few)) });
  in_order = pairs_snoc (λ (x y : Called). x.number < y.number) h.waiting c kept.in_order
      (every_map (IsWaiting h t) (λ x. x.number < c.number) (λ x w. omega (arith, w.number.1, number)) h.waiting kept.waits);
  one_each = pairs_snoc (λ (x y : Called). x.session ≢ y.session) h.waiting c kept.one_each free;
  counted = omega (arith, kept.counted, length-append h.waiting (c ∷ []));
  few = omega (arith, few);
}

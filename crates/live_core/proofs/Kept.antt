-- What holds of a hand behind a call that ran.
use Rattle.std.proofs.Common.{◌≡◌, ◌≢◌, ℕ, ◌+◌, ◌<◌, List, [], ◌∷◌, ◌++◌, length, Some, refl, sym, ◌∙◌, ap, subst, arith, take, drop, map}
use Rattle.std.specs.Prelude.{slice_get, IfNone, Option, unwrap_or, ◌==◌, ◌&&◌, if◌then◌else◌}
use Rattle.path_tree.specs.Trace.{Call, Start, End, IsFresh, running_calls, without}
use Rattle.path_tree.specs.Satisfies.{MayStart}
use Rattle.path_count.specs.Stands.{StandsFor, started_calls}
use Rattle.path_count.proofs.Running.{same_test}
use Rattle.value_core.specs.Contents.{kind_of}
use Rattle.decl_core.specs.ObjectMap.{object_of}
use Rattle.apply_core.specs.declared.reply.Reply.{Reply}
use Rattle.apply_core.specs.History.{IsReplyOn, left_by, leads_to, IsLegal}
use Rattle.apply_core.proofs.Histories.{legal_by_one, leads_by_one}
use Rattle.word_core.specs.Events.{Called, call_of, history_of, body_at, end_of}
use Rattle.live_core.specs.declared.call.Ran.{Ran}
use Rattle.live_core.specs.Hall.{Hall, Told, trace, Every, EachPair, IsKept, IsWaiting, IsCallOf, Rests, AreNumbered}
use Rattle.live_core.specs.Bodies.{IsFirstAt, FailsForMemory}
use Rattle.live_core.specs.Settles.{with_ran}
use Rattle.live_core.specs.Steps.{RunsOne}
use Rattle.live_core.proofs.Listing.{every_map, every_both, every_without, every_at, every_get, pairs_without, length_without, cut_at}

-- each waiting call is of an operation of the object
pub known : (h : Hall) (t : Told) → IsKept h t → Every (λ c. c.operation < length (object_of h.object).operations) h.waiting
known h t kept = every_map (IsWaiting h t) (λ c. c.operation < length (object_of h.object).operations) (λ c w. w.of.known) h.waiting kept.waits

pub none_found : (h : Hall) (t : Told) (found : Option ℕ) → IsKept h t →
    (StandsFor h.counters (length (object_of h.object).operations) (object_of h.object).paths (trace t) → Every (λ c. c.operation < length (object_of h.object).operations) h.waiting →
    IfNone found (Every (λ c. MayStart (object_of h.object).paths c.operation (trace t) → ⊥) h.waiting)) → IfNone found (Rests (object_of h.object) h.waiting t)
none_found h t found kept none = none kept.stands (known h t kept)

-- those before a call that waits have smaller numbers, those behind it greater ones
others : (front behind : List Called) (c : Called) → EachPair (λ (c d : Called). c.number < d.number) (front ++ c ∷ behind) → Every (λ x. c.number ≢ x.number) (front ++ behind)
others [] behind c pairs = every_map (λ x. c.number < x.number) (λ x. c.number ≢ x.number) (λ x less same. omega (arith, less, same)) behind pairs.0
others (x ∷ front) behind c pairs =
    ((λ same. omega (arith, same, every_at (λ y. x.number < y.number) front behind c pairs.0)), others front behind c pairs.1)

some_same : {X : Type 0} {x y : X} → Some x ≡ Some y → x ≡ y
some_same {X} {x} {y} is = ap (λ o. unwrap_or o x) is

without_first : (c : Called) (calls : List Call) → without (call_of c) (call_of c ∷ calls) ≡ calls
without_first c calls =
    ap (λ b. if b && (c.operation == c.operation) then calls else call_of c ∷ without (call_of c) calls) (same_test c.number)
    ∙ ap (λ b. if b then calls else call_of c ∷ without (call_of c) calls) (same_test c.operation)

module _ (h new : Hall) (t : Told) (k : ℕ) (c : Called) (reply : Reply) where
  abbrev pub r : Ran
  r = record { call = c; reply = reply }

  pub ran_one : IsKept h t → IsFirstAt (object_of h.object).paths (trace t) h.waiting k →
      slice_get h.waiting k ≡ Some c →
      new.object ≡ h.object → new.given ≡ h.given → new.before ≡ h.before →
      new.waiting ≡ take k h.waiting ++ drop (k + 1) h.waiting →
      ((call : _) → call ≡ call_of c → StandsFor h.counters (length (object_of h.object).operations) (object_of h.object).paths (trace t) → c.operation < length (object_of h.object).operations →
      MayStart (object_of h.object).paths c.operation (trace t) → started_calls (trace t) < 65536 → IsFresh c.number (trace t) →
      StandsFor new.counters (length (object_of h.object).operations) (object_of h.object).paths (End call ∷ Start call ∷ trace t)) →
      IsReplyOn reply (body_at (object_of h.object) c.operation) c.arguments h.contents →
      new.contents ≡ left_by reply (body_at (object_of h.object) c.operation) c.arguments h.contents →
      map kind_of new.contents ≡ map kind_of h.contents → FailsForMemory reply → RunsOne h t r new
  ran_one kept first is object given before left stands replied leaves kinds fails =
      let o = object_of h.object in
      let one : object_of new.object ≡ o = ap object_of object in
      let front = take k h.waiting in
      let behind = drop (k + 1) h.waiting in
      let cut : h.waiting ≡ front ++ c ∷ behind = cut_at h.waiting k c is in
      let w : IsWaiting h t c = every_get (IsWaiting h t) h.waiting k c kept.waits is in
      let may : MayStart o.paths c.operation (trace t) = subst (λ x. MayStart o.paths x.operation (trace t)) (some_same (sym first.there ∙ is)) first.may in
      let more : length h.waiting ≡ length (front ++ behind) + 1 = ap length cut ∙ length_without front behind c in
      let few : started_calls (trace t) < 65536 = omega (arith, kept.counted, kept.few, more) in
      let stood = stands (call_of c) refl kept.stands w.of.known may few w.fresh in
      let end = end_of o c reply in
      let now = subst (λ parts. IsReplyOn reply end.body c.arguments parts) kept.contents replied in
      let pairs = subst (EachPair (λ (x y : Called). x.number < y.number)) cut kept.in_order in
      record {
        front = front;
        behind = behind;
        waited = cut;
        left = left;
        first = record { may = may; earlier = first.earlier };
        reply = now;
        fails = fails;
        kept = record {
          stands = subst (λ f. StandsFor new.counters (length f.operations) f.paths (End (call_of c) ∷ Start (call_of c) ∷ trace t)) (sym one) stood;
          quiet = without_first c (running_calls (trace t)) ∙ kept.quiet;
          legal = subst (λ f. IsLegal (history_of f (with_ran t r).happened) t.opening) (sym one)
              ((legal_by_one (history_of o t.happened) end t.opening).1 (kept.legal, now));
          contents = leaves ∙ ap (left_by reply end.body c.arguments) kept.contents ∙ sym (leads_by_one (history_of o t.happened) end t.opening)
              ∙ ap (λ f. leads_to (history_of f (with_ran t r).happened) t.opening) (sym one);
          numbers = subst (λ n. AreNumbered n (with_ran t r).happened) (sym given) (w.number.0, w.number.1, kept.numbers);
          kinds = kinds ∙ kept.kinds ∙ ap (λ f. map (λ p. p.1) f.parts) (sym one);
          fresh = λ n more_than most. ((λ same. omega (arith, w.number.1, given, more_than, same)), kept.fresh n (omega (arith, given, more_than)) most);
          waits = subst (Every (IsWaiting new (with_ran t r))) (sym left)
              (every_both (IsWaiting h t) (λ x. c.number ≢ x.number) (IsWaiting new (with_ran t r)) (λ x waits other. record {
                of = subst (λ f. IsCallOf f x) (sym one) waits.of;
                number = (waits.number.0, omega (arith, waits.number.1, given));
                fresh = (other, waits.fresh);
              }) (front ++ behind) (every_without (IsWaiting h t) front behind c (subst (Every (IsWaiting h t)) cut kept.waits)) (others front behind c pairs));
          in_order = subst (EachPair (λ (x y : Called). x.number < y.number)) (sym left) (pairs_without (λ (x y : Called). x.number < y.number) front behind c pairs);
          one_each = subst (EachPair (λ (x y : Called). x.session ≢ y.session)) (sym left)
              (pairs_without (λ (x y : Called). x.session ≢ y.session) front behind c (subst (EachPair (λ (x y : Called). x.session ≢ y.session)) cut kept.one_each));
          counted = omega (arith, kept.counted, more, ap length left, given, before);
          few = omega (arith, kept.few, given, before);
        };
      }

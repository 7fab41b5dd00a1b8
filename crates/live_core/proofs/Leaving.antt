-- A waiting call that is taken out.
use Rattle.std.proofs.Common.{◌≡◌, ◌≢◌, ◌<◌, List, ◌∷◌, ◌++◌, length, ap, subst, arith}
use Rattle.decl_core.specs.ObjectMap.{object_of}
use Rattle.word_core.specs.Events.{Called}
use Rattle.live_core.specs.Hall.{Hall, Told, Every, EachPair, IsKept, IsWaiting, Rests, MayBegin}
use Rattle.live_core.proofs.Listing.{every_map, every_without, pairs_without, length_without}

pub left_kept : (h : Hall) (t : Told) (front behind : List Called) (c : Called) → h.waiting ≡ front ++ c ∷ behind → IsKept h t → IsKept (record h { waiting = front ++ behind }) t
left_kept h t front behind c cut kept = record {
  stands = kept.stands;
  quiet = kept.quiet;
  legal = kept.legal;
  contents = kept.contents;
  numbers = kept.numbers;
  kinds = kept.kinds;
  fresh = kept.fresh;
  waits = every_map (IsWaiting h t) (IsWaiting (record h { waiting = front ++ behind }) t) (λ x w. record { of = w.of; number = w.number; fresh = w.fresh }) (front ++ behind)
      (every_without (IsWaiting h t) front behind c (subst (Every (IsWaiting h t)) cut kept.waits));
  in_order = pairs_without (λ (x y : Called). x.number < y.number) front behind c (subst (EachPair (λ (x y : Called). x.number < y.number)) cut kept.in_order);
  one_each = pairs_without (λ (x y : Called). x.session ≢ y.session) front behind c (subst (EachPair (λ (x y : Called). x.session ≢ y.session)) cut kept.one_each);
  counted = omega (arith, kept.counted, ap length cut, length_without front behind c);
  few = kept.few;
}

pub left_rests : (h : Hall) (t : Told) (front behind : List Called) (c : Called) → h.waiting ≡ front ++ c ∷ behind → Rests (object_of h.object) h.waiting t → Rests (object_of h.object) (front ++ behind) t
left_rests h t front behind c cut rests = every_without (λ x. MayBegin (object_of h.object) t x → ⊥) front behind c (subst (Every (λ x. MayBegin (object_of h.object) t x → ⊥)) cut rests)

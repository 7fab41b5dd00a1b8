-- Where a talk stands in a state.
use Rattle.std.proofs.Common.{◌≡◌, ◌≢◌, ◌⊎◌, inl, inr, ◌∙◌, ap, sym, subst, refl, ℕ, zero, suc, List, [], ◌∷◌, length}
use Rattle.std.specs.Prelude.{true, ◌%◌, Option, Some, None, slice_get, slice_set}
use Rattle.std.proofs.lemmas.Option.{same_Some}
use Rattle.decl_core.specs.ObjectMap.{object_of}
use Rattle.decl_core.specs.declared.object.Object.{Object}
use Rattle.word_core.specs.Events.{Called}
use Rattle.word_core.specs.Text.{operation_name}
use Rattle.live_core.specs.Scene.{Scene}
use Rattle.client_core.specs.declared.client.OpenObject.{OpenObject}
use Rattle.client_core.specs.State.{Peer, change, nobody, who_in}
use Rattle.history_law.specs.Awaits.{IsElementOf, Pool, waits_in}
use Rattle.history_law.proofs.Lists.{changed_was, change_at, same_or_not, set_at, set_other, set_was}
use Rattle.history_law.specs.TurnStands.{AreHeld, IsAt, IsWaiting, Stands, Wants}
use Rattle.history_law.specs.Talk.{Line, Talk, Wanted, IsWanted}
use Rattle.history_law.specs.Talk.Talk.{Away, Here}
use Rattle.history_law.proofs.OrderLists.{WantedMoves}

pub has_who : (x : Option Peer) (who : ℕ) → who_in x ≡ Some who → (p : Peer) × (x ≡ Some p) × (p.who ≡ Some who)
has_who None who is = absurd (none_some who is)
  where
    none_some : (who : ℕ) → None ≡ Some who → ⊥
    none_some who is = cc
has_who (Some p) who is = (p, refl, is)

pub change_size : (peers : List Peer) (place : ℕ) (f : Peer → Peer) → length (change peers place f) ≡ length peers
change_size [] place f = refl
change_size (p ∷ peers) zero f = refl
change_size (p ∷ peers) (suc place) f = ap suc (change_size peers place f)

pub change_other : (peers : List Peer) (place q : ℕ) (f : Peer → Peer) → place ≢ q → slice_get (change peers place f) q ≡ slice_get peers q
change_other [] place q f other = refl
change_other (p ∷ peers) zero zero f other = absurd (other refl)
change_other (p ∷ peers) zero (suc q) f other = refl
change_other (p ∷ peers) (suc place) zero f other = refl
change_other (p ∷ peers) (suc place) (suc q) f other = change_other peers place q f (λ e. other (ap suc e))

module _ (c n : ℕ) where
  -- one that is there is at its place
  pub mine_is : (objects : List Scene) (pool : Pool) (peers : List Peer) (t : Talk) (place : ℕ) → Stands c n objects pool peers t → who_in (slice_get peers place) ≡ Some c →
      (p : Peer) × (slice_get peers place ≡ Some p) × (p.who ≡ Some c) × (place ≡ c % n)
  mine_is objects pool peers t place s here = let p = has_who (slice_get peers place) c here in (p.0, p.1, p.2, s.only place p.0 p.1 p.2)

  -- another place changes, and who is there is not this one
  pub stands_other : (objects : List Scene) (pool : Pool) (peers : List Peer) (t : Talk) (place : ℕ) (f : Peer → Peer) → (who_in (slice_get peers place) ≡ Some c → ⊥) →
      ((p : Peer) → slice_get peers place ≡ Some p → (f p).who ≡ Some c → ⊥) → Stands c n objects pool peers t → Stands c n objects pool (change peers place f) t
  stands_other objects pool peers t place f other never s = record {
    size = change_size peers place f ∙ s.size;
    only = λ q p there who. from q p who (changed_was peers place f q p there);
    is_at = at t s.is_at;
  }
    where
      from : (q : ℕ) (p : Peer) → p.who ≡ Some c → ((q ≡ place) × ((was : Peer) × (slice_get peers q ≡ Some was) × (p ≡ f was))) ⊎ ((q ≢ place) × (slice_get peers q ≡ Some p)) → q ≡ c % n
      from q p who (inl (here, (was, there, is))) =
          absurd (never was (subst (λ m. slice_get peers m ≡ Some was) here there) (ap (λ (x : Peer). x.who) (sym is) ∙ who))
      from q p who (inr (apart, there)) = s.only q p there who

      at : (t : Talk) → IsAt c objects pool (slice_get peers (c % n)) t → IsAt c objects pool (slice_get (change peers place f) (c % n)) t
      at Away none = λ is.
          let p = has_who (slice_get (change peers place f) (c % n)) c is in
          elim (changed_was peers place f (c % n) p.0 p.1) [
            | inl x ↦ never x.1.0 (subst (λ m. slice_get peers m ≡ Some x.1.0) x.0 x.1.1) (ap (λ (y : Peer). y.who) (sym x.1.2) ∙ p.2)
            | inr x ↦ none (ap who_in x.1 ∙ p.2)
          ]
      at (Here waits held) (p, there, who, are, waiting) =
          (p, change_other peers place (c % n) f (λ e. other (ap (λ m. who_in (slice_get peers m)) e ∙ ap who_in there ∙ who)) ∙ there, who, are, waiting)

  -- its own place changes
  pub stands_mine : (objects : List Scene) (pool : Pool) (peers : List Peer) (t : Talk) (place : ℕ) (f : Peer → Peer) (p : Peer) (now_objects : List Scene) (now_pool : Pool) (waits : Option Wanted) (held : List Line) →
      slice_get peers place ≡ Some p → p.who ≡ Some c → (f p).who ≡ Some c → AreHeld (f p).is_cut (f p).held held → IsWaiting now_objects now_pool (f p).opened waits →
      Stands c n objects pool peers t → Stands c n now_objects now_pool (change peers place f) (Here waits held)
  stands_mine objects pool peers t place f p now_objects now_pool waits held there who now_who are waiting s = record {
    size = change_size peers place f ∙ s.size;
    only = λ q x at_q is. from q x is (changed_was peers place f q x at_q);
    is_at = (f p, subst (λ m. slice_get (change peers place f) m ≡ Some (f p)) here (change_at peers place f p there), now_who, are, waiting);
  }
    where
      here : place ≡ c % n
      here = s.only place p there who

      from : (q : ℕ) (x : Peer) → x.who ≡ Some c → ((q ≡ place) × ((was : Peer) × (slice_get peers q ≡ Some was) × (x ≡ f was))) ⊎ ((q ≢ place) × (slice_get peers q ≡ Some x)) → q ≡ c % n
      from q x is (inl y) = y.0 ∙ here
      from q x is (inr y) = s.only q x y.1 is

  -- it is gone from its place
  pub stands_gone : (objects : List Scene) (pool : Pool) (peers : List Peer) (t : Talk) (place : ℕ) → who_in (slice_get peers place) ≡ Some c →
      Stands c n objects pool peers t → Stands c n objects pool (change peers place (λ p. nobody)) Away
  stands_gone objects pool peers t place here s = record {
    size = change_size peers place (λ p. nobody) ∙ s.size;
    only = λ q x at_q is. from q x is (changed_was peers place (λ p. nobody) q x at_q);
    is_at = λ is.
        let p = has_who (slice_get (change peers place (λ x. nobody)) (c % n)) c is in
        let m = mine_is objects pool peers t place s here in
        gone (c % n) p.0 p.2 (sym m.3) (changed_was peers place (λ x. nobody) (c % n) p.0 p.1);
  }
    where
      none_some : None ≡ Some c → ⊥
      none_some is = cc

      from : (q : ℕ) (x : Peer) → x.who ≡ Some c → ((q ≡ place) × ((was : Peer) × (slice_get peers q ≡ Some was) × (x ≡ nobody))) ⊎ ((q ≢ place) × (slice_get peers q ≡ Some x)) → q ≡ c % n
      from q x is (inl y) = absurd (none_some (ap (λ (z : Peer). z.who) (sym y.1.2) ∙ is))
      from q x is (inr y) = s.only q x y.1 is

      gone : (q : ℕ) (x : Peer) → x.who ≡ Some c → q ≡ place → ((q ≡ place) × ((was : Peer) × (slice_get peers q ≡ Some was) × (x ≡ nobody))) ⊎ ((q ≢ place) × (slice_get peers q ≡ Some x)) → ⊥
      gone q x is same (inl y) = none_some (ap (λ (z : Peer). z.who) (sym y.1.2) ∙ is)
      gone q x is same (inr y) = y.0 same

  -- objects change, and what is wanted of them
  pub stands_map : (objects now : List Scene) (pool now_pool : Pool) (peers : List Peer) (t : Talk) →
      ((p : Peer) (o : OpenObject) (w : Wanted) → slice_get peers (c % n) ≡ Some p → p.opened ≡ Some o → o.waits ≡ true → Wants objects pool o w → Wants now now_pool o w) →
      Stands c n objects pool peers t → Stands c n now now_pool peers t
  stands_map objects now pool now_pool peers t f s = record { size = s.size; only = s.only; is_at = at t s.is_at }
    where
      waiting : (p : Peer) (waits : Option Wanted) → slice_get peers (c % n) ≡ Some p → IsWaiting objects pool p.opened waits → IsWaiting now now_pool p.opened waits
      waiting p None there is = is
      waiting p (Some w) there (o, by, waits, told, wants) = (o, by, waits, told, f p o w there by waits wants)

      at : (t : Talk) → IsAt c objects pool (slice_get peers (c % n)) t → IsAt c now now_pool (slice_get peers (c % n)) t
      at Away none = none
      at (Here waits held) (p, there, who, are, is) = (p, there, who, are, waiting p waits there is)

-- the same objects, however they went on
abbrev pub SameObjects : List Scene → List Scene → Type 0
SameObjects old new = (j : ℕ) (before : Scene) → slice_get old j ≡ Some before → (after : Scene) × (slice_get new j ≡ Some after) × (after.hall.object ≡ before.hall.object)

pub same_moves : (old new : List Scene) → SameObjects old new → WantedMoves old new
same_moves old new same at w call is =
    let s = same at is.scene is.there in
    record {
      scene = s.0;
      there = s.1;
      named = ap (λ (x : Object). operation_name (object_of x) call.operation) s.2 ∙ is.named;
      arguments_are = is.arguments_are;
    }

pub same_set : (objects : List Scene) (at : ℕ) (before after : Scene) → slice_get objects at ≡ Some before → after.hall.object ≡ before.hall.object → SameObjects objects (slice_set objects at after)
same_set objects at before after there object j scene here = by (same_or_not at j)
  where
    by : (at ≡ j) ⊎ (at ≢ j) → (now : Scene) × (slice_get (slice_set objects at after) j ≡ Some now) × (now.hall.object ≡ scene.hall.object)
    by (inl same) = (
      after,
      subst (λ m. slice_get (slice_set objects at after) m ≡ Some after) same (set_at objects at after before there),
      object ∙ ap (λ (s : Scene). s.hall.object) (same_Some before scene (sym there ∙ ap (slice_get objects) same ∙ here)),
    )
    by (inr other) = (scene, set_other objects at j after other ∙ here, refl)

-- a call that is wanted is the same by another number
pub wanted_same : (objects : List Scene) (at : ℕ) (w : Wanted) (a b : Called) → b.operation ≡ a.operation → b.arguments ≡ a.arguments → IsWanted objects at w a → IsWanted objects at w b
wanted_same objects at w a b operation arguments is = record {
  scene = is.scene;
  there = is.there;
  named = ap (λ m. operation_name (object_of is.scene.hall.object) m) operation ∙ is.named;
  arguments_are = arguments ∙ is.arguments_are;
}

-- fewer calls wait of one object
pub wants_set : (objects : List Scene) (at : ℕ) (before after : Scene) (o : OpenObject) (w : Wanted) → slice_get objects at ≡ Some before → after.hall.object ≡ before.hall.object →
    ((d : Called) → IsElementOf d after.hall.waiting → IsElementOf d before.hall.waiting) → Wants objects (waits_in objects) o w →
    Wants (slice_set objects at after) (waits_in (slice_set objects at after)) o w
wants_set objects at before after o w there object fewer wants call (scene, here, waits) session =
    same_moves objects (slice_set objects at after) (same_set objects at before after there object) o.object w call (wants call (by (set_was objects at o.object after scene before there here)) session)
  where
    by : ((at ≡ o.object) × (scene ≡ after)) ⊎ ((at ≢ o.object) × (slice_get objects o.object ≡ Some scene)) → waits_in objects o.object call
    by (inl (same, is)) = (before, ap (slice_get objects) (sym same) ∙ there, fewer call (subst (λ (s : Scene). IsElementOf call s.hall.waiting) is waits))
    by (inr (other, was)) = (scene, was, waits)

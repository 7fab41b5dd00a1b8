-- Places of connections, while objects and places go on.
use Rattle.std.proofs.Common.{◌≡◌, ◌≢◌, ◌⊎◌, inl, inr, ◌∙◌, ap, sym, subst, refl, ℕ, List, ◌++◌}
use Rattle.std.specs.Prelude.{true, Option, Some, slice_get, slice_set}
use Rattle.std.proofs.lemmas.Option.{same_Some}
use Rattle.decl_core.specs.declared.object.Object.{Object}
use Rattle.decl_core.specs.ObjectMap.{object_of}
use Rattle.word_core.specs.Events.{Called}
use Rattle.word_core.specs.Text.{operation_name}
use Rattle.session_text.specs.Lines.{accepted_text}
use Rattle.live_core.specs.Hall.{Told, IsHeld}
use Rattle.live_core.specs.Scene.{Scene, told_of}
use Rattle.client_core.specs.declared.ask.Ask.TheVariants as asks
use Rattle.client_core.specs.declared.client.OpenObject.{OpenObject}
use Rattle.client_core.specs.Asks.{Asks}
use Rattle.client_core.specs.Deeds.{Texts}
use Rattle.client_core.specs.State.{Peer, change, opened_in}
use Rattle.history_law.specs.Awaits.{IsElementOf, Lines, HasOpened, HasAsked, Pool, waits_in, IsOpenedBy, IsAwaited, IsSeated, AllSeated, AreAlone, AllHeld, Awaits}
use Rattle.history_law.proofs.Lists.{in_front, same_or_not, set_at, set_other, set_was, changed_was, has_peer}

-- a call is the same, by another number
pub record IsSameCall (old new : Scene) (c d : Called) : Type 0 where
  pub session : d.session ≡ c.session
  pub operation : d.operation ≡ c.operation
  pub arguments : d.arguments ≡ c.arguments
  pub told : told_of new d.number ≡ told_of old c.number

-- each object is there, and each call of it that was there
pub record Stays (old new : List Scene) (was is : Pool) (j : ℕ) (before : Scene) : Type 0 where
  pub after : Scene
  pub there : slice_get new j ≡ Some after
  pub object : after.hall.object ≡ before.hall.object
  pub calls : (c : Called) → was j c → (d : Called) × is j d × IsSameCall before after c d

abbrev pub AllStay : List Scene → List Scene → Pool → Pool → Type 0
AllStay old new was is = (j : ℕ) (before : Scene) → slice_get old j ≡ Some before → Stays old new was is j before

module _ (heard : Lines) where
  asked_same : (here : ℕ) (a b : Object) (c d : Called) → b ≡ a → d.operation ≡ c.operation → d.arguments ≡ c.arguments → HasAsked heard here a c → HasAsked heard here b d
  asked_same here a b c d same operation arguments is = record {
    opened = subst (λ (x : Object). HasOpened heard here x) (sym same) is.opened;
    line = is.line;
    is_heard = is.is_heard;
    key = is.key;
    arguments = is.arguments;
    asks_so = subst (λ (x : Object). Asks true true is.line (asks.Call is.key (operation_name (object_of x) d.operation) is.arguments)) (sym same)
        (subst (λ n. Asks true true is.line (asks.Call is.key (operation_name (object_of a) n) is.arguments)) (sym operation) is.asks_so);
    arguments_are = arguments ∙ is.arguments_are;
  }

  pub opened_stays : (old new : List Scene) (was is : Pool) (who : Option ℕ) (o : OpenObject) → AllStay old new was is → IsOpenedBy heard old who o → IsOpenedBy heard new who o
  opened_stays old new was is who o stay by =
      let s = stay o.object by.object by.there in
      record { here = by.here; who_is = by.who_is; object = s.after; there = s.there; asked = subst (λ (x : Object). HasOpened heard by.here x) (sym s.object) by.asked }

  pub awaited_stays : (past : Texts) (old new : List Scene) (was is : Pool) (who : Option ℕ) (o : OpenObject) → AllStay old new was is → IsAwaited heard past old was who o → IsAwaited heard past new is who o
  awaited_stays past old new was is who o stay a =
      let s = stay o.object a.object a.there in
      let c = s.calls a.call a.is_there in
      record {
        here = a.here;
        who_is = a.who_is;
        object = s.after;
        there = s.there;
        call = c.0;
        is_there = c.1;
        session_is = c.2.session ∙ a.session_is;
        told_is = c.2.told ∙ a.told_is;
        asked = asked_same a.here a.object.hall.object s.after.hall.object a.call c.0 s.object c.2.operation c.2.arguments a.asked;
        accepted = a.accepted;
      }

  pub seated_stays : (past : Texts) (old new : List Scene) (was is : Pool) (p : Peer) → AllStay old new was is → IsSeated heard past old was p → IsSeated heard past new is p
  seated_stays past old new was is p stay s = record {
    held = s.held;
    opened = λ o by. opened_stays old new was is p.who o stay (s.opened o by);
    waits = λ o by waits. awaited_stays past old new was is p.who o stay (s.waits o by waits);
  }

  pub all_stay : (past : Texts) (old new : List Scene) (was is : Pool) (peers : List Peer) → AllStay old new was is → AllSeated heard past old was peers → AllSeated heard past new is peers
  all_stay past old new was is peers stay all place p there = seated_stays past old new was is p stay (all place p there)

  -- more was told
  seated_past : (past more : Texts) (objects : List Scene) (pool : Pool) (p : Peer) → IsSeated heard past objects pool p → IsSeated heard (past ++ more) objects pool p
  seated_past past more objects pool p s = record {
    held = s.held;
    opened = s.opened;
    waits = λ o by waits.
        let a = s.waits o by waits in
        record {
          here = a.here;
          who_is = a.who_is;
          object = a.object;
          there = a.there;
          call = a.call;
          is_there = a.is_there;
          session_is = a.session_is;
          told_is = a.told_is;
          asked = a.asked;
          accepted = in_front (a.here, accepted_text o.told) past more a.accepted;
        };
  }

  pub all_past : (past more : Texts) (objects : List Scene) (pool : Pool) (peers : List Peer) → AllSeated heard past objects pool peers → AllSeated heard (past ++ more) objects pool peers
  all_past past more objects pool peers all place p there = seated_past past more objects pool p (all place p there)

  pub awaits_past : (past more : Texts) (objects : List Scene) (peers : List Peer) → Awaits heard past objects peers → Awaits heard (past ++ more) objects peers
  awaits_past past more objects peers a = record {
    held = a.held;
    alone = a.alone;
    seated = all_past past more objects (waits_in objects) peers a.seated;
  }

  -- one place changes
  pub all_changed : (past : Texts) (objects : List Scene) (pool : Pool) (peers : List Peer) (place : ℕ) (f : Peer → Peer) → AllSeated heard past objects pool peers →
      ((p : Peer) → slice_get peers place ≡ Some p → IsSeated heard past objects pool (f p)) → AllSeated heard past objects pool (change peers place f)
  all_changed past objects pool peers place f all one q p there = by (changed_was peers place f q p there)
    where
      by : ((q ≡ place) × ((was : Peer) × (slice_get peers q ≡ Some was) × (p ≡ f was))) ⊎ ((q ≢ place) × (slice_get peers q ≡ Some p)) → IsSeated heard past objects pool p
      by (inl (here, (was, there_was, is))) =
          subst (λ (x : Peer). IsSeated heard past objects pool x) (sym is) (one was (subst (λ n. slice_get peers n ≡ Some was) here there_was))
      by (inr (other, same)) = all q p same

-- one that waits waited before by the same session
abbrev pub WaitsLess : Peer → Peer → Type 0
WaitsLess p q = (o : OpenObject) → q.opened ≡ Some o → o.waits ≡ true →
    (u : OpenObject) × (p.opened ≡ Some u) × (u.waits ≡ true) × (u.object ≡ o.object) × (u.session ≡ o.session)

-- a place at which one has opened something
has_changed : (peers : List Peer) (place : ℕ) (f : Peer → Peer) (q : ℕ) (o : OpenObject) → ((p : Peer) → slice_get peers place ≡ Some p → WaitsLess p (f p)) →
    opened_in (slice_get (change peers place f) q) ≡ Some o → o.waits ≡ true →
    (u : OpenObject) × (opened_in (slice_get peers q) ≡ Some u) × (u.waits ≡ true) × (u.object ≡ o.object) × (u.session ≡ o.session)
has_changed peers place f q o less by waits = on (changed_was peers place f q now.0 now.1)
  where
    now : (p : Peer) × (slice_get (change peers place f) q ≡ Some p) × (p.opened ≡ Some o)
    now = has_peer (slice_get (change peers place f) q) o by

    on : ((q ≡ place) × ((was : Peer) × (slice_get peers q ≡ Some was) × (now.0 ≡ f was))) ⊎ ((q ≢ place) × (slice_get peers q ≡ Some now.0)) →
        (u : OpenObject) × (opened_in (slice_get peers q) ≡ Some u) × (u.waits ≡ true) × (u.object ≡ o.object) × (u.session ≡ o.session)
    on (inl (here, (was, there, is))) =
        let u = less was (subst (λ n. slice_get peers n ≡ Some was) here there) o (ap (λ (p : Peer). p.opened) (sym is) ∙ now.2) waits in
        (u.0, ap opened_in there ∙ u.1, u.2, u.3, u.4)
    on (inr (other, same)) = (o, ap opened_in same ∙ now.2, waits, refl, refl)

pub alone_changed : (peers : List Peer) (place : ℕ) (f : Peer → Peer) → AreAlone peers → ((p : Peer) → slice_get peers place ≡ Some p → WaitsLess p (f p)) → AreAlone (change peers place f)
alone_changed peers place f alone less q r o u by also waits waits_too object session =
    let a = has_changed peers place f q o less by waits in
    let b = has_changed peers place f r u less also waits_too in
    alone q r a.0 b.0 a.1 b.1 a.2 b.2 (a.3 ∙ object ∙ sym b.3) (a.4 ∙ session ∙ sym b.4)

-- something stands behind each object still
pub held_set : (objects : List Scene) (at : ℕ) (before after : Scene) → slice_get objects at ≡ Some before → AllHeld objects → ((t : Told) × IsHeld after.hall t) → AllHeld (slice_set objects at after)
held_set objects at before after there all is j object here = by (set_was objects at j after object before there here)
  where
    by : ((at ≡ j) × (object ≡ after)) ⊎ ((at ≢ j) × (slice_get objects j ≡ Some object)) → (t : Told) × IsHeld object.hall t
    by (inl (same, now)) = subst (λ (x : Scene). (t : Told) × IsHeld x.hall t) (sym now) is
    by (inr (other, was)) = all j object was

-- one object goes on
pub stay_set : (objects : List Scene) (at : ℕ) (before after : Scene) (pool : Pool) → slice_get objects at ≡ Some before → after.hall.object ≡ before.hall.object →
    ((c : Called) → IsElementOf c before.hall.waiting → (d : Called) × pool at d × IsSameCall before after c d) →
    ((j : ℕ) (c : Called) → at ≢ j → waits_in objects j c → pool j c) → AllStay objects (slice_set objects at after) (waits_in objects) pool
stay_set objects at before after pool there object calls others j scene here = by (same_or_not at j)
  where
    by : (at ≡ j) ⊎ (at ≢ j) → Stays objects (slice_set objects at after) (waits_in objects) pool j scene
    by (inl same) =
        let is : scene ≡ before = same_Some scene before (sym here ∙ ap (slice_get objects) (sym same) ∙ there) in
        record {
          after = after;
          there = subst (λ n. slice_get (slice_set objects at after) n ≡ Some after) same (set_at objects at after before there);
          object = object ∙ ap (λ (s : Scene). s.hall.object) (sym is);
          calls = λ c (now, now_there, waits).
              let now_is : now ≡ before = same_Some now before (sym now_there ∙ ap (slice_get objects) (sym same) ∙ there) in
              let d = calls c (subst (λ (s : Scene). IsElementOf c s.hall.waiting) now_is waits) in
              (d.0, subst (λ n. pool n d.0) same d.1, subst (λ (s : Scene). IsSameCall s after c d.0) (sym is) d.2);
        }
    by (inr other) = record {
      after = scene;
      there = set_other objects at j after other ∙ here;
      object = refl;
      calls = λ c waits. (c, others j c other waits, record { session = refl; operation = refl; arguments = refl; told = refl });
    }

-- those that wait of the others wait still
pub waits_others : (objects : List Scene) (at : ℕ) (after : Scene) (j : ℕ) (c : Called) → at ≢ j → waits_in objects j c → waits_in (slice_set objects at after) j c
waits_others objects at after j c other (object, there, waits) = (object, set_other objects at j after other ∙ there, waits)

pub waits_here : (objects : List Scene) (at : ℕ) (before after : Scene) (c : Called) → slice_get objects at ≡ Some before → IsElementOf c after.hall.waiting → waits_in (slice_set objects at after) at c
waits_here objects at before after c there waits = (after, set_at objects at after before there, waits)

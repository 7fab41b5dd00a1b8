-- Who has opened what, while objects and places go on.
use Rattle.std.proofs.Common.{◌≡◌, ◌≢◌, ◌⊎◌, inl, inr, ◌∙◌, ap, sym, subst, refl, ℕ, zero, suc, List, [], ◌∷◌}
use Rattle.std.specs.Prelude.{IfSome, Option, true, false, Some, None, slice_get, slice_set}
use Rattle.std.proofs.lemmas.Option.{same_Some}
use Rattle.word_core.specs.Events.{Called}
use Rattle.live_core.specs.declared.call.Ran.{Ran}
use Rattle.guest_core.specs.declared.seats.SeatHolder.TheVariants.{Nameless}
use Rattle.guest_core.specs.Guests.{Guests}
use Rattle.live_core.specs.Scene.{Scene, with_guests, told_of}
use Rattle.session_text.specs.Lines.{ended_text}
use Rattle.client_core.specs.declared.client.OpenObject.{OpenObject}
use Rattle.client_core.specs.Asked.{AllEnd, Ends}
use Rattle.client_core.specs.Deeds.{Texts}
use Rattle.client_core.specs.State.{Peer, State, change, changed, opened_in, opening, waiting, who_in}
use Rattle.history_law.specs.Awaits.{IsElementOf}
use Rattle.history_law.proofs.Ends.{with_waits_some}
use Rattle.history_law.proofs.Lists.{calls_of, changed_was, every_in, has_peer, set_was}
use Rattle.history_law.specs.Asked.{Claims, ClientHas, HasAskedFor, IsAskedOf, IsHere, IsKnown}
use Rattle.history_law.specs.Turns.{AllAsked, OpenedAs}
use Rattle.history_law.proofs.Clients.{has_taken}
use Rattle.history_law.proofs.Coming.{HasCome, HasLeft}
use Rattle.history_law.proofs.Known.{all_in}

none_some : (o : OpenObject) → None ≡ Some o → ⊥
none_some o is = cc

-- no call of a session of the object at a place waits
abbrev pub NoneAt : List Scene → ℕ → ℕ → Type 0
NoneAt objects at session = (s : Scene) (c : Called) → slice_get objects at ≡ Some s → IsElementOf c s.hall.waiting → c.session ≢ session

-- one opens something
opening_was : (peers : List Peer) (place : ℕ) (now : OpenObject) (q : ℕ) (o : OpenObject) → opened_in (slice_get (change peers place (opening now)) q) ≡ Some o →
    ((q ≡ place) × (o ≡ now)) ⊎ ((q ≢ place) × (opened_in (slice_get peers q) ≡ Some o))
opening_was peers place now q o by = on (changed_was peers place (opening now) q p.0 p.1)
  where
    p : (p : Peer) × (slice_get (change peers place (opening now)) q ≡ Some p) × (p.opened ≡ Some o)
    p = has_peer (slice_get (change peers place (opening now)) q) o by

    on : ((q ≡ place) × ((was : Peer) × (slice_get peers q ≡ Some was) × (p.0 ≡ opening now was))) ⊎ ((q ≢ place) × (slice_get peers q ≡ Some p.0)) →
        ((q ≡ place) × (o ≡ now)) ⊎ ((q ≢ place) × (opened_in (slice_get peers q) ≡ Some o))
    on (inl (here, (was, there, is))) = inl (here, same_Some o now (sym p.2 ∙ ap (λ (x : Peer). x.opened) is))
    on (inr (other, same)) = inr (other, ap opened_in same ∙ p.2)

who_same : (peers : List Peer) (place : ℕ) (now : OpenObject) (q : ℕ) → who_in (slice_get (change peers place (opening now)) q) ≡ who_in (slice_get peers q)
who_same [] place now q = refl
who_same (p ∷ peers) zero now zero = refl
who_same (p ∷ peers) zero now (suc q) = refl
who_same (p ∷ peers) (suc place) now zero = refl
who_same (p ∷ peers) (suc place) now (suc q) = who_same peers place now q

pub ends_objects : (at session number : ℕ) (text : List ℕ) (old new : State) (said added : Texts) → Ends at session number text old said added new → new.objects ≡ old.objects
ends_objects at session number text old new said added (inl (place, e)) = ap (λ (s : State). s.objects) e.left
ends_objects at session number text old new said added (inr (nobody, n)) = ap (λ (s : State). s.objects) n.left

module _ (claims : Claims) where
  pub same_asked : (old new : State) → new.objects ≡ old.objects → new.peers ≡ old.peers → AllAsked claims old.objects old.peers → AllAsked claims new.objects new.peers
  same_asked old new objects peers a =
      subst (λ (l : List Scene). AllAsked claims l new.peers) (sym objects) (subst (λ (p : List Peer). AllAsked claims old.objects p) (sym peers) a)

  -- one object goes on
  pub scene_asked : (objects : List Scene) (peers : List Peer) (at : ℕ) (s now : Scene) → slice_get objects at ≡ Some s → IsAskedOf (claims.called at) now →
      ((Is : List ℕ → Type 0) (place : ℕ) (o : OpenObject) → opened_in (slice_get peers place) ≡ Some o → o.object ≡ at → o.session ≢ 0 → ClientHas (IsHere Is) s.guests o.session → ClientHas (IsHere Is) now.guests o.session) →
      ((place : ℕ) (o : OpenObject) (c : Called) → opened_in (slice_get peers place) ≡ Some o → o.object ≡ at → IsElementOf c now.hall.waiting → c.session ≡ o.session → slice_get now.guests.seats o.session ≡ Some Nameless →
      o.waits ≡ true) → AllAsked claims objects peers → AllAsked claims (slice_set objects at now) peers
  scene_asked objects peers at s now there is here waits a = record {
    asked = λ j x at_j. elim (set_was objects at j now x s there at_j) [
      | inl own ↦ subst (λ n. IsAskedOf (claims.called n) x) own.0 (subst (IsAskedOf (claims.called at)) (sym own.1) is)
      | inr other ↦ a.asked j x other.1
    ];
    here = λ place o x by some at_o. elim (set_was objects at o.object now x s there at_o) [
      | inl own ↦ subst (λ (y : Scene). ClientHas (IsHere (OpenedAs claims (who_in (slice_get peers place)) o)) y.guests o.session) (sym own.1)
          (here (OpenedAs claims (who_in (slice_get peers place)) o) place o by (sym own.0) some (a.here place o s by some (ap (slice_get objects) (sym own.0) ∙ there)))
      | inr other ↦ a.here place o x by some other.1
    ];
    alone = a.alone;
    waits = λ place o x c by at_o wait same nameless. elim (set_was objects at o.object now x s there at_o) [
      | inl own ↦ waits place o c by (sym own.0) (subst (λ (y : Scene). IsElementOf c y.hall.waiting) own.1 wait) same (subst (λ (y : Scene). slice_get y.guests.seats o.session ≡ Some Nameless) own.1 nameless)
      | inr other ↦ a.waits place o x c by other.1 wait same nameless
    ];
  }

  -- what is opened at a place was opened there before, and waits as it did, or none waits any more
  pub record IsLess (objects : List Scene) (old : List Peer) (q : ℕ) (who : Option ℕ) (o : OpenObject) : Type 0 where
    pub was : OpenObject
    pub by : opened_in (slice_get old q) ≡ Some was
    pub who_is : who_in (slice_get old q) ≡ who
    pub object : was.object ≡ o.object
    pub named : was.is_named ≡ o.is_named
    pub session : was.session ≡ o.session
    pub waits : was.waits ≡ true → (o.waits ≡ true) ⊎ NoneAt objects o.object o.session

  -- the same is known of one that has opened the same
  here_as : (was now : Option ℕ) (o u : OpenObject) (v : Guests) → was ≡ now → o.object ≡ u.object → o.is_named ≡ u.is_named → o.session ≡ u.session → ClientHas (IsHere (OpenedAs claims was o)) v o.session →
      ClientHas (IsHere (OpenedAs claims now u)) v u.session
  here_as was now o u v who object is_named session (inl is) = inl (ap (slice_get v.seats) (sym session) ∙ is)
  here_as was now o u v who object is_named session (inr (p, g, is, (here, (named, knows)))) = inr (
    p,
    g,
    record { seat = ap (slice_get v.seats) (sym session) ∙ is.seat; there = is.there },
    (here, (sym is_named ∙ named, subst (λ (w : Option ℕ). claims.named w u.object g.name) who (subst (λ n. claims.named was n g.name) object knows))),
  )

  pub peers_asked : (objects : List Scene) (old new : List Peer) → ((q : ℕ) (o : OpenObject) → opened_in (slice_get new q) ≡ Some o → IsLess objects old q (who_in (slice_get new q)) o) → AllAsked claims objects old → AllAsked claims objects new
  peers_asked objects old new less a = record {
    asked = a.asked;
    here = λ q o s by some at.
        let l = less q o by in
        here_as (who_in (slice_get old q)) (who_in (slice_get new q)) l.was o s.guests l.who_is l.object l.named l.session
        (a.here q l.was s l.by (λ none. some (sym l.session ∙ none)) (ap (slice_get objects) l.object ∙ at));
    alone = λ q r o u by also some object session.
        let l = less q o by in
        let m = less r u also in
        a.alone q r l.was m.was l.by m.by (λ none. some (sym l.session ∙ none)) (l.object ∙ object ∙ sym m.object) (l.session ∙ session ∙ sym m.session);
    waits = λ q o s c by at wait same nameless.
        let l = less q o by in
        elim (l.waits (a.waits q l.was s c l.by (ap (slice_get objects) l.object ∙ at) wait (same ∙ sym l.session) (ap (slice_get s.guests.seats) l.session ∙ nameless))) [
          | inl is ↦ is
          | inr none ↦ absurd (none s c at wait same)
        ];
  }

  -- one place changes
  pub less_change : (objects : List Scene) (peers : List Peer) (place : ℕ) (f : Peer → Peer) → ((p : Peer) (o : OpenObject) → slice_get peers place ≡ Some p → (f p).opened ≡ Some o → IsLess objects peers place (f p).who o) →
      (q : ℕ) (o : OpenObject) → opened_in (slice_get (change peers place f) q) ≡ Some o → IsLess objects peers q (who_in (slice_get (change peers place f) q)) o
  less_change objects peers place f less q o by = on (changed_was peers place f q now.0 now.1)
    where
      now : (p : Peer) × (slice_get (change peers place f) q ≡ Some p) × (p.opened ≡ Some o)
      now = has_peer (slice_get (change peers place f) q) o by

      on : ((q ≡ place) × ((was : Peer) × (slice_get peers q ≡ Some was) × (now.0 ≡ f was))) ⊎ ((q ≢ place) × (slice_get peers q ≡ Some now.0)) →
          IsLess objects peers q (who_in (slice_get (change peers place f) q)) o
      on (inl (here, (was, there, is))) =
          subst (λ (w : Option ℕ). IsLess objects peers q w o) (sym (ap who_in now.1 ∙ ap (λ (p : Peer). p.who) is))
          (subst (λ n. IsLess objects peers n (f was).who o) (sym here) (less was o (subst (λ n. slice_get peers n ≡ Some was) here there) (ap (λ (p : Peer). p.opened) (sym is) ∙ now.2)))
      on (inr (other, same)) =
          record { was = o; by = ap opened_in same ∙ now.2; who_is = ap who_in same ∙ sym (ap who_in now.1); object = refl; named = refl; session = refl; waits = λ is. inl is }

  -- a place where nothing is opened
  pub clears : (objects : List Scene) (peers : List Peer) (place : ℕ) (f : Peer → Peer) → ((p : Peer) → (f p).opened ≡ None) → AllAsked claims objects peers → AllAsked claims objects (change peers place f)
  clears objects peers place f none a =
      peers_asked objects peers (change peers place f) (less_change objects peers place f (λ p o there is. absurd (none_some o (sym (none p) ∙ is)))) a

  -- a place where what is opened stays
  pub keeps_opened : (objects : List Scene) (peers : List Peer) (place : ℕ) (f : Peer → Peer) → ((p : Peer) → ((f p).who ≡ p.who) × ((f p).opened ≡ p.opened)) → AllAsked claims objects peers → AllAsked claims objects (change peers place f)
  keeps_opened objects peers place f same a =
      peers_asked objects peers (change peers place f)
      (less_change objects peers place f (λ p o there is.
      record { was = o; by = ap opened_in there ∙ sym (same p).1 ∙ is; who_is = ap who_in there ∙ sym (same p).0; object = refl; named = refl; session = refl; waits = λ w. inl w })) a

  pub opens_asked : (objects : List Scene) (peers : List Peer) (place : ℕ) (now : OpenObject) (s : Scene) → slice_get objects now.object ≡ Some s →
      (now.session ≢ 0 → ClientHas (IsHere (OpenedAs claims (who_in (slice_get peers place)) now)) s.guests now.session) →
      ((q : ℕ) (u : OpenObject) → opened_in (slice_get peers q) ≡ Some u → now.session ≢ 0 → u.object ≡ now.object → u.session ≡ now.session → q ≡ place) →
      ((c : Called) → IsElementOf c s.hall.waiting → c.session ≡ now.session → slice_get s.guests.seats now.session ≡ Some Nameless → now.waits ≡ true) → AllAsked claims objects peers →
      AllAsked claims objects (change peers place (opening now))
  opens_asked objects peers place now s there here alone waits a = record {
    asked = a.asked;
    here = λ q o x by some at. elim (opening_was peers place now q o by) [
      | inl own ↦
          let x_is : x ≡ s = same_Some x s (sym at ∙ ap (λ (y : OpenObject). slice_get objects y.object) own.1 ∙ there) in
          subst (λ (y : Scene). ClientHas (IsHere (OpenedAs claims (who_in (slice_get (change peers place (opening now)) q)) o)) y.guests o.session) (sym x_is)
          (here_as (who_in (slice_get peers place)) (who_in (slice_get (change peers place (opening now)) q)) now o s.guests
          (ap (λ n. who_in (slice_get peers n)) (sym own.0) ∙ sym (who_same peers place now q)) (ap (λ (y : OpenObject). y.object) (sym own.1)) (ap (λ (y : OpenObject). y.is_named) (sym own.1))
          (ap (λ (y : OpenObject). y.session) (sym own.1)) (here (λ none. some (ap (λ (y : OpenObject). y.session) own.1 ∙ none))))
      | inr other ↦
          here_as (who_in (slice_get peers q)) (who_in (slice_get (change peers place (opening now)) q)) o o x.guests (sym (who_same peers place now q)) refl refl refl (a.here q o x other.1 some at)
    ];
    alone = λ q r o u by also some object session. elim (opening_was peers place now q o by) [
      | inl own ↦ elim (opening_was peers place now r u also) [
        | inl both ↦ own.0 ∙ sym both.0
        | inr other ↦ own.0 ∙ sym (alone r u other.1 (λ none. some (ap (λ (y : OpenObject). y.session) own.1 ∙ none)) (sym object ∙ ap (λ (y : OpenObject). y.object) own.1)
            (sym session ∙ ap (λ (y : OpenObject). y.session) own.1))
      ]
      | inr first ↦ elim (opening_was peers place now r u also) [
        | inl own ↦ alone q o first.1 (λ none. some (session ∙ ap (λ (y : OpenObject). y.session) own.1 ∙ none)) (object ∙ ap (λ (y : OpenObject). y.object) own.1)
            (session ∙ ap (λ (y : OpenObject). y.session) own.1) ∙ sym own.0
        | inr other ↦ a.alone q r o u first.1 other.1 some object session
      ]
    ];
    waits = λ q o x c by at wait same nameless. elim (opening_was peers place now q o by) [
      | inl own ↦
          let x_is : x ≡ s = same_Some x s (sym at ∙ ap (λ (y : OpenObject). slice_get objects y.object) own.1 ∙ there) in
          ap (λ (y : OpenObject). y.waits) own.1
          ∙ waits c (subst (λ (y : Scene). IsElementOf c y.hall.waiting) x_is wait) (same ∙ ap (λ (y : OpenObject). y.session) own.1)
          (subst (λ (y : OpenObject). slice_get s.guests.seats y.session ≡ Some Nameless) own.1 (subst (λ (y : Scene). slice_get y.guests.seats o.session ≡ Some Nameless) x_is nameless))
      | inr other ↦ a.waits q o x c other.1 at wait same nameless
    ];
  }

  -- somebody gets a session who had none
  pub come_asked : (objects : List Scene) (peers : List Peer) (at : ℕ) (s : Scene) (guests : Guests) (session : ℕ) (name : Option (List ℕ)) → slice_get objects at ≡ Some s →
      HasCome (claims.called at) s.guests guests session name → AllAsked claims objects peers →
      AllAsked claims (slice_set objects at (with_guests s guests)) peers
  come_asked objects peers at s guests session name there come a =
      let was = a.asked at s there in
      scene_asked objects peers at s (with_guests s guests) there (record {
        seated = come.seated;
        held = was.held;
        waits = all_in (IsKnown (claims.called at) guests) s.hall.waiting (λ c is. come.known c (every_in (IsKnown (claims.called at) s.guests) s.hall.waiting c was.waits is));
      }) (λ Is place o by at_o some has. come.here Is o.session has)
      (λ place o c by at_o wait same nameless. elim (come.back o.session nameless) [
        | inl before ↦ a.waits place o s c by (ap (slice_get objects) at_o ∙ there) wait same before
        | inr free ↦ absurd (has_taken (HasAskedFor (claims.called at) c) s.guests c.session (every_in (IsKnown (claims.called at) s.guests) s.hall.waiting c was.waits wait) (ap (slice_get s.guests.seats) same ∙ free))
      ]) a

  pub joins_asked : (objects : List Scene) (peers : List Peer) (place at : ℕ) (s : Scene) (guests : Guests) (session : ℕ) (name : Option (List ℕ)) (now : OpenObject) → slice_get objects at ≡ Some s → slice_get (slice_set objects at (with_guests s guests)) at ≡ Some (with_guests s guests) →
      now.object ≡ at → now.session ≡ session → HasCome (claims.called at) s.guests guests session name →
      IfSome name (OpenedAs claims (who_in (slice_get peers place)) now) → AllAsked claims objects peers → AllAsked claims (slice_set objects at (with_guests s guests)) (change peers place (opening now))
  joins_asked objects peers place at s guests session name now there set object is come as_name a =
      let was = a.asked at s there in
      opens_asked (slice_set objects at (with_guests s guests)) peers place now (with_guests s guests) (ap (slice_get (slice_set objects at (with_guests s guests))) object ∙ set)
      (λ some. subst (λ n. ClientHas (IsHere (OpenedAs claims (who_in (slice_get peers place)) now)) guests n) (sym is) (come.own (OpenedAs claims (who_in (slice_get peers place)) now) as_name))
      (λ q u by some same session_is. absurd (come.fresh (OpenedAs claims (who_in (slice_get peers q)) u)
      (subst (λ n. ClientHas (IsHere (OpenedAs claims (who_in (slice_get peers q)) u)) s.guests n) (session_is ∙ is)
      (a.here q u s by (λ none. some (sym session_is ∙ none)) (ap (slice_get objects) (same ∙ object) ∙ there)))))
      (λ c wait same nameless. elim (come.back now.session nameless) [
        | inl before ↦ absurd (come.fresh (λ n. Unit {0}) (inl (ap (slice_get s.guests.seats) (sym is) ∙ before)))
        | inr free ↦ absurd (has_taken (HasAskedFor (claims.called at) c) s.guests c.session (every_in (IsKnown (claims.called at) s.guests) s.hall.waiting c was.waits wait) (ap (slice_get s.guests.seats) same ∙ free))
      ]) (come_asked objects peers at s guests session name there come a)

  -- a session leaves that nobody has
  pub left_asked : (objects : List Scene) (peers : List Peer) (at : ℕ) (s : Scene) (guests : Guests) (session : ℕ) → slice_get objects at ≡ Some s → HasLeft (claims.called at) s.guests guests session →
      ((c : Called) → IsElementOf c s.hall.waiting → slice_get s.guests.seats session ≡ Some Nameless → c.session ≢ session) →
      ((q : ℕ) (o : OpenObject) → opened_in (slice_get peers q) ≡ Some o → o.object ≡ at → o.session ≢ 0 → o.session ≢ session) → AllAsked claims objects peers →
      AllAsked claims (slice_set objects at (with_guests s guests)) peers
  left_asked objects peers at s guests session there left idle apart a =
      let was = a.asked at s there in
      scene_asked objects peers at s (with_guests s guests) there (record {
        seated = left.seated;
        held = was.held;
        waits = all_in (IsKnown (claims.called at) guests) s.hall.waiting (λ c is. left.known c (λ nameless. idle c is nameless) (every_in (IsKnown (claims.called at) s.guests) s.hall.waiting c was.waits is));
      }) (λ Is place o by at_o some has. left.here Is o.session (apart place o by at_o some) has)
      (λ place o c by at_o wait same nameless. a.waits place o s c by (ap (slice_get objects) at_o ∙ there) wait same (left.back o.session nameless)) a

  -- who is told that a call ended waits no more
  pub ends_asked : (at session number : ℕ) (text : List ℕ) (old new : State) (said added : Texts) → Ends at session number text old said added new → NoneAt old.objects at session → AllAsked claims old.objects old.peers →
      AllAsked claims new.objects new.peers
  ends_asked at session number text old new said added (inl (place, e)) none a =
      same_asked (changed old place (waiting false)) new (ap (λ (s : State). s.objects) e.left) (ap (λ (s : State). s.peers) e.left)
      (peers_asked old.objects old.peers (change old.peers place (waiting false)) (less_change old.objects old.peers place (waiting false) (λ p o there is.
      let u = with_waits_some p.opened false o is in
      let own : u.0 ≡ e.waits.opened = same_Some u.0 e.waits.opened (sym u.1 ∙ sym (ap opened_in there) ∙ e.waits.by) in
      let object : o.object ≡ at = ap (λ (x : OpenObject). x.object) u.2 ∙ ap (λ (x : OpenObject). x.object) own ∙ e.waits.is.object in
      let session_is : o.session ≡ session = ap (λ (x : OpenObject). x.session) u.2 ∙ ap (λ (x : OpenObject). x.session) own ∙ e.waits.is.session_is in
      record {
        was = u.0;
        by = ap opened_in there ∙ u.1;
        who_is = ap who_in there;
        object = sym (ap (λ (x : OpenObject). x.object) u.2);
        named = sym (ap (λ (x : OpenObject). x.is_named) u.2);
        session = sym (ap (λ (x : OpenObject). x.session) u.2);
        waits = λ w. inr (λ s c here wait same. none s c (ap (slice_get old.objects) (sym object) ∙ here) wait (same ∙ session_is));
      })) a)
  ends_asked at session number text old new said added (inr (nobody, n)) none a = same_asked old new (ap (λ (s : State). s.objects) n.left) (ap (λ (s : State). s.peers) n.left) a

  pub all_ends_asked : (at : ℕ) (object : Scene) (all : List Ran) (old new : State) (said added : Texts) → AllEnd at object all old said added new →
      ((r : Called) → IsElementOf r (calls_of all) → NoneAt old.objects at r.session) → AllAsked claims old.objects old.peers → AllAsked claims new.objects new.peers
  all_ends_asked at object [] old new said added n none a = same_asked old new (ap (λ (s : State). s.objects) n.left) (ap (λ (s : State). s.peers) n.left) a
  all_ends_asked at object (r ∷ all) old new said added (mid, first, rest, told, one, more) none a =
      all_ends_asked at object all mid new rest added more
      (λ x is. subst (λ (l : List Scene). NoneAt l at x.session) (sym (ends_objects at r.call.session (told_of object r.call.number) (ended_text (told_of object r.call.number) r.reply) old mid first [] one)) (none x (inr is)))
      (ends_asked at r.call.session (told_of object r.call.number) (ended_text (told_of object r.call.number) r.reply) old mid first [] one (none r.call (inl refl)) a)

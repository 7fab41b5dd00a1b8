-- What happens to an object, and whose calls wait and run.
use Rattle.std.proofs.Common.{◌≡◌, ◌≢◌, ◌⊎◌, inl, inr, ◌∙◌, ap, sym, subst, refl, ℕ, List, [], ◌∷◌, ◌++◌}
use Rattle.std.specs.Prelude.{Some, slice_get, slice_set}
use Rattle.std.proofs.lemmas.Bool.{cases_eq}
use Rattle.value_core.specs.declared.datum.Datum.{Datum}
use Rattle.decl_core.specs.ObjectForm.{ObjectForm}
use Rattle.word_core.specs.Events.{Called}
use Rattle.live_core.specs.declared.call.Ran.{Ran}
use Rattle.live_core.specs.declared.live.Taken.{Taken}
use Rattle.live_core.specs.Answers.{asked}
use Rattle.live_core.specs.Hall.{Every, Hall, Told, IsHeld}
use Rattle.live_core.specs.Settles.{Settles, with_all}
use Rattle.live_core.specs.Settles.Settles.{rests, runs}
use Rattle.guest_core.specs.declared.guest.Guest.{Guest}
use Rattle.guest_core.specs.declared.seats.SeatHolder.{SeatHolder}
use Rattle.guest_core.specs.Guests.{Guests, IsNamed, IsSound, SomebodyHas, with_keys}
use Rattle.guest_core.specs.Keys.{Keys, asks}
use Rattle.guest_core.specs.Steps.{AtName}
use Rattle.guest_core.proofs.Items.{get_here, get_set, get_there, one_item}
use Rattle.live_core.specs.Calls.{AreRemembered, Does, IsAsked as AsksOne, LetsGo, seat_of}
use Rattle.live_core.specs.Scene.{Scene}
use Rattle.history_law.specs.Stands.{AreSeated}
use Rattle.history_law.proofs.Seating.{seated_keys, seated_remembered}
use Rattle.history_law.proofs.Tables.{whose}
use Rattle.history_law.specs.Awaits.{IsElementOf}
use Rattle.history_law.proofs.Lists.{Apart, apart_more, between_in, calls_of, every_in, in_behind, settled_out}
use Rattle.history_law.specs.Asked.{AreTheirOwn, Claim, ClientHas, HasAskedFor, IsAskedOf, IsHere, IsItsOwn, IsKnown}
use Rattle.history_law.proofs.Clients.{has_set, has_small, nameless_is, one_client, session_at}

pub all_in : {X : Type 0} (P : X → Type 0) (xs : List X) → ((x : X) → IsElementOf x xs → P x) → Every P xs
all_in P [] f = tt
all_in P (x ∷ xs) f = (f x (inl refl), all_in P xs (λ y is. f y (inr is)))

-- the same clients, but for their calls
pub record Alike (old new : Guests) : Type 0 where
  pub seats : new.seats ≡ old.seats
  pub back : (q : ℕ) (g : Guest) → slice_get new.guests q ≡ Some g → (h : Guest) × (slice_get old.guests q ≡ Some h) × (h.name ≡ g.name)
  pub forth : (q : ℕ) (h : Guest) → slice_get old.guests q ≡ Some h → (g : Guest) × (slice_get new.guests q ≡ Some g) × (g.away ≡ h.away) × (g.name ≡ h.name)

pub alike_same : (v : Guests) → Alike v v
alike_same v = record { seats = refl; back = λ q g is. (g, is, refl); forth = λ q h is. (h, is, refl, refl) }

alike_keys : (v w : Guests) (p : ℕ) (g : Guest) (keys : Keys) → slice_get w.guests p ≡ Some g → Alike v w → Alike v (with_keys w p g keys)
alike_keys v w p g keys there a =
    let now : Guest = record g { keys = keys } in
    record {
      seats = a.seats;
      back = λ q x is. elim (get_set w.guests p now q x is) [
        | inl here ↦
            let was = a.back p g there in
            (was.0, ap (slice_get v.guests) here.0 ∙ was.1, was.2 ∙ ap (λ (y : Guest). y.name) here.1)
        | inr other ↦ a.back q x other.1
      ];
      forth = λ q h is.
          let mid = a.forth q h is in
          elim (cases_eq q p) [
            | inl same ↦ (
              now,
              ap (slice_get (slice_set w.guests p now)) same ∙ get_here w.guests p g now there,
              ap (λ (y : Guest). y.away) (one_item w.guests p g mid.0 there (ap (slice_get w.guests) (sym same) ∙ mid.1)) ∙ mid.2,
              ap (λ (y : Guest). y.name) (one_item w.guests p g mid.0 there (ap (slice_get w.guests) (sym same) ∙ mid.1)) ∙ mid.3,
            )
            | inr other ↦ (mid.0, get_there w.guests p now q other ∙ mid.1, mid.2, mid.3)
          ];
    }

alike_at : (v w : Guests) (session : ℕ) (K : Keys → Keys → Type 0) (new : Guests) → IsSound w → AtName w session K new → Alike v w → Alike v new
alike_at v w session K new sound at a = elim (whose w session sound) [
  | inl by ↦
      let does = at.named by.0 by.1 by.2 in
      subst (Alike v) (sym does.2) (alike_keys v w by.0 by.1 does.0 by.2.there a)
  | inr none ↦ subst (Alike v) (sym (at.nameless none.0)) a
]

-- who is here is here still
pub here_alike : (Is : List ℕ → Type 0) (old new : Guests) (s : ℕ) → Alike old new → ClientHas (IsHere Is) old s → ClientHas (IsHere Is) new s
here_alike Is old new s a (inl is) = inl (ap (λ (l : List SeatHolder). slice_get l s) a.seats ∙ is)
here_alike Is old new s a (inr (p, g, is, here)) =
    let now = a.forth p g is.there in
    inr (p, now.0, record { seat = ap (λ (l : List SeatHolder). slice_get l s) a.seats ∙ is.seat; there = now.1 }, (now.2 ∙ here.0, subst Is (sym now.3) here.1))

-- calls stand apart without one of them
apart_without : (front behind : List Called) (x : Called) → Apart (front ++ x ∷ behind) → Apart (front ++ behind) × ((c : Called) → IsElementOf c (front ++ behind) → c.session ≢ x.session)
apart_without [] behind x apart = (apart.1, λ c is same. every_in (λ (d : Called). x.session ≢ d.session) behind c apart.0 is (sym same))
apart_without (y ∷ front) behind x apart =
    let on = apart_without front behind x apart.1 in (
      (all_in (λ (d : Called). y.session ≢ d.session) (front ++ behind) (λ d is. every_in (λ (e : Called). y.session ≢ e.session) (front ++ x ∷ behind) d apart.0 (between_in front behind x d (inr is))), on.0),
      λ c is. elim is [
        | inl same ↦ subst (λ (d : Called). d.session ≢ x.session) same
            (every_in (λ (e : Called). y.session ≢ e.session) (front ++ x ∷ behind) x apart.0 (in_behind x front (x ∷ behind) (inl refl)))
        | inr later ↦ on.1 c later
      ],
    )

joined_was : (xs : List Called) (c d : Called) → IsElementOf d (xs ++ c ∷ []) → IsElementOf d xs ⊎ (c ≡ d)
joined_was [] c d (inl is) = inr is
joined_was [] c d (inr is) = absurd is
joined_was (x ∷ xs) c d (inl is) = inl (inl is)
joined_was (x ∷ xs) c d (inr is) = elim (joined_was xs c d is) [ inl a ↦ inl (inr a) | inr a ↦ inr a ]

module _ (claim : Claim) where
  -- the call of one session ends, or is asked: the calls of others are known still
  known_others : (v : Guests) (session : ℕ) (K : Keys → Keys → Type 0) (w : Guests) (c : Called) → IsSound v → AtName v session K w → c.session ≢ session → IsKnown claim v c → IsKnown claim w c
  known_others v session K w c sound at other known = elim (whose v session sound) [
    | inl by ↦
        let does = at.named by.0 by.1 by.2 in
        subst (λ (x : Guests). IsKnown claim x c) (sym does.2)
        (has_set (HasAskedFor claim c) v by.0 by.1 (record by.1 { keys = does.0 }) c.session sound by.2.there
        (λ same is. absurd (other (sym same ∙ session_at v session by.0 by.1 sound by.2))) known)
    | inr none ↦ subst (λ (x : Guests). IsKnown claim x c) (sym (at.nameless none.0)) known
  ]

  -- so much is to be known of a call that a session makes: where its client has a name, under the key of its next call
  abbrev pub TellsOf : Guests → Called → Type 0
  TellsOf v c = (p : ℕ) (g : Guest) → IsNamed v c.session p g → claim (asks c.operation c.arguments) g.name g.keys.next

  -- a call that is asked is known
  known_asked : (v : Guests) (c : Called) (w : Guests) → IsSound v → SomebodyHas v c.session → TellsOf v c → AsksOne v c.session c.operation c.arguments w → IsKnown claim w c
  known_asked v c w sound (inl nameless) tells at = inl (ap (λ (x : Guests). slice_get x.seats c.session) (at.nameless (λ p is. nameless_is p (sym nameless ∙ is))) ∙ nameless)
  known_asked v c w sound (inr (p, seat)) tells at =
      let own = sound.named c.session p seat in
      let g : Guest = own.0 in
      let by : IsNamed v c.session p g = record { seat = seat; there = own.1 } in
      let does = at.named p g by in
      let now : Guest = record g { keys = does.0 } in
      inr (
        p,
        now,
        record {
          seat = ap (λ (x : Guests). slice_get x.seats c.session) does.2 ∙ seat;
          there = ap (λ (x : Guests). slice_get x.guests p) does.2 ∙ get_here v.guests p g now own.1;
        },
        (ap (λ (k : Keys). k.asked) does.1.1, subst (λ n. claim (asks c.operation c.arguments) g.name n) (ap (λ (k : Keys). k.next) (sym does.1.1)) (tells p g by)),
      )

  -- a call that runs is its client's own
  its_own : (began v : Guests) (c : Called) → AreSeated v → Alike began v → IsKnown claim v c → IsItsOwn claim began v c
  its_own began v c seated a known = record {
    session = has_small (HasAskedFor claim c) v c.session seated known;
    own = λ p g is. (by p g is known, named p g is);
  }
    where
      by : (p : ℕ) (g : Guest) → IsNamed v c.session p g → IsKnown claim v c → HasAskedFor claim c g
      by p g is (inl nameless) = absurd (nameless_is p (sym nameless ∙ is.seat))
      by p g is (inr (q, h, also, asked)) = subst (HasAskedFor claim c) (one_client v c.session q p h g also is).1 asked

      named : (p : ℕ) (g : Guest) → IsNamed v c.session p g → (h : Guest) × IsNamed began c.session p h × (h.name ≡ g.name)
      named p g is =
          let was = a.back p g is.there in
          (was.0, record { seat = ap (λ (l : List SeatHolder). slice_get l c.session) (sym a.seats) ∙ is.seat; there = was.1 }, was.2)

  -- calls ran, and these are left
  pub record HaveSettled (began : Guests) (s : Scene) (v : Guests) (all : List Ran) (new : Guests) (are : AreRemembered s v all new) (left : List Called) : Type 0 where
    pub own : AreTheirOwn claim began s v all new are
    pub known : (c : Called) → IsElementOf c left → IsKnown claim new c
    pub alike : Alike began new
    pub others : (r : Called) → IsElementOf r (calls_of all) → (c : Called) → IsElementOf c left → c.session ≢ r.session

  have_settled : (o : ObjectForm) (t : Told) (waiting left : List Called) (all : List Ran) → Settles o t waiting all left → (began : Guests) (s : Scene) (v new : Guests) (are : AreRemembered s v all new) → AreSeated v →
      Alike began v → Apart waiting → ((c : Called) → IsElementOf c waiting → IsKnown claim v c) → HaveSettled began s v all new are left
  have_settled o t waiting left all (rests none) began s v new are seated a apart known = record {
    own = tt;
    known = λ c is. subst (λ (x : Guests). IsKnown claim x c) (sym are) (known c is);
    alike = subst (Alike began) (sym are) a;
    others = λ r none c is. absurd none;
  }
  have_settled o t waiting left all (runs front behind r more first reply fails goes) began s v new (mid, one, later) seated a apart known =
      let c = r.call in
      let mine : IsKnown claim v c = known c (in_behind c front (c ∷ behind) (inl refl)) in
      let own = its_own began v c seated a mine in
      let without = apart_without front behind c apart in
      let on = have_settled o _ (front ++ behind) left more goes began s mid new later (seated_keys v (seat_of c.session) _ mid one.remembers seated)
      (alike_at began v (seat_of c.session) _ mid seated.sound one.remembers a) without.0
      (λ d is. known_others v (seat_of c.session) _ mid d seated.sound one.remembers (λ same. without.1 d is (same ∙ own.session)) (known d (between_in front behind c d (inr is)))) in
      record {
        own = (own, on.own);
        known = on.known;
        alike = on.alike;
        others = λ x is d there. elim is [
          | inl same ↦ subst (λ (y : Called). d.session ≢ y.session) same (without.1 d (settled_out o _ (front ++ behind) left more goes d (inr there)))
          | inr behind_it ↦ on.others x behind_it d there
        ];
      }

  -- A call is made of an object.
  pub record HasMade (old new : Scene) (session operation : ℕ) (arguments : List Datum) (a : Taken) (does : Does old session operation arguments a new) : Type 0 where
    pub asked_of : IsAskedOf claim new
    pub own : AreTheirOwn claim old.guests does.mid does.mid.guests a.ran.items new.guests does.remembered
    pub alike : Alike old.guests new.guests
    pub waits : (d : Called) → IsElementOf d new.hall.waiting → IsElementOf d old.hall.waiting ⊎ (asked old.hall session operation arguments ≡ d)
    pub others : (r : Called) → IsElementOf r (calls_of a.ran.items) → (c : Called) → IsElementOf c new.hall.waiting → c.session ≢ r.session

  pub has_made : (old new : Scene) (session operation : ℕ) (arguments : List Datum) (a : Taken) (does : Does old session operation arguments a new) → IsAskedOf claim old → SomebodyHas old.guests session →
      TellsOf old.guests (asked old.hall session operation arguments) → HasMade old new session operation arguments a does
  has_made old new session operation arguments a does is known tells = record {
    asked_of = record {
      seated = seated_remembered does.mid does.mid.guests a.ran.items new.guests does.remembered seated;
      held = (with_all t a.ran.items, subst (λ (h : Hall). IsHeld h (with_all t a.ran.items)) (sym hall) (does.takes.held t held));
      waits = subst (λ (h : Hall). Every (IsKnown claim new.guests) h.waiting) (sym hall) (all_in (IsKnown claim new.guests) does.mid.hall.waiting settled.known);
    };
    own = settled.own;
    alike = settled.alike;
    waits = λ d at. joined_was old.hall.waiting c d
        (settled_out _ t (old.hall.waiting ++ c ∷ []) does.mid.hall.waiting a.ran.items (does.takes.settles t held).settles d (inr (subst (λ (h : Hall). IsElementOf d h.waiting) hall at)));
    others = λ r ran d at. settled.others r ran d (subst (λ (h : Hall). IsElementOf d h.waiting) hall at);
  }
    where
      t : Told
      t = is.held.0

      held : IsHeld old.hall t
      held = is.held.1

      c : Called
      c = asked old.hall session operation arguments

      hall : new.hall ≡ does.mid.hall
      hall = ap (λ (s : Scene). s.hall) does.left

      seated : AreSeated does.mid.guests
      seated = seated_keys old.guests session _ does.mid.guests does.takes.asked_by is.seated

      knows : (d : Called) → IsElementOf d (old.hall.waiting ++ c ∷ []) → IsKnown claim does.mid.guests d
      knows d at = elim (joined_was old.hall.waiting c d at) [
        | inl was ↦ known_others old.guests session _ does.mid.guests d is.seated.sound does.takes.asked_by (every_in (λ (x : Called). x.session ≢ session) old.hall.waiting d does.takes.taken.free was)
            (every_in (IsKnown claim old.guests) old.hall.waiting d is.waits was)
        | inr same ↦ subst (IsKnown claim does.mid.guests) same (known_asked old.guests c does.mid.guests is.seated.sound known tells does.takes.asked_by)
      ]

      settled : HaveSettled old.guests does.mid does.mid.guests a.ran.items new.guests does.remembered does.mid.hall.waiting
      settled = have_settled _ t (old.hall.waiting ++ c ∷ []) does.mid.hall.waiting a.ran.items (does.takes.settles t held).settles old.guests does.mid does.mid.guests new.guests does.remembered seated
          (alike_at old.guests old.guests session _ does.mid.guests is.seated.sound does.takes.asked_by (alike_same old.guests))
          (apart_more old.hall.waiting c held.kept.one_each does.takes.taken.free) knows

  -- A call that waits is let go.
  pub record HasLetGo (old new : Scene) (session : ℕ) (call : Called) : Type 0 where
    pub own : IsItsOwn claim old.guests old.guests call
    pub asked_of : IsAskedOf claim new
    pub alike : Alike old.guests new.guests
    pub waits : (d : Called) → IsElementOf d new.hall.waiting → IsElementOf d old.hall.waiting × (d.session ≢ session)

  pub has_let_go : (old new : Scene) (session told : ℕ) (call : Called) → LetsGo old session told call new → IsAskedOf claim old → HasLetGo old new session call
  has_let_go old new session told call lets is =
      let left = lets.left in
      let held = is.held.1 in
      let without = apart_without left.front left.behind call (subst Apart left.waited held.kept.one_each) in
      let hall : new.hall.waiting ≡ left.front ++ left.behind = ap (λ (h : Hall). h.waiting) left.left in
      let other : (d : Called) → IsElementOf d (left.front ++ left.behind) → d.session ≢ session = λ d at same. without.1 d at (same ∙ sym lets.of) in
      let still : (d : Called) → IsElementOf d (left.front ++ left.behind) → IsElementOf d old.hall.waiting =
      λ d at. subst (λ (l : List Called). IsElementOf d l) (sym left.waited) (between_in left.front left.behind call d (inr at)) in
      record {
        own = its_own old.guests old.guests call is.seated (alike_same old.guests)
            (every_in (IsKnown claim old.guests) old.hall.waiting call is.waits
            (subst (λ (l : List Called). IsElementOf call l) (sym left.waited) (in_behind call left.front (call ∷ left.behind) (inl refl))));
        asked_of = record {
          seated = seated_keys old.guests session _ new.guests lets.remembers is.seated;
          held = (is.held.0, lets.held is.held.0 held);
          waits = subst (Every (IsKnown claim new.guests)) (sym hall)
              (all_in (IsKnown claim new.guests) (left.front ++ left.behind)
              (λ d at. known_others old.guests session _ new.guests d is.seated.sound lets.remembers (other d at) (every_in (IsKnown claim old.guests) old.hall.waiting d is.waits (still d at))));
        };
        alike = alike_at old.guests old.guests session _ new.guests is.seated.sound lets.remembers (alike_same old.guests);
        waits = λ d at. let here = subst (λ (l : List Called). IsElementOf d l) hall at in (still d here, other d here);
      }

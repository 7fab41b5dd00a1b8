-- What is known of clients while their calls are made.
use Rattle.std.proofs.Common.{◌≡◌, ◌∙◌, ap, sym, subst, refl, arith, ℕ, zero, suc, inl, inr, ◌⊎◌, List, [], ◌∷◌, ◌++◌, Bool, true, false, Some, None, Ok, Err}
use Rattle.std.specs.Prelude.{All, slice_get, slice_set}
use Rattle.value_core.specs.declared.datum.Datum.{Datum}
use Rattle.value_core.specs.Datum.{IsDatum}
use Rattle.decl_core.specs.ObjectMap.{object_of}
use Rattle.word_core.specs.Events.{Called}
use Rattle.live_core.specs.declared.call.Ran.{Ran}
use Rattle.live_core.specs.declared.live.Taken.{Taken}
use Rattle.live_core.specs.Hall.{Hall, Told, Every, IsHeld}
use Rattle.live_core.specs.Lines.{all_lines}
use Rattle.live_core.specs.Steps.{Leaves}
use Rattle.guest_core.specs.declared.guest.Guest.{Guest}
use Rattle.guest_core.specs.declared.keys.AskFault.{AskFault}
use Rattle.guest_core.specs.declared.keys.AskFault.TheVariants.{SessionBusy, KeysSpent, Memory}
use Rattle.guest_core.specs.Guests.{Guests, IsNamed, HasNoName, with_keys}
use Rattle.guest_core.specs.Keys.{Keys, asks, Asks, Ends, withdrawn}
use Rattle.guest_core.specs.Steps.{AtName}
use Rattle.guest_core.proofs.Changing.{set_same}
use Rattle.live_core.specs.Calls.{IsAsked, IsRemembered, AreRemembered, LetsGo, seat_of, Takes, RepliesDatum, Calls}
use Rattle.live_core.specs.Scene.{Scene, told_of, with_guests}

-- a session is that of a name, or of none
abbrev pub Whose : Guests → ℕ → Type 0
Whose v session = ((p : ℕ) × (g : Guest) × IsNamed v session p g) ⊎ HasNoName v session

pub whose : (v : Guests) (session : ℕ) (yes : Bool) → (yes ≡ true → (p : ℕ) × (g : Guest) × IsNamed v session p g) →
    (yes ≡ false → HasNoName v session) → Whose v session
whose v session true named nameless = inl (named refl)
whose v session false named nameless = inr (nameless refl)

set_here : (gs : List Guest) (p : ℕ) (g h : Guest) → slice_get gs p ≡ Some g → slice_get (slice_set gs p h) p ≡ Some h
set_here [] p g h there = absurd (grind (arith, there))
set_here (x ∷ gs) zero g h there = refl
set_here (x ∷ gs) (suc p) g h there = set_here gs p g h there

set_twice : (gs : List Guest) (p : ℕ) (g h : Guest) → slice_set (slice_set gs p g) p h ≡ slice_set gs p h
set_twice [] p g h = refl
set_twice (x ∷ gs) zero g h = refl
set_twice (x ∷ gs) (suc p) g h = ap (λ zs. x ∷ zs) (set_twice gs p g h)

-- a call that was asked and is withdrawn leaves no trace
pub restored : (old mid new : Guests) (session operation : ℕ) (arguments : List Datum) → Whose old session →
    IsAsked old session operation arguments mid →
    ((p : ℕ) (g : Guest) → IsNamed mid session p g → new ≡ with_keys mid p g (withdrawn g.keys)) →
    (HasNoName mid session → new ≡ mid) → new ≡ old
restored old mid new session operation arguments who asked named nameless = by who
  where
    at : (p : ℕ) (g : Guest) (keys : Keys) → IsNamed old session p g → Asks g.keys (asks operation arguments) (Ok tt) keys →
        mid ≡ with_keys old p g keys → new ≡ old
    at p g keys by does is =
        let h : Guest = record g { keys = keys } in
        let there : IsNamed (with_keys old p g keys) session p h = record { seat = by.seat; there = set_here old.guests p g h by.there } in
        let to = named p h (subst (λ (v : Guests). IsNamed v session p h) (sym is) there) in
        let same : record h { keys = withdrawn h.keys } ≡ g = ap (λ (k : Keys). record g { keys = k }) (ap withdrawn does.1 ∙ keys_are g.keys does.0) in
        to ∙ ap (λ (v : Guests). with_keys v p h (withdrawn h.keys)) is
        ∙ ap (λ (gs : List Guest). record old { guests = gs })
        (set_twice old.guests p h (record h { keys = withdrawn h.keys }) ∙ ap (slice_set old.guests p) same ∙ set_same old.guests p g by.there)
      where
        keys_are : (k : Keys) → k.asked ≡ None → record k { asked = None } ≡ k
        keys_are k none = ap (λ a. record k { asked = a }) (sym none)

    by : Whose old session → new ≡ old
    by (inl is) = let a = asked.named is.0 is.1 is.2 in at is.0 is.1 a.0 is.2 a.1 a.2
    by (inr none) =
        let same : mid ≡ old = asked.nameless none in
        nameless (subst (λ (v : Guests). HasNoName v session) (sym same) none) ∙ same

-- what is asked of the keys of a session's name
abbrev NamedSo : Guests → ℕ → (Keys → Keys → Type 0) → Guests → Type 0
NamedSo old session Does new = (p : ℕ) (g : Guest) → IsNamed old session p g → (keys : Keys) × Does g.keys keys × (new ≡ with_keys old p g keys)

-- a session asks a call
pub asked_by : (v now : Scene) (new : Guests) (session operation : ℕ) (arguments : List Datum) → v ≡ now →
    NamedSo v.guests session (λ keys after. Asks keys (asks operation arguments) (Ok tt) after) new →
    (HasNoName v.guests session → new ≡ v.guests) → IsAsked now.guests session operation arguments new
asked_by v now new session operation arguments same named nameless =
    subst (λ (w : Scene). IsAsked w.guests session operation arguments new) same (record { named = named; nameless = nameless })

-- all but the clients is as it was, and they are too
pub same_guests : (v now : Scene) (g : Guests) → v ≡ now → g ≡ v.guests → record v { guests = g } ≡ now
same_guests v now g same is = ap (λ x. record v { guests = x }) is ∙ same

-- a call that is not asked leaves no trace
pub not_asked : (old new : Guests) (session operation : ℕ) (arguments : List Datum) (fault : AskFault) → Whose old session →
    NamedSo old session (λ keys after. Asks keys (asks operation arguments) (Err fault) after) new →
    (HasNoName old session → new ≡ old) → new ≡ old
not_asked old new session operation arguments fault who named nameless = by who
  where
    keys_stay : (fault : AskFault) (keys after : Keys) → Asks keys (asks operation arguments) (Err fault) after → after ≡ keys
    keys_stay SessionBusy keys after is = is.1
    keys_stay KeysSpent keys after is = is.2
    keys_stay Memory keys after is = is.2

    by : Whose old session → new ≡ old
    by (inl is) =
        let a = named is.0 is.1 is.2 in
        a.2 ∙ ap (with_keys old is.0 is.1) (keys_stay fault is.1.keys a.0 a.1)
        ∙ ap (λ (gs : List Guest). record old { guests = gs }) (set_same old.guests is.0 is.1 is.2.there)
    by (inr none) = nameless none

-- a call ran, and its client remembers it
pub remembers_one : (v now : Scene) (r : Ran) (new : Guests) (session told : ℕ) (so : Bool) → v ≡ now → session ≡ seat_of r.call.session →
    told ≡ told_of now r.call.number → NamedSo v.guests session (λ keys after. Ends keys told (Some r.reply) so after) new →
    (HasNoName v.guests session → (so ≡ false) × (new ≡ v.guests)) → IsRemembered now now.guests r new
remembers_one v now r new session told so same seat is named nameless =
    subst (λ (w : Scene). IsRemembered w w.guests r new) same (record { was_asked = so; remembers = at_seat })
  where
    told_v : told ≡ told_of v r.call.number
    told_v = is ∙ ap (λ (w : Scene). told_of w r.call.number) (sym same)

    at_session : AtName v.guests session (λ keys after. Ends keys told (Some r.reply) so after) new
    at_session = record { named = named; nameless = λ none. (nameless none).1 }

    at_told : AtName v.guests session (λ keys after. Ends keys (told_of v r.call.number) (Some r.reply) so after) new
    at_told = subst (λ n. AtName v.guests session (λ keys after. Ends keys n (Some r.reply) so after) new) told_v at_session

    at_seat : AtName v.guests (seat_of r.call.session) (λ keys after. Ends keys (told_of v r.call.number) (Some r.reply) so after) new
    at_seat = subst (λ n. AtName v.guests n (λ keys after. Ends keys (told_of v r.call.number) (Some r.reply) so after) new) seat at_told

-- the call of a session is let go
pub gone_by : (v now : Scene) (h : Hall) (g : Guests) (session from told : ℕ) (so : Bool) → v ≡ now → from ≡ session →
    ((c : Called) × (c.session ≡ from) × Leaves v.hall c h) → ((t : Told) → IsHeld v.hall t → IsHeld h t) →
    NamedSo v.guests session (λ keys after. Ends keys told None so after) g →
    (HasNoName v.guests session → (so ≡ false) × (g ≡ v.guests)) →
    (c : Called) × LetsGo now session told c (record v { hall = h; guests = g })
gone_by v now h g session from told so same is left held named nameless = (
  left.0,
  subst (λ (w : Scene). LetsGo w session told left.0 (record v { hall = h; guests = g })) same (record {
    of = left.1 ∙ is;
    left = left.2;
    held = held;
    was_asked = so;
    remembers = record { named = named; nameless = λ none. (nameless none).1 };
    given = refl;
    tells = record { past = refl; carried = refl; base = refl; epoch = refl; source = refl };
  }),
)

-- a call that is refused leaves all as it was
pub refused_by : (old mid v : Scene) (h : Hall) (g : Guests) (session operation : ℕ) (arguments : List Datum) → Whose old.guests session →
    v ≡ mid → mid ≡ with_guests old mid.guests → IsAsked old.guests session operation arguments mid.guests → h ≡ v.hall →
    ((p : ℕ) (k : Guest) → IsNamed v.guests session p k → g ≡ with_keys v.guests p k (withdrawn k.keys)) →
    (HasNoName v.guests session → g ≡ v.guests) →
    record v { hall = h; guests = g } ≡ old
refused_by old mid v h g session operation arguments who same left asked hall named nameless =
    let v_is : v ≡ with_guests old mid.guests = same ∙ left in
    let asked_v : IsAsked old.guests session operation arguments v.guests =
    subst (λ (w : Scene). IsAsked old.guests session operation arguments w.guests) (sym same) asked in
    let guests : g ≡ old.guests = restored old.guests v.guests g session operation arguments who asked_v named nameless in
    let hall_is : h ≡ old.hall = hall ∙ ap (λ (w : Scene). w.hall) v_is in
    ap (λ x. record v { hall = x; guests = g }) hall_is ∙ ap (λ x. record v { hall = old.hall; guests = x }) guests
    ∙ ap (λ (w : Scene). record w { hall = old.hall; guests = old.guests }) v_is

-- one more is remembered
pub remembered_then : (old first mid new : Scene) (r : Ran) (all more : List Ran) → first ≡ old → IsRemembered first first.guests r mid.guests → mid ≡ with_guests first mid.guests →
    AreRemembered mid mid.guests more new.guests → all ≡ r ∷ more → AreRemembered old old.guests all new.guests
remembered_then old first mid new r all more same one left rest is =
    subst (λ (l : List Ran). AreRemembered old old.guests l new.guests) (sym is) (subst (λ (s : Scene). AreRemembered s s.guests (r ∷ more) new.guests) same whole)
  where
    along : (xs : List Ran) (g : Guests) → AreRemembered (with_guests first mid.guests) g xs new.guests → AreRemembered first g xs new.guests
    along [] g is = is
    along (x ∷ xs) g is = (is.0, record { was_asked = is.1.was_asked; remembers = is.1.remembers }, along xs is.0 is.2)

    whole : AreRemembered first first.guests (r ∷ more) new.guests
    whole = (mid.guests, one, along more mid.guests (subst (λ (s : Scene). AreRemembered s mid.guests more new.guests) left rest))

-- what these replied that ran can be written
abbrev pub Replied : List Ran → Type 0
Replied all = Every (λ (r : Ran). RepliesDatum r.reply) all

-- a call is made
pub did : (old first mid told new : Scene) (session operation : ℕ) (arguments : List Datum) (a : Taken) (all more : List Ran) (before after : List ℕ) →
    first ≡ old → Takes first session operation arguments a mid → told ≡ mid → all ≡ a.ran.items → more ≡ a.ran.items →
    after ≡ before ++ all_lines (object_of mid.hall.object) all → AreRemembered told told.guests more new.guests → new ≡ with_guests told new.guests →
    All IsDatum arguments → Replied a.ran.items →
    Calls old session operation arguments before (Ok a) after new
did old first mid told new session operation arguments a all more before after same takes told_is all_is more_is added remembered left values replies = (
  record {
    mid = told;
    takes = subst (λ (s : Scene). Takes old session operation arguments a s) (sym told_is) takes_old;
    values = values;
    replies = replies;
    remembered = subst (λ (l : List Ran). AreRemembered told told.guests l new.guests) more_is remembered;
    left = left;
  },
  added ∙ ap (λ x. before ++ all_lines (object_of x) all) takes_old.same.fixed.object ∙ ap (λ l. before ++ all_lines (object_of old.hall.object) l) all_is,
)
  where
    takes_old : Takes old session operation arguments a mid
    takes_old = subst (λ (s : Scene). Takes s session operation arguments a mid) same takes

-- What the server begins with, where something is held.
use Rattle.std.proofs.Common.{◌≡◌, ◌≢◌, inl, inr, ℕ, zero, suc, ◌+◌, ◌<◌, ◌≤◌, List, [], ◌∷◌, ◌++◌, length, get_or, take, Some, refl, sym, ap, subst, ◌∙◌, arith, Bool, true, false}
use Rattle.std.specs.Prelude.{slice_get, slice_set, All}
use Rattle.std.proofs.lemmas.Bool.{cases_lt, cases_eq}
use Rattle.std.proofs.lemmas.List.Elements.{All-more}
use Rattle.guest_core.proofs.Items.{get_here, get_there}
use Rattle.guest_core.specs.declared.seats.SeatHolder.TheVariants.{Free, Nameless, Named}
use Rattle.guest_core.specs.Entering.{Leaves}
use Rattle.guest_core.specs.Guests.{Guests, with_seat}
use Rattle.guest_core.specs.Seats.{IsLeastFree, NoneIsFree}
use Rattle.live_core.specs.Calls.{seat_of}
use Rattle.live_core.specs.Scene.{Scene, with_guests}
use Rattle.live_core.specs.HostedSteps.{Steps, does, goes_on, gets_number, leaves, rests}
use Rattle.guest_core.specs.Held.{HeldCall}
use Rattle.client_core.specs.declared.holder.Holder.{Holder}
use Rattle.client_core.specs.Start.{HoldsNoneOf, IsAmong, IsBelow, IsKept, KeepsTaken, NoneFreeBelow}

-- steps without lines, one after the other
pub steps_both : (a b c : Scene) → Steps a [] b → Steps b [] c → Steps a [] c
steps_both a b c first second = goes_on first second

-- a number is given to a session without a name
pub seated_step : (old new : Scene) (s : ℕ) → IsLeastFree old.guests.seats s → new ≡ with_guests old (with_seat old.guests s Nameless) → Steps old [] new
seated_step old new s free is = subst (λ x. Steps old [] x) (sym is) (does (gets_number s free))

pub seated_keeps : (old new : Scene) (s : ℕ) → IsLeastFree old.guests.seats s → new ≡ with_guests old (with_seat old.guests s Nameless) → KeepsTaken old.guests new.guests
seated_keeps old new s free is = subst (λ (x : Scene). KeepsTaken old.guests x.guests) (sym is) kept
  where
    kept : (k : ℕ) → slice_get old.guests.seats k ≢ Some Free → slice_get (slice_set old.guests.seats s Nameless) k ≢ Some Free
    kept k taken now = elim (cases_eq k s) [
      | inl same ↦ taken (ap (slice_get old.guests.seats) same ∙ free.free)
      | inr other ↦ taken (sym (get_there old.guests.seats s Nameless k other) ∙ now)
    ]

nameless_not_free : Some Nameless ≡ Some Free → ⊥
nameless_not_free e = cc

pub seated_more : (old new : Scene) (s : ℕ) → IsLeastFree old.guests.seats s → new ≡ with_guests old (with_seat old.guests s Nameless) → (n : ℕ) → NoneFreeBelow old.guests n → NoneFreeBelow new.guests (n + 1)
seated_more old new s free is n below = subst (λ (x : Scene). NoneFreeBelow x.guests (n + 1)) (sym is) none
  where
    none : (k : ℕ) → k < n + 1 → slice_get (slice_set old.guests.seats s Nameless) k ≢ Some Free
    none k within now = elim (cases_eq k s) [
      | inl same ↦ nameless_not_free (sym (get_here old.guests.seats s Free Nameless free.free) ∙ ap (slice_get (slice_set old.guests.seats s Nameless)) (sym same) ∙ now)
      | inr other ↦
          let was = sym (get_there old.guests.seats s Nameless k other) ∙ now in
          elim (cases_lt k n) [
            | inl less ↦ below k less was
            | inr past ↦ elim (cases_lt s n) [
              | inl low ↦ below s low free.free
              | inr high ↦ free.least k (omega (arith, within, past, high, other)) was
            ]
          ]
    ]

pub same_steps : (old new : Scene) → new ≡ old → Steps old [] new
same_steps old new is = subst (λ x. Steps old [] x) (sym is) rests

pub same_taken : (old new : Scene) → new ≡ old → KeepsTaken old.guests new.guests
same_taken old new is = subst (λ (x : Scene). KeepsTaken old.guests x.guests) (sym is) (λ k taken. taken)

pub same_none : (old new : Scene) → NoneIsFree old.guests.seats → new ≡ old → NoneIsFree new.guests.seats
same_none old new none is = subst (λ (x : Scene). NoneIsFree x.guests.seats) (sym is) none

-- a session leaves
pub left_steps : (old new : Scene) (s now : ℕ) (b : Bool) → Leaves old.guests s now b new.guests → new ≡ with_guests old new.guests → Steps old [] new
left_steps old new s now b lv is = subst (λ x. Steps old [] x) (sym is) (does (leaves s now b new.guests lv))

left_seats : (old new : Guests) (s now : ℕ) (b : Bool) → Leaves old s now b new → (k : ℕ) → k ≢ s → slice_get old.seats k ≢ Some Free → slice_get new.seats k ≢ Some Free
left_seats old new s now true (inl named) k other taken free = taken (ap (λ (v : Guests). slice_get v.seats k) (sym named.4) ∙ free)
left_seats old new s now true (inr bare) k other taken free =
    taken (sym (get_there old.seats s Free k other) ∙ ap (λ (v : Guests). slice_get v.seats k) (sym bare.1) ∙ free)
left_seats old new s now false gone k other taken free = taken (ap (λ (v : Guests). slice_get v.seats k) (sym gone.2) ∙ free)

pub left_others : (old new : Scene) (s now : ℕ) (b : Bool) → Leaves old.guests s now b new.guests → (k : ℕ) → k ≢ s → slice_get old.guests.seats k ≢ Some Free → slice_get new.guests.seats k ≢ Some Free
left_others old new s now b lv = left_seats old.guests new.guests s now b lv

-- one more of those that leave
pub apart_at : (s : ℕ) (others : List ℕ) (i d : ℕ) → All (λ (o : ℕ). s ≢ o) others → i < length others → s ≢ get_or others i d
apart_at s others i d all within = all i d within

-- the number of the session of each held call is kept
one_kept : (mid last : Guests) (old : Guests) (most : ℕ) (others : List ℕ) (c : HeldCall) → KeepsTaken old mid → NoneFreeBelow mid (most + 1)
    → ((s : ℕ) → All (λ (o : ℕ). s ≢ o) others → slice_get mid.seats s ≢ Some Free → slice_get last.seats s ≢ Some Free)
    → All (λ (o : ℕ). seat_of c.session ≢ o) others → IsBelow old most c → IsKept last c
one_kept mid last old most others c taken below kept apart (inl named) =
    kept (seat_of c.session) apart (taken (seat_of c.session) (λ free. named_not_free named.0 (sym named.2.seat ∙ free)))
  where
    named_not_free : (p : ℕ) → Some (Named p) ≡ Some Free → ⊥
    named_not_free p e = cc
one_kept mid last old most others c taken below kept apart (inr low) =
    kept (seat_of c.session) apart (below (seat_of c.session) (omega (arith, low)))

apart_of : (held : List HeldCall) (others : List ℕ) (k : ℕ) (d : HeldCall) → k < length held → All (HoldsNoneOf held) others → All (λ (o : ℕ). seat_of (get_or held k d).session ≢ o) others
apart_of held others k d within none = λ i e inside. none i e inside k d within

pub all_kept : (old mid last : Guests) (most : ℕ) (held : List HeldCall) (others : List ℕ) → All (IsBelow old most) held → KeepsTaken old mid → NoneFreeBelow mid (most + 1) → All (HoldsNoneOf held) others
    → ((s : ℕ) → All (λ (o : ℕ). s ≢ o) others → slice_get mid.seats s ≢ Some Free → slice_get last.seats s ≢ Some Free)
    → All (IsKept last) held
all_kept old mid last most held others low taken below none kept =
    λ k d within. one_kept mid last old most others (get_or held k d) taken below kept (apart_of held others k d within none) (low k d within)

-- the bound may be greater
below_more : (v : Guests) (most more : ℕ) (c : HeldCall) → most ≤ more → IsBelow v most c → IsBelow v more c
below_more v most more c le (inl named) = inl named
below_more v most more c le (inr low) = inr (omega (arith, low, le))

pub all_below : (v : Guests) (most more : ℕ) (held : List HeldCall) (i : ℕ) (c : HeldCall) → i < length held → c ≡ get_or held i c → most ≤ more → IsBelow v more c → All (IsBelow v most) (take i held)
    → All (IsBelow v more) (take (i + 1) held)
all_below v most more held i c within is le one all =
    All-more (IsBelow v more) held i c within (λ k d inside. below_more v most more (get_or (take i held) k d) le (all k d inside)) (subst (λ x. IsBelow v more x) is one)

-- who is gone is among those who are
pub among_here : (gone : List Holder) (c : HeldCall) (g : Holder) → g.session ≡ seat_of c.session → IsAmong (gone ++ g ∷ []) c
among_here [] c g is = (0, g, refl, is)
among_here (x ∷ gone) c g is = let rest = among_here gone c g is in (suc rest.0, rest.1, rest.2, rest.3)

pub among_more : (gone : List Holder) (c : HeldCall) (g : Holder) → IsAmong gone c → IsAmong (gone ++ g ∷ []) c
among_more gone c g is = (is.0, is.1, front gone is.0 is.1 is.2, is.3)
  where
    front : (xs : List Holder) (k : ℕ) (x : Holder) → slice_get xs k ≡ Some x → slice_get (xs ++ g ∷ []) k ≡ Some x
    front [] k x e = absurd cc
    front (y ∷ xs) zero x e = e
    front (y ∷ xs) (suc k) x e = front xs k x e

pub all_among : (gone old : List Holder) (held : List HeldCall) (i : ℕ) (c : HeldCall) → i < length held → c ≡ get_or held i c → ((d : HeldCall) → IsAmong old d → IsAmong gone d) → IsAmong gone c
    → All (IsAmong old) (take i held) → All (IsAmong gone) (take (i + 1) held)
all_among gone old held i c within is more one all =
    All-more (IsAmong gone) held i c within (λ k d inside. more (get_or (take i held) k d) (all k d inside)) (subst (λ x. IsAmong gone x) is one)

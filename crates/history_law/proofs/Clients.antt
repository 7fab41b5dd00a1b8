-- Sessions, and the clients that have them, change by change.
use Rattle.std.proofs.Common.{◌≡◌, ◌≢◌, inl, inr, ◌∙◌, ap, sym, subst, refl, arith, ℕ, ◌<◌, [], ◌∷◌, length}
use Rattle.std.specs.Prelude.{Bool, true, false, Option, Some, nat_lt, slice_get, slice_set, if◌then◌else◌}
use Rattle.std.proofs.lemmas.Bool.{cases_eq}
use Rattle.std.proofs.lemmas.Bool.Decides.{nat_tests}
use Rattle.guest_core.specs.declared.guest.Guest.{Guest}
use Rattle.guest_core.specs.declared.seats.SeatHolder.{SeatHolder}
use Rattle.guest_core.specs.declared.seats.SeatHolder.TheVariants.{Void, Free, Nameless, Named, Retired}
use Rattle.guest_core.specs.Guests.{Guests, IsNamed, IsSound, with_guest, with_other, with_seat}
use Rattle.guest_core.proofs.Items.{get_front, get_here, get_there, get_within, one_item}
use Rattle.guest_core.proofs.Sound.{one_place}
use Rattle.live_core.specs.Calls.{seat_of}
use Rattle.history_law.specs.Stands.{AreSeated}
use Rattle.history_law.specs.Asked.{ClientHas}

pub nameless_is : (p : ℕ) → ◌≡◌ {A = Option SeatHolder} (Some Nameless) (Some (Named p)) → ⊥
nameless_is p is = cc

pub free_is : (p : ℕ) → ◌≡◌ {A = Option SeatHolder} (Some Free) (Some (Named p)) → ⊥
free_is p is = cc

pub free_nameless : ◌≡◌ {A = Option SeatHolder} (Some Free) (Some Nameless) → ⊥
free_nameless is = cc

pub void_nameless : ◌≡◌ {A = Option SeatHolder} (Some Void) (Some Nameless) → ⊥
void_nameless is = cc

pub void_is : (p : ℕ) → ◌≡◌ {A = Option SeatHolder} (Some Void) (Some (Named p)) → ⊥
void_is p is = cc

-- the client at a place has one session
pub session_at : (v : Guests) (s p : ℕ) (g : Guest) → IsSound v → IsNamed v s p g → g.session ≡ s
session_at v s p g sound is =
    let at = sound.named s p is.seat in
    ap (λ (x : Guest). x.session) (one_item v.guests p g at.0 is.there at.1) ∙ at.2

-- the client of a session is one
pub one_client : (v : Guests) (s p q : ℕ) (g h : Guest) → IsNamed v s p g → IsNamed v s q h → (p ≡ q) × (g ≡ h)
one_client v s p q g h a b =
    let same : p ≡ q = one_place v.seats s p q a.seat b.seat in
    (same, one_item v.guests q g h (subst (λ n. slice_get v.guests n ≡ Some g) same a.there) b.there)

-- a session of which somebody has the number is one of 16 bits
pub small : (n : ℕ) → n < 65536 → seat_of n ≡ n
small n less = by (nat_lt n 65536) refl
  where
    by : (b : Bool) → nat_lt n 65536 ≡ b → (if nat_lt n 65536 then n else 0) ≡ n
    by true is = ap (λ (b : Bool). if b then n else 0) is
    by false is = absurd (grind (arith, nat_tests, is, less))

pub seat_small : (v : Guests) (s : ℕ) (seat : SeatHolder) → AreSeated v → slice_get v.seats s ≡ Some seat → seat_of s ≡ s
seat_small v s seat seated is = small s (omega (arith, get_within v.seats s seat is, seated.few))

pub has_small : (Is : Guest → Type 0) (v : Guests) (s : ℕ) → AreSeated v → ClientHas Is v s → seat_of s ≡ s
has_small Is v s seated (inl is) = seat_small v s Nameless seated is
has_small Is v s seated (inr is) = seat_small v s (Named is.0) seated is.2.seat

-- it is not 0
pub has_some : (Is : Guest → Type 0) (v : Guests) (s : ℕ) → AreSeated v → ClientHas Is v s → s ≢ 0
has_some Is v s seated (inl is) none = void_nameless (sym seated.nobody ∙ ap (slice_get v.seats) (sym none) ∙ is)
has_some Is v s seated (inr is) none = void_is is.0 (sym seated.nobody ∙ ap (slice_get v.seats) (sym none) ∙ is.2.seat)

-- it is not free
pub has_taken : (Is : Guest → Type 0) (v : Guests) (s : ℕ) → ClientHas Is v s → slice_get v.seats s ≢ Some Free
has_taken Is v s (inl is) free = free_nameless (sym free ∙ is)
has_taken Is v s (inr is) free = free_is is.0 (sym free ∙ is.2.seat)

-- the client at a place changes
pub has_set : (Is : Guest → Type 0) (v : Guests) (p : ℕ) (g h : Guest) (s : ℕ) → IsSound v → slice_get v.guests p ≡ Some g → (g.session ≡ s → Is g → Is h) → ClientHas Is v s →
    ClientHas Is (record v { guests = slice_set v.guests p h }) s
has_set Is v p g h s sound there f (inl is) = inl is
has_set Is v p g h s sound there f (inr (q, x, is, ok)) = elim (cases_eq q p) [
  | inl same ↦
      let here : slice_get v.guests p ≡ Some x = subst (λ n. slice_get v.guests n ≡ Some x) same is.there in
      let one : x ≡ g = one_item v.guests p x g here there in
      let own : IsNamed v s q g = subst (λ (y : Guest). IsNamed v s q y) one is in
      inr (
        p,
        h,
        record { seat = subst (λ n. slice_get v.seats s ≡ Some (Named n)) same is.seat; there = get_here v.guests p g h there },
        f (session_at v s q g sound own) (subst Is one ok),
      )
  | inr other ↦ inr (q, x, record { seat = is.seat; there = get_there v.guests p h q other ∙ is.there }, ok)
]

-- another seat changes
pub has_seat : (Is : Guest → Type 0) (v : Guests) (k : ℕ) (seat : SeatHolder) (s : ℕ) → s ≢ k → ClientHas Is v s → ClientHas Is (with_seat v k seat) s
has_seat Is v k seat s other (inl is) = inl (get_there v.seats k seat s other ∙ is)
has_seat Is v k seat s other (inr (p, g, is, ok)) = inr (p, g, record { seat = get_there v.seats k seat s other ∙ is.seat; there = is.there }, ok)

-- a client more
pub has_guest : (Is : Guest → Type 0) (v : Guests) (g : Guest) (s : ℕ) → slice_get v.seats g.session ≡ Some Free → ClientHas Is v s → ClientHas Is (with_guest v g) s
has_guest Is v g s free has = by (has_seat Is v g.session (Named (length v.guests)) s (λ same. has_taken Is v s has (ap (slice_get v.seats) same ∙ free)) has)
  where
    by : ClientHas Is (with_seat v g.session (Named (length v.guests))) s → ClientHas Is (with_guest v g) s
    by (inl is) = inl is
    by (inr (p, x, is, ok)) = inr (p, x, record { seat = is.seat; there = get_front v.guests (g ∷ []) p x is.there }, ok)

-- another client gets the place of one that is forgotten
pub has_other : (Is : Guest → Type 0) (v : Guests) (p : ℕ) (f g : Guest) (s : ℕ) → IsSound v → slice_get v.guests p ≡ Some f → slice_get v.seats g.session ≡ Some Free → (Is f → ⊥) → ClientHas Is v s →
    ClientHas Is (with_other v p f g) s
has_other Is v p f g s sound there free none (inl is) =
    inl (get_there (slice_set v.seats f.session Retired) g.session (Named p) s (λ same. free_nameless (sym free ∙ ap (slice_get v.seats) (sym same) ∙ is))
    ∙ get_there v.seats f.session Retired s (λ same. nameless_is p (sym is ∙ ap (slice_get v.seats) same ∙ sound.seated p f there)) ∙ is)
has_other Is v p f g s sound there free none (inr (q, x, is, ok)) = elim (cases_eq q p) [
  | inl same ↦ absurd (none (subst Is (one_item v.guests p x f (subst (λ n. slice_get v.guests n ≡ Some x) same is.there) there) ok))
  | inr other ↦ inr (
    q,
    x,
    record {
      seat = get_there (slice_set v.seats f.session Retired) g.session (Named p) s (λ same. free_is q (sym free ∙ ap (slice_get v.seats) (sym same) ∙ is.seat))
          ∙ get_there v.seats f.session Retired s (λ same. other (one_place v.seats s q p is.seat (ap (slice_get v.seats) same ∙ sound.seated p f there))) ∙ is.seat;
      there = get_there v.guests p g q other ∙ is.there;
    },
    ok,
  )
]

-- Of places that nobody has nothing is seen.
use Rattle.std.proofs.Common.{◌≡◌, ◌∙◌, ap, subst, refl, arith, ℕ, zero, suc, List, [], ◌∷◌}
use Rattle.std.specs.Prelude.{Bool, false, if◌then◌else◌, None, Some, drop, map, slice_get}
use Rattle.std.proofs.lemmas.Option.{same_Some}
use Rattle.client_core.specs.declared.client.ClientPlace.{ClientPlace}
use Rattle.client_core.specs.declared.clients.ClientPlaces.{ClientPlaces}
use Rattle.client_core.specs.Places.{held_in, is_here_in, opened_in, place_at}
use Rattle.client_core.specs.State.{Peer, peer_of, peers_of}

none_left : (n : ℕ) → drop {A = ℕ} n [] ≡ []
none_left zero = refl
none_left (suc n) = refl

quiet_rows : (rows : List ClientPlace) → ((k : ℕ) → opened_in (slice_get rows k) ≡ None) → ((k : ℕ) → held_in (slice_get rows k) ≡ []) →
    (place : ℕ) (p : Peer) → slice_get (map peer_of rows) place ≡ Some p → (p.opened ≡ None) × (p.held ≡ [])
quiet_rows [] opened held place p is = absurd (grind (arith, is))
quiet_rows (c ∷ rows) opened held zero p is =
    subst (λ (q : Peer). (q.opened ≡ None) × (q.held ≡ [])) (same_Some (peer_of c) p is) (opened 0, ap (λ (l : List ℕ). drop c.done l) (held 0) ∙ none_left c.done)
quiet_rows (c ∷ rows) opened held (suc place) p is = quiet_rows rows (λ k. opened (suc k)) (λ k. held (suc k)) place p is

-- where nobody has opened anything, and no line is held, this is seen of it
pub quiet_seen : (clients : ClientPlaces) → ((k : ℕ) → opened_in (place_at clients k) ≡ None) → ((k : ℕ) → held_in (place_at clients k) ≡ []) →
    (place : ℕ) (p : Peer) → slice_get (peers_of clients) place ≡ Some p → (p.opened ≡ None) × (p.held ≡ [])
quiet_seen clients opened held = quiet_rows clients.rows.items opened held

bare_row : (c : ClientPlace) → c.is_here ≡ false → (peer_of c).who ≡ None
bare_row c away = ap (λ (b : Bool). if b then Some c.who else None) away

bare_rows : (rows : List ClientPlace) → ((k : ℕ) → is_here_in (slice_get rows k) ≡ false) →
    (place : ℕ) (p : Peer) → slice_get (map peer_of rows) place ≡ Some p → p.who ≡ None
bare_rows [] away place p is = absurd (grind (arith, is))
bare_rows (c ∷ rows) away zero p is = subst (λ (q : Peer). q.who ≡ None) (same_Some (peer_of c) p is) (bare_row c (away 0))
bare_rows (c ∷ rows) away (suc place) p is = bare_rows rows (λ k. away (suc k)) place p is

-- where nobody has a place, nobody is seen
pub nobody_seen : (clients : ClientPlaces) → ((k : ℕ) → is_here_in (place_at clients k) ≡ false) →
    (place : ℕ) (p : Peer) → slice_get (peers_of clients) place ≡ Some p → p.who ≡ None
nobody_seen clients away = bare_rows clients.rows.items away

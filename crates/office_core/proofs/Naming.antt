-- Clients have names and sessions of their own.
use Rattle.std.proofs.Common.{◌≡◌, ◌≢◌, ℕ, ◌+◌, ◌<◌, ◌≤◌, List, [], ◌∷◌, ◌++◌, Option, Some, None, refl, sym, ◌∙◌, ap, subst, arith, length}
use Rattle.std.specs.Prelude.{slice_get, slice_set, slice_index_or, IfSome}
use Rattle.std.proofs.lemmas.List.{set-get_or}
use Rattle.std.proofs.lemmas.Option.{slice_get-get_or, same_Some}
use Rattle.page_core.specs.Lists.{Every, EachPair}
use Rattle.office_core.specs.declared.client_seat.Seat.{Seat}
use Rattle.office_core.specs.declared.clients.Client.{Client}
use Rattle.office_core.specs.Clients.{IsClient, AreClients}
use Rattle.page_core.proofs.Lists.{Every-map, Every-at, Every-set, Every-snoc, Every-both, EachPair-set, EachPair-snoc}

-- another seat of a client, or none
set_seat : (given : ℕ) (clients : List Client) (k : ℕ) (c : Client) (seat : Option Seat) → AreClients given clients → slice_get clients k ≡ Some c → IfSome seat (λ (s : Seat). s.session ≡ c.session)
    → AreClients given (slice_set clients k (record c { seat = seat }))
set_seat given clients k c seat h is own =
    let here : IsClient given c = Every-at (IsClient given) clients k c h.each is in
    record {
      each = Every-set (IsClient given) clients k (record c { seat = seat }) h.each (record { within = here.within; own = own });
      names = EachPair-set (λ (x y : Client). x.name ≢ y.name) clients k c (record c { seat = seat }) (λ z differ. differ) (λ z differ. differ) h.names is;
      sessions = EachPair-set (λ (x y : Client). x.session < y.session) clients k c (record c { seat = seat }) (λ z less. less) (λ z less. less) h.sessions is;
    }

-- a seat that is given out is no more parked
pub clients_taken : (given : ℕ) (clients : List Client) (k : ℕ) (c : Client) → AreClients given clients → slice_get clients k ≡ Some c → AreClients given (slice_set clients k (record c { seat = None }))
clients_taken given clients k c h is = set_seat given clients k c None h is tt

pub clients_put : (given : ℕ) (clients : List Client) (k : ℕ) (c : Client) (seat : Seat) → AreClients given clients → slice_get clients k ≡ Some c → seat.session ≡ c.session
    → AreClients given (slice_set clients k (record c { seat = Some seat }))
clients_put given clients k c seat h is own = set_seat given clients k c (Some seat) h is own

client_more : (given : ℕ) (c : Client) → IsClient given c → IsClient (given + 1) c
client_more given c h = record { within = (h.within.0, omega (arith, h.within.1)); own = h.own }

-- one session more
pub clients_given : (given : ℕ) (clients : List Client) → AreClients given clients → AreClients (given + 1) clients
clients_given given clients h = record {
  each = Every-map (IsClient given) (IsClient (given + 1)) (client_more given) clients h.each;
  names = h.names;
  sessions = h.sessions;
}

-- and that of a new client
pub clients_more : (given : ℕ) (clients : List Client) (c : Client) → AreClients given clients → Every (λ (x : Client). x.name ≢ c.name) clients → c.session ≡ given + 1 → c.seat ≡ None → AreClients (given + 1) (clients ++ c ∷ [])
clients_more given clients c h unknown is out = record {
  each = Every-snoc (IsClient (given + 1)) clients c (clients_given given clients h).each (record { within = (omega (arith, is), omega (arith, is)); own = subst (λ (o : Option Seat). IfSome o (λ (s : Seat). s.session ≡ c.session)) (sym out) tt });
  names = EachPair-snoc (λ (x y : Client). x.name ≢ y.name) clients c h.names unknown;
  sessions = EachPair-snoc (λ (x y : Client). x.session < y.session) clients c h.sessions (Every-map (IsClient given) (λ (x : Client). x.session < c.session) (λ x own. omega (arith, own.within.1, is)) clients h.each);
}

pub no_clients : (given : ℕ) (clients : List Client) → clients ≡ [] → AreClients given clients
no_clients given clients none = subst (AreClients given) (sym none) (record { each = tt; names = tt; sessions = tt })

-- the session of a parked seat is one that was given out
pub parked_within : (given : ℕ) (clients : List Client) (k : ℕ) (c : Client) (seat : Seat) → AreClients given clients → slice_get clients k ≡ Some c → c.seat ≡ Some seat → (0 < seat.session) × (seat.session ≤ given)
parked_within given clients k c seat h is parked =
    let here : IsClient given c = Every-at (IsClient given) clients k c h.each is in
    let own : seat.session ≡ c.session = subst (λ (o : Option Seat). IfSome o (λ (s : Seat). s.session ≡ c.session)) parked here.own in
    (omega (arith, own, here.within), omega (arith, own, here.within))

-- and so is that of a client
pub client_within : (given : ℕ) (clients : List Client) (k : ℕ) (c : Client) → AreClients given clients → slice_get clients k ≡ Some c → (0 < c.session) × (c.session ≤ given)
client_within given clients k c h is =
    let here : IsClient given c = Every-at (IsClient given) clients k c h.each is in
    here.within

with_none : (c : Client) → c.seat ≡ None → (record c { seat = None }) ≡ c
with_none c out = λ i. record c { seat = sym out i }

-- a client whose seat is out is as it was
pub still_out : (clients : List Client) (k : ℕ) (x y c : Client) → k < length clients → x ≡ slice_index_or clients k x → y ≡ record x { seat = None } → x.seat ≡ None → slice_get clients k ≡ Some c
    → (c.seat ≡ None) × (slice_set clients k y ≡ clients)
still_out clients k x y c within is made out there = (
  ap (λ (z : Client). z.seat) (same_Some c x (sym there ∙ slice_get-get_or clients k x within ∙ ap Some (sym is))) ∙ out,
  ap (slice_set clients k) (made ∙ with_none x out ∙ is) ∙ set-get_or clients k x,
)

-- Clients that come, and calls of them that are remembered.
use Rattle.std.proofs.Common.{◌≡◌, ℕ, List, ◌∷◌, ◌++◌, Bool, false}
use Rattle.std.specs.Prelude.{Option, Result, Ok, Err}
use Rattle.apply_core.specs.declared.reply.Reply.{Reply}
use Rattle.live_core.specs.declared.front.NamedClient.{NamedClient}
use Rattle.live_core.specs.declared.front.KeptCall.{KeptCall}
use Rattle.guest_core.specs.declared.guest.Guest.{Guest}
use Rattle.guest_core.specs.declared.keys.AskFault.{AskFault}
use Rattle.guest_core.specs.declared.kept.Asked.{Asked}
use Rattle.guest_core.specs.Guests.{Guests, IsNamed, HasNoName, with_keys}
use Rattle.guest_core.specs.Keys.{Keys, Ends}
use Rattle.guest_core.specs.Steps.{asked, Does}
use Rattle.recover_core.specs.Clients.{Remembers, Opens, OpenAll}

pub refused_none : {fault : AskFault} → ◌≡◌ {A = Result (Unit {0}) AskFault} (Err fault) (Ok tt) → ⊥
refused_none is = cc

-- a call was asked, and has ended so
pub remembers : (old mid new : Guests) (session : ℕ) (call : Asked) (told : ℕ) (reply : Option Reply) (so : Bool) → Does old (asked session call (Ok tt)) mid →
    ((p : ℕ) (g : Guest) → IsNamed mid session p g → (keys : Keys) × Ends g.keys told reply so keys × (new ≡ with_keys mid p g keys)) →
    (HasNoName mid session → (so ≡ false) × (new ≡ mid)) → Remembers old session call told reply new
remembers old mid new session call told reply so asks named nameless = record {
  mid = mid;
  so = so;
  asked_so = asks;
  ended_so = record { named = named; nameless = λ none. (nameless none).1 };
}

-- a client more has come
pub one_more : (now : ℕ) (old mid : Guests) (c : NamedClient) (clients : List NamedClient) (mine others kept : List KeptCall) → kept ≡ mine ++ others → Opens now old c mine mid →
    (new : Guests) → OpenAll now mid clients others new → OpenAll now old (c ∷ clients) kept new
one_more now old mid c clients mine others kept cut opens new rest = (mine, others, mid, cut, opens, rest)

-- What lines make of the clients of an object.
use Rattle.std.specs.Prelude.{◌≡◌, ℕ, ◌+◌, ◌≤◌, Bool, List, [], ◌∷◌, ◌++◌, length, Option, Some, None, Ok}
use Rattle.apply_core.specs.declared.reply.Reply.{Reply}
use Rattle.live_core.specs.declared.front.CarriedCall.{CarriedCall}
use Rattle.live_core.specs.declared.front.NamedClient.{NamedClient}
use Rattle.live_core.specs.declared.front.KeptCall.{KeptCall}
use Rattle.live_core.specs.declared.front.Answer.{Answer}
use Rattle.live_core.specs.declared.front.Answer.TheVariants.{Replied, Cancelled}
use Rattle.guest_core.specs.declared.guest.Guest.{Guest}
use Rattle.guest_core.specs.declared.kept.Asked.{Asked}
use Rattle.guest_core.specs.Guests.{Guests, IsNamed, IsUnknown, guest_of}
use Rattle.guest_core.specs.Keys.{asks}
use Rattle.guest_core.specs.Steps.{asked, ended, admitted, Does}
use Rattle.audit_core.specs.Steps.{Step, ran, cancelled, named}
use Rattle.recover_core.specs.Carried.{told_by}

-- A call of a session was asked, and ended so. Of a session without a name nothing is remembered: that is what each of
-- the two steps says.
pub record Remembers (old : Guests) (session : ℕ) (call : Asked) (told : ℕ) (reply : Option Reply) (new : Guests) : Type 0 where
  pub mid : Guests
  pub so : Bool
  pub asked_so : Does old (asked session call (Ok tt)) mid
  pub ended_so : Does mid (ended session told reply so) new

-- the client of a session has a name, and this is the key of its next call
pub record HasNext (v : Guests) (session key : ℕ) : Type 0 where
  pub place : ℕ
  pub guest : Guest
  pub by : IsNamed v session place guest
  pub next : guest.keys.next ≡ key

-- what a kept call replied
abbrev pub reply_in : Answer → Option Reply
reply_in (Replied reply) = Some reply
reply_in Cancelled = None

-- the kept calls of a client, each with the key of its next call
abbrev pub Recalls : ℕ → Guests → List KeptCall → Guests → Type 0
Recalls session old [] new = new ≡ old
Recalls session old (k ∷ kept) new =
    (k.session ≡ session) × HasNext old session k.key × ((mid : Guests)
    × Remembers old session (asks k.operation k.arguments) k.told (reply_in k.answer) mid × Recalls session mid kept new)

-- A client of a new name comes, away since this second, with its kept calls, 16 at most; the last of them has the last
-- key that it has used.
pub record Opens (now : ℕ) (old : Guests) (c : NamedClient) (kept : List KeptCall) (new : Guests) : Type 0 where
  pub first : ℕ
  pub mid : Guests
  pub unknown : IsUnknown old c.name
  pub comes : Does old (admitted (guest_of c.name c.session (Some now) first) (Ok tt)) mid
  pub recalls : Recalls c.session mid kept new
  pub used : first + length kept ≡ c.keys + 1
  pub few : length kept ≤ 16

-- the clients of a front, each with its kept calls, which stand in the order of the clients
abbrev pub OpenAll : ℕ → Guests → List NamedClient → List KeptCall → Guests → Type 0
OpenAll now old [] kept new = (kept ≡ []) × (new ≡ old)
OpenAll now old (c ∷ clients) kept new =
    (mine : List KeptCall) × (more : List KeptCall) × (mid : Guests) × (kept ≡ mine ++ more)
    × Opens now old c mine mid × OpenAll now mid clients more new

-- What a step of an epoch makes of the clients: a call that ended or was cancelled is remembered with the number that its
-- client was told; a session that got a name has it, its client is away since this second, and its next key is 1.
abbrev pub Makes : ℕ → List CarriedCall → ℕ → Guests → Step → Guests → Type 0
Makes base carried now old (ran c reply) new =
    Remembers old c.session (asks c.operation c.arguments) (told_by base carried c.number) (Some reply) new
Makes base carried now old (cancelled c) new =
    Remembers old c.session (asks c.operation c.arguments) (told_by base carried c.number) None new
Makes base carried now old (named session name) new =
    Does old (admitted (guest_of name session (Some now) 1) (Ok tt)) new

-- what steps make of them, the newest first
abbrev pub MakeAll : ℕ → List CarriedCall → ℕ → Guests → List Step → Guests → Type 0
MakeAll base carried now old [] new = new ≡ old
MakeAll base carried now old (step ∷ steps) new =
    (mid : Guests) × MakeAll base carried now old steps mid × Makes base carried now mid step new

-- What an epoch begins with.
use Rattle.std.specs.Prelude.{◌≡◌, ℕ, ◌<◌, ◌≤◌, ◌^◌, List, [], ◌∷◌, Some, length, map}
use Rattle.path_tree.specs.Known.{place_of}
use Rattle.path_tree.specs.Identifier.{IsName}
use Rattle.value_core.specs.declared.datum.Datum.{Datum}
use Rattle.value_core.specs.Datum.{IsDatum, elem_of}
use Rattle.value_core.specs.Contents.{Contents, IsContents, kind_of}
use Rattle.decl_core.specs.ObjectForm.{ObjectForm}
use Rattle.word_core.specs.Events.{body_at}
use Rattle.word_core.specs.Text.{operation_name}
use Rattle.word_core.specs.TraceLaws.{IsReply}
use Rattle.live_core.specs.declared.past.PastRun.{PastRun}
use Rattle.live_core.specs.declared.past.PastRun.TheVariants.{Calls, Begins, Ends}
use Rattle.live_core.specs.declared.front.Front.{Front}
use Rattle.live_core.specs.declared.front.CarriedCall.{CarriedCall}
use Rattle.live_core.specs.declared.front.NamedClient.{NamedClient}
use Rattle.live_core.specs.declared.front.KeptCall.{KeptCall}
use Rattle.live_core.specs.declared.front.Answer.{Answer}
use Rattle.live_core.specs.declared.front.Answer.TheVariants.{Replied, Cancelled}

-- a front without where it lies in memory
pub record Opening : Type 0 where
  pub epoch : ℕ
  pub source : ℕ
  pub parts : List Contents
  pub past : List PastRun
  pub base : ℕ
  pub carried : List CarriedCall
  pub clients : List NamedClient
  pub kept : List KeptCall

abbrev pub opening_of : Front → Opening
opening_of f =
    record {
      epoch = f.epoch;
      source = f.source;
      parts = f.parts.items;
      past = f.past.items;
      base = f.base;
      carried = f.carried.items;
      clients = f.clients.items;
      kept = f.kept.items;
    }

-- it holds of each item
abbrev pub Every : {X : Type 0} → (X → Type 0) → List X → Type 0
Every P [] = Unit {0}
Every P (x ∷ xs) = P x × Every P xs

-- at this place stands the first operation of its name
pub record IsOperation (o : ObjectForm) (op : ℕ) : Type 0 where
  pub there : op < length o.operations
  pub first : place_of (map (λ f. f.name) o.operations) (operation_name o op) ≡ Some op

-- a call of an operation with arguments that fit it
pub record IsCall (o : ObjectForm) (op : ℕ) (arguments : List Datum) : Type 0 where
  pub operation : IsOperation o op
  pub fit : map elem_of arguments ≡ (body_at o op).params
  pub each : Every IsDatum arguments

abbrev pub IsSession : ℕ → Type 0
IsSession session = (1 ≤ session) × (session ≤ 65535)

abbrev pub IsLong : ℕ → Type 0
IsLong n = n < 2 ^ 64

-- from 1 on, of 32 bits
abbrev pub IsCount : ℕ → Type 0
IsCount n = (1 ≤ n) × (n < 2 ^ 32)

-- from 1 on, of 64 bits
abbrev pub IsKey : ℕ → Type 0
IsKey n = (1 ≤ n) × IsLong n

-- what a line of a past tells
abbrev pub IsRun : ObjectForm → PastRun → Type 0
IsRun o (Calls op count) = IsOperation o op × ((1 ≤ count) × (count ≤ 65536))
IsRun o (Begins op) = IsOperation o op
IsRun o (Ends op) = IsOperation o op

pub record IsCarried (o : ObjectForm) (c : CarriedCall) : Type 0 where
  pub number : IsCount c.number
  pub told : IsLong c.told
  pub session : IsSession c.session
  pub call : IsCall o c.operation c.arguments

pub record IsClient (c : NamedClient) : Type 0 where
  pub session : IsSession c.session
  pub name : IsName c.name
  pub keys : IsLong c.keys

abbrev pub IsAnswer : Answer → Type 0
IsAnswer (Replied reply) = IsReply reply
IsAnswer Cancelled = Unit {0}

pub record IsKept (o : ObjectForm) (k : KeptCall) : Type 0 where
  pub session : IsSession k.session
  pub key : IsKey k.key
  pub told : IsLong k.told
  pub answer : IsAnswer k.answer
  pub call : IsCall o k.operation k.arguments

-- each line says something by itself
pub record HasRows (o : ObjectForm) (f : Opening) : Type 0 where
  pub epoch : (1 ≤ f.epoch) × IsLong f.epoch
  pub source : IsLong f.source
  pub kinds : map kind_of f.parts ≡ map (λ p. p.1) o.parts
  pub contents : Every IsContents f.parts
  pub past : Every (IsRun o) f.past
  pub base : IsLong f.base
  pub carried : Every (IsCarried o) f.carried
  pub clients : Every IsClient f.clients
  pub kept : Every (IsKept o) f.kept

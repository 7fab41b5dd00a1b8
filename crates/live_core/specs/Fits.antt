-- What the types of a program say of an object and its clients: numbers are in their bits, names are names, and values, arguments
-- and replies can be written.
use Rattle.std.specs.Prelude.{ℕ, ◌<◌, ◌≤◌, All, Option, Some, None}
use Rattle.path_tree.specs.Identifier.{IsName}
use Rattle.value_core.specs.Datum.{IsDatum}
use Rattle.apply_core.specs.declared.reply.Reply.{Reply}
use Rattle.live_core.specs.declared.past.PastRun.{PastRun}
use Rattle.live_core.specs.declared.past.PastRun.TheVariants.{Calls, Begins, Ends}
use Rattle.live_core.specs.Front.{Every, IsLong}
use Rattle.guest_core.specs.declared.guest.Guest.{Guest}
use Rattle.guest_core.specs.declared.kept.RememberedCall.{RememberedCall}
use Rattle.live_core.specs.Calls.{RepliesDatum}

-- a run of a past is of one of so many operations, and whole calls of it are 1 to 65,536
abbrev pub RunFits : ℕ → PastRun → Type 0
RunFits operations (Calls op count) = (op < operations) × ((1 ≤ count) × (count ≤ 65536))
RunFits operations (Begins op) = op < operations
RunFits operations (Ends op) = op < operations

abbrev pub ReplyFits : Option Reply → Type 0
ReplyFits None = Unit {0}
ReplyFits (Some reply) = RepliesDatum reply

-- a call that is remembered
pub record CallFits (k : RememberedCall) : Type 0 where
  pub told : IsLong k.told
  pub arguments : All IsDatum k.asked.arguments
  pub reply : ReplyFits k.reply

-- a client, and each call of it that is remembered
pub record GuestFits (g : Guest) : Type 0 where
  pub name : IsName g.name
  pub next : IsLong g.keys.next
  pub kept : Every CallFits g.keys.kept

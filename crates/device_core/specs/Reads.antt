-- What reads are kept.
use Rattle.std.specs.Prelude.{◌≡◌, ℕ, List, Some, slice_get}
use Rattle.device_core.specs.declared.hand.Stamp.{Stamp}
use Rattle.device_core.specs.declared.reads.KeptRead.{KeptRead}

-- these bytes are kept of a read of this stamp at this place
pub record IsAmong (reads : List KeptRead) (stamp : Stamp) (at : ℕ) (bytes : List ℕ) : Type 0 where
  pub place : ℕ
  pub kept : KeptRead
  pub there : slice_get reads place ≡ Some kept
  pub of : kept.of ≡ Some (stamp, at)
  pub same : kept.bytes.items ≡ bytes

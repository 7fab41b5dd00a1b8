-- What is seen of keys, without where they lie in memory.
use Rattle.std.specs.Prelude.{◌≢◌, ◌<◌, ◌≤◌, length, None, vec_capacity}
use Rattle.value_core.specs.Limits.{most_text_bytes}
use Rattle.guest_core.specs.declared.keys.Keys.TheInside.{Inside}
use Rattle.guest_core.specs.Keys.{Keys}

abbrev pub keys_of : Inside → Keys
keys_of k = record { next = k.next; kept = k.kept.items; asked = k.asked }

-- At most 16 calls are kept, all with keys from 1. There is memory for one call more, and for the text of a reply where
-- a call has not ended; and then its key is a number of 64 bits.
pub record CanRemember (k : Inside) : Type 0 where
  pub few : length k.kept.items ≤ 16
  pub counted : length k.kept.items < k.next
  pub place : 16 ≤ vec_capacity k.kept
  pub text : k.asked ≢ None → most_text_bytes ≤ vec_capacity k.room
  pub key : k.asked ≢ None → k.next < 18446744073709551615

-- Clients that are found by their names, as they lie in memory.
use Rattle.std.specs.Prelude.{◌≡◌, ℕ, ◌≤◌, List, length, slice_get, Some, bytes_eq}
use Rattle.indexmap.specs.IndexMap.{get}
use Rattle.guest_core.specs.declared.guest.Guest.{Guest}
use Rattle.guest_core.specs.declared.roll.Roll.TheInside.{Inside}

-- each client is found by its name, and nobody by another name
pub record AreFound (r : Inside) : Type 0 where
  pub found : (name : List ℕ) (p : ℕ) → get bytes_eq r.places name ≡ Some p →
      (g : Guest) × (slice_get r.guests.items p ≡ Some g) × (g.name ≡ name)
  pub known : (p : ℕ) (g : Guest) → slice_get r.guests.items p ≡ Some g → get bytes_eq r.places g.name ≡ Some p
  pub few : length r.guests.items ≤ 65535

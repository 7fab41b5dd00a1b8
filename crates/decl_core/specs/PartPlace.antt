-- A part's number, and how it is kept.
use Rattle.std.specs.Prelude.{◌≡◌, ℕ, ◌<◌, refl}
use Rattle.decl_core.specs.declared.id.PartId.TheInside.{Inside}

abbrev pub place_of : Inside → ℕ
place_of a = a.place

abbrev pub id_of : ℕ → Inside
id_of n = record { place = n }

pub id_again : (a : Inside) → a.place < 16 → id_of (place_of a) ≡ a
id_again a few = refl

-- What the parts of objects opened with.
use Rattle.std.specs.Prelude.{List, [], ◌∷◌}
use Rattle.decl_core.specs.declared.object.Object.{Object}
use Rattle.device_core.specs.Device.{Assignment}
use Rattle.device_core.specs.Papers.{Papers}
use Rattle.page_core.specs.Opened.{AreLoaded}
use Rattle.keep_core.specs.declared.opening.ObjectOpening.{ObjectOpening}
use Rattle.keep_core.specs.Opening.{IsSealed, values_of}

-- object by object: the parts of each began with what the shelf has under their names
abbrev pub AreLoadedAll : Papers → List Object → List ObjectOpening → Type 0
AreLoadedAll papers [] [] = Unit {0}
AreLoadedAll papers (o ∷ objects) (opening ∷ openings) =
    AreLoaded papers o.name o.parts.items (values_of opening) × AreLoadedAll papers objects openings
AreLoadedAll papers [] (opening ∷ openings) = ⊥
AreLoadedAll papers (o ∷ objects) [] = ⊥

-- object by object: the pins were sealed with the values
abbrev pub ArePinnedAll : (Assignment → Type 0) → List Object → List ObjectOpening → Type 0
ArePinnedAll agrees [] [] = Unit {0}
ArePinnedAll agrees (o ∷ objects) (opening ∷ openings) =
    IsSealed agrees o opening × ArePinnedAll agrees objects openings
ArePinnedAll agrees [] (opening ∷ openings) = ⊥
ArePinnedAll agrees (o ∷ objects) [] = ⊥

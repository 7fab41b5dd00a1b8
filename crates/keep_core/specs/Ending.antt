-- What a shelf holds once the parts of objects are saved.
use Rattle.std.specs.Prelude.{◌≡◌, ℕ, List, [], ◌∷◌}
use Rattle.device_core.specs.Papers.{Papers, part_key}
use Rattle.value_core.specs.Contents.{Contents}
use Rattle.decl_core.specs.declared.object.Part.{Part}
use Rattle.live_core.specs.Scene.{Scene}
use Rattle.keep_core.specs.Saved.{IsSaved, MayBeSaved}

-- each of these parts of the object of this name is saved, in order, with the value at its place; all else is as before
abbrev pub AreSaved : List ℕ → List Part → List Contents → Papers → Papers → Type 0
AreSaved object [] values before papers = papers ≡ before
AreSaved object (part ∷ parts) (value ∷ values) before papers = (between : Papers)
    × IsSaved before (part_key object part.name) value between × AreSaved object parts values between papers
AreSaved object (part ∷ parts) [] before papers = ⊥

-- each is, or is as it was before; a part without a value is as it was
abbrev pub MayAllBeSaved : List ℕ → List Part → List Contents → Papers → Papers → Type 0
MayAllBeSaved object [] values before papers = papers ≡ before
MayAllBeSaved object (part ∷ parts) (value ∷ values) before papers = (between : Papers)
    × MayBeSaved before (part_key object part.name) value between × MayAllBeSaved object parts values between papers
MayAllBeSaved object (part ∷ parts) [] before papers = papers ≡ before

-- all parts of these objects are saved, object by object, with the values that they have now
abbrev pub ObjectsAreSaved : List Scene → Papers → Papers → Type 0
ObjectsAreSaved [] before papers = papers ≡ before
ObjectsAreSaved (s ∷ rest) before papers = (between : Papers)
    × AreSaved s.hall.object.name s.hall.object.parts.items s.hall.contents before between
    × ObjectsAreSaved rest between papers

-- each part of them is, or is as it was before
abbrev pub ObjectsMayBeSaved : List Scene → Papers → Papers → Type 0
ObjectsMayBeSaved [] before papers = papers ≡ before
ObjectsMayBeSaved (s ∷ rest) before papers = (between : Papers)
    × MayAllBeSaved s.hall.object.name s.hall.object.parts.items s.hall.contents before between
    × ObjectsMayBeSaved rest between papers

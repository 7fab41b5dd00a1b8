-- In what the parts of an object are others than before.
use Rattle.std.specs.Prelude.{◌≡◌, List, map}
use Rattle.recover_core.specs.declared.changed.DeclaredPart.{DeclaredPart}

-- one by one they have the same names, and hold the same
abbrev pub AreSameParts : List DeclaredPart → List DeclaredPart → Type 0
AreSameParts before now =
    (map (λ part. part.name.items) before ≡ map (λ part. part.name.items) now) × (map (λ part. part.kind) before ≡ map (λ part. part.kind) now)

-- Values of the kinds of an object's parts are its opening.
use Rattle.std.proofs.Common.{◌≡◌, List, [], ◌∷◌, All, refl, ap, ◌∙◌, map}
use Rattle.value_core.specs.Contents.{Contents, IsContents, kind_of}
use Rattle.decl_core.specs.declared.object.Object.{Object}
use Rattle.decl_core.specs.declared.object.Part.{Part}
use Rattle.decl_core.specs.ObjectMap.{object_of, parts_of}
use Rattle.board_core.specs.Sound.{kinds_of}
use Rattle.audit_core.specs.Laws.{AreOpening}

-- the opening values of an object are its opening, where they are of its parts' kinds
pub are_opening : (o : Object) (opening : List Contents) → All IsContents opening → map kind_of opening ≡ kinds_of o → AreOpening (object_of o) opening
are_opening o opening contents kinds = record { kinds = kinds ∙ each_kind o.parts.items; contents = contents }
  where
    each_kind : (parts : List Part) → map (λ (p : Part). p.kind) parts ≡ map (λ p. p.1) (parts_of parts)
    each_kind [] = refl
    each_kind (p ∷ parts) = ap (λ ks. p.kind ∷ ks) (each_kind parts)

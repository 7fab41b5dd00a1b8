-- Lines that name an object.
use Rattle.std.proofs.Common.{◌≡◌, ◌↔◌, ℕ, List, [], ◌∷◌, Bool, ◌∙◌, ap, codes}
use Rattle.std.specs.Prelude.{IsTrue}
use Rattle.std.specs.Str.{str_to_ascii_lowercase}
use Rattle.decl_core.specs.declared.object.Object.{Object}
use Rattle.word_core.specs.Words.{bare}
use Rattle.word_core.proofs.Cutting.{words_unique}
use Rattle.word_core.specs.First.{IsObjectLine}
use Rattle.world_core.specs.Writes.{NamesObject}

second_same : (v a b : List ℕ) → (bare v ∷ bare a ∷ []) ≡ (bare v ∷ bare b ∷ []) → a ≡ b
second_same v a b same = cc

named_once : (line a b : List ℕ) → IsObjectLine line a → IsObjectLine line b → a ≡ b
named_once line a b one other = second_same (codes "object") a b (words_unique line (bare (codes "object") ∷ bare a ∷ []) (bare (codes "object") ∷ bare b ∷ []) one.0 other.0)

pub names_told : (o : Object) (line name : List ℕ) (is : Bool) → IsObjectLine line name → (IsTrue is ↔ (str_to_ascii_lowercase name ≡ o.name)) → IsTrue is ↔ NamesObject o line
names_told o line name is stands told =
    (λ h. record { name = name; stands = stands; same = told.0 h }, λ p. told.1 (ap str_to_ascii_lowercase (named_once line name p.name stands p.stands) ∙ p.same))

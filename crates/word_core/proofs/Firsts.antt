-- What the first word of a line leaves, and lines that name an object.
use Rattle.std.proofs.Common.{◌≡◌, ℕ, ◌==◌, length, true, false, List, [], ◌∷◌, sym, ◌∙◌, ap, subst}
use Rattle.std.specs.Prelude.{codes}
use Rattle.std.specs.Str.{bytes_eq}
use Rattle.std.proofs.lemmas.Slice.Eq.{bytes_eq-Decides}
use Rattle.path_tree.specs.Identifier.{IsIdentifier}
use Rattle.value_core.specs.Spaces.{drop_spaces}
use Rattle.word_core.specs.Words.{Word, bare, quoted, IsFirst, AreWords}
use Rattle.word_core.proofs.Cutting.{first_once}
use Rattle.word_core.specs.First.{IsObjectLine}

bare_same : (a b : List ℕ) → bare a ≡ bare b → a ≡ b
bare_same a b same = cc

not_bare : (a b : List ℕ) → quoted a ≡ bare b → ⊥
not_bare a b same = cc

-- a line begins with a text: its words do not begin with a bare one
pub begins_quoted : (line text rest word : List ℕ) (more : List Word) → IsFirst line (quoted text) rest → AreWords line (bare word ∷ more) → ⊥
begins_quoted line text rest word more first are = not_bare text word (first_once line (quoted text) (bare word) rest are.0 first are.1).0

-- a line begins with this word: so do its words, and the others are those of what stands behind
pub begins_bare : (line verb rest word : List ℕ) (more : List Word) → IsFirst line (bare verb) rest → AreWords line (bare word ∷ more) → (verb ≡ word) × AreWords rest more
begins_bare line verb rest word more first are =
    let same = first_once line (bare verb) (bare word) rest are.0 first are.1 in
    (bare_same verb word same.0, subst (λ r. AreWords r more) (sym same.1) are.2)

left_over : (left : List ℕ) → (length left == 0) ≡ false → left ≡ [] → ⊥
left_over left some none = let is : (length left == 0) ≡ true = ap (λ (bytes : List ℕ). length bytes == 0) none in cc

-- no bare word is the only one where none stands first
pub no_only : (line : List ℕ) → ((word : List ℕ) (more : List Word) → AreWords line (bare word ∷ more) → ⊥) → (word : List ℕ) → AreWords line (bare word ∷ []) → ⊥
no_only line none word are = none word [] are

-- behind the first word something is left: it is not the only one
pub not_only : (line verb rest left : List ℕ) → IsFirst line (bare verb) rest → left ≡ drop_spaces rest → (length left == 0) ≡ false → (word : List ℕ) → AreWords line (bare word ∷ []) → ⊥
not_only line verb rest left first is some word are = left_over left some (is ∙ (begins_bare line verb rest word [] first are).1)

-- no bare word stands first
pub no_verb : (line : List ℕ) → ((word : List ℕ) (more : List Word) → AreWords line (bare word ∷ more) → ⊥) → (name : List ℕ) → IsObjectLine line name → ⊥
no_verb line none name is = none (codes "object") (bare name ∷ []) is.0

-- a line of another first word
pub other_verb : (line verb rest : List ℕ) → IsFirst line (bare verb) rest → bytes_eq verb (codes "object") ≡ false → (name : List ℕ) → IsObjectLine line name → ⊥
other_verb line verb rest first other name is =
    let same : bytes_eq verb (codes "object") ≡ true = (bytes_eq-Decides verb (codes "object")).1 (begins_bare line verb rest (codes "object") (bare name ∷ []) first is.0).0 in
    cc

-- no one word stands behind the first
pub no_name : (line verb rest : List ℕ) → IsFirst line (bare verb) rest → ((word : List ℕ) → AreWords rest (bare word ∷ []) → ⊥) → (name : List ℕ) → IsObjectLine line name → ⊥
no_name line verb rest first none name is = none name (begins_bare line verb rest (codes "object") (bare name ∷ []) first is.0).1

-- what stands behind the first is no identifier
pub wrong_name : (line verb rest word : List ℕ) → IsFirst line (bare verb) rest → AreWords rest (bare word ∷ []) → (IsIdentifier word → ⊥) → (name : List ℕ) → IsObjectLine line name → ⊥
wrong_name line verb rest word first one wrong name is =
    let behind = (begins_bare line verb rest (codes "object") (bare name ∷ []) first is.0).1 in
    let same = bare_same word name (first_once rest (bare word) (bare name) one.0 behind.0 one.1 behind.1).0 in
    wrong (subst IsIdentifier (sym same) is.1)

-- a line of the two words
pub object_named : (line verb rest name : List ℕ) → IsFirst line (bare verb) rest → bytes_eq verb (codes "object") ≡ true → AreWords rest (bare name ∷ []) → IsIdentifier name → IsObjectLine line name
object_named line verb rest name first same one is =
    let verb_is : verb ≡ codes "object" = (bytes_eq-Decides verb (codes "object")).0 same in
    ((rest, subst (λ v. IsFirst line (bare v) rest) verb_is first, one), is)

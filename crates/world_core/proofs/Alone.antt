-- Lines of one word.
use Rattle.std.proofs.Common.{◌≡◌, ◌∙◌, ◌↔◌, ℕ, List, [], ◌∷◌, Bool, true, false, sym, subst}
use Rattle.std.specs.Prelude.{IsTrue}
use Rattle.std.specs.Str.{bytes_eq}
use Rattle.std.proofs.lemmas.Slice.Eq.{bytes_eq-Decides}
use Rattle.word_core.specs.Words.{bare, AreWords}
use Rattle.word_core.proofs.Cutting.{words_unique}
use Rattle.world_core.specs.Tries.{IsAlone}

word_same : (a b : List ℕ) → (bare a ∷ []) ≡ (bare b ∷ []) → a ≡ b
word_same a b same = cc

-- a line of this word is one of that word where the two are the same
pub alone_is : (line found word : List ℕ) (is : Bool) → IsAlone found line → is ≡ bytes_eq found word → IsTrue is ↔ IsAlone word line
alone_is line found word is stands told = (
  λ (h : IsTrue is). subst (λ w. IsAlone w line) ((bytes_eq-Decides found word).0 (sym told ∙ h)) stands,
  λ p. told ∙ (bytes_eq-Decides found word).1 (word_same found word (words_unique line (bare found ∷ []) (bare word ∷ []) stands p)),
)

none_is : false ≡ true → ⊥
none_is e = cc

-- a line that is no word alone is not this one
pub not_alone : (line word : List ℕ) → ((other : List ℕ) → AreWords line (bare other ∷ []) → ⊥) → IsTrue false ↔ IsAlone word line
not_alone line word none = (λ e. absurd (none_is e), λ is. absurd (none word is))

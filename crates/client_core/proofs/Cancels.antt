-- What a line asks to cancel.
use Rattle.std.proofs.Common.{◌≡◌, ℕ, true, false, List, refl, sym, ap, ◌∙◌}
use Rattle.std.specs.Prelude.{Option, Some, None, option_map, IfSome, codes, if◌then◌else◌}
use Rattle.std.specs.Borrow.{Bor}
use Rattle.std.specs.Str.{bytes_eq}
use Rattle.word_core.specs.Words.{Word, bare, IsFirst, AreWords}
use Rattle.word_core.specs.Data.{◌>>=◌, bare_of, only_bare, long_of}
use Rattle.word_core.specs.Reads.{HasWords, Reads}
use Rattle.word_core.proofs.Reading.{behind}
use Rattle.client_core.specs.Numbers.{only_long, cancel_in}

same : (found : Option ℕ) → option_map (λ (n : ℕ). n) found ≡ found
same None = refl
same (Some n) = refl

all_words : (line : List ℕ) (found : Option ℕ) → HasWords line → IfSome found (λ n. HasWords line)
all_words line None has = tt
all_words line (Some n) has = has

-- no word stands alone, so none is a number
pub no_number : (line : List ℕ) → Reads only_bare (λ (b : Bor (List ℕ)). b.now) line None → Reads only_long (λ (n : ℕ). n) line None
no_number line reads = ((λ words are. ap (λ o. o >>= long_of) (reads.0 words are)), tt)

-- one does, which is this number or none
pub one_number : (line : List ℕ) (word : Bor (List ℕ)) (found : Option ℕ) → Reads only_bare (λ (b : Bor (List ℕ)). b.now) line (Some word) →
    found ≡ long_of word.now → Reads only_long (λ (n : ℕ). n) line found
one_number line word found reads is =
    ((λ words are. same found ∙ is ∙ ap (λ o. o >>= long_of) (reads.0 words are)), all_words line found reads.1)

-- no word stands bare at the front
pub no_cancel : (line : List ℕ) → ((words : List Word) → AreWords line words → bare_of words ≡ None) → Reads cancel_in (λ (n : ℕ). n) line None
no_cancel line none =
    ((λ words are. sym (ap (λ o. o >>= (λ first. if bytes_eq first.0 (codes "cancel") then only_long first.1 else None)) (none words are))), tt)

-- what stands behind the first word is read, where that is `cancel`
pub cancel_behind : (line verb rest : List ℕ) (found : Option ℕ) → IsFirst line (bare verb) rest → bytes_eq verb (codes "cancel") ≡ true →
    Reads only_long (λ (n : ℕ). n) rest found → Reads cancel_in (λ (n : ℕ). n) line found
cancel_behind line verb rest found first is reads =
    behind cancel_in only_long (λ (n : ℕ). n) line (bare verb) rest found (λ words. ap (λ b. if b then only_long words else None) is) first reads

-- and nothing where it is another
pub other_verb : (line verb rest : List ℕ) → IsFirst line (bare verb) rest → bytes_eq verb (codes "cancel") ≡ false →
    Reads cancel_in (λ (n : ℕ). n) line None
other_verb line verb rest first is =
    behind cancel_in (λ words. None) (λ (n : ℕ). n) line (bare verb) rest None (λ words. ap (λ b. if b then only_long words else None) is) first
    ((λ words are. refl), tt)

-- One line more of a kind.
use Rattle.std.proofs.Common.{◌≡◌, ℕ, ◌+◌, ◌<◌, List, [], ◌∷◌, ◌++◌, length, take, get_or, sym, ap, ◌∙◌, append_assoc}
use Rattle.std.proofs.lemmas.List.{take_more, append-nil}
use Rattle.word_core.specs.Words.{Word, bare, line_of}
use Rattle.word_core.specs.Text.{lines_of}
use Rattle.live_core.specs.Text.{rows}

rows_push : {X : Type 0} (verb : List ℕ) (words : X → List Word) (xs : List X) (x : X) → lines_of (rows verb words (xs ++ x ∷ [])) ≡ lines_of (rows verb words xs) ++ line_of (bare verb ∷ words x)
rows_push verb words [] x = append-nil (line_of (bare verb ∷ words x))
rows_push verb words (y ∷ xs) x =
    ap (λ t. line_of (bare verb ∷ words y) ++ t) (rows_push verb words xs x) ∙ sym (append_assoc (line_of (bare verb ∷ words y)) (lines_of (rows verb words xs)) (line_of (bare verb ∷ words x)))

pub rows_more : {X : Type 0} (verb : List ℕ) (words : X → List Word) (first before after : List ℕ) (all : List X) (i : ℕ) (d x : X) → i < length all → x ≡ get_or all i d → before ≡ first ++ lines_of (rows verb words (take i all))
    → after ≡ before ++ line_of (bare verb ∷ words x) → after ≡ first ++ lines_of (rows verb words (take (i + 1) all))
rows_more verb words first before after all i d x inside is was more =
    more ∙ ap (λ t. t ++ line_of (bare verb ∷ words x)) was ∙ append_assoc first (lines_of (rows verb words (take i all))) (line_of (bare verb ∷ words x))
    ∙ ap (λ t. first ++ t) (sym (rows_push verb words (take i all) x) ∙ ap (λ xs. lines_of (rows verb words xs)) (ap (λ y. take i all ++ y ∷ []) is ∙ sym (take_more all i d inside)))

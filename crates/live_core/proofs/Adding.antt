-- One line more of a kind.
use Rattle.std.proofs.Common.{◌≡◌, ℕ, ◌+◌, ◌<◌, List, [], ◌∷◌, ◌++◌, length, take, get_or, refl, sym, ap, ◌∙◌, append_assoc, subst}
use Rattle.std.specs.Prelude.{codes, decimal}
use Rattle.word_core.specs.Data.{session_word}
use Rattle.std.proofs.lemmas.List.{take_more, append-nil}
use Rattle.word_core.specs.Words.{Word, bare, line_of, word_text, behind_word, words_text}
use Rattle.word_core.proofs.Shown.{behind-append}
use Rattle.word_core.specs.Text.{lines_of}
use Rattle.live_core.specs.Text.{rows}
use Rattle.live_core.specs.declared.past.PastRun.{PastRun}
use Rattle.path_count.specs.declared.past.PastEvent.{PastEvent}
use Rattle.live_core.specs.Past.{events_in, events_of_run}

rows_push : {X : Type 0} (verb : List ℕ) (words : X → List Word) (xs : List X) (x : X) → lines_of (rows verb words (xs ++ x ∷ [])) ≡ lines_of (rows verb words xs) ++ line_of (bare verb ∷ words x)
rows_push verb words [] x = append-nil (line_of (bare verb ∷ words x))
rows_push verb words (y ∷ xs) x =
    ap (λ t. line_of (bare verb ∷ words y) ++ t) (rows_push verb words xs x) ∙ sym (append_assoc (line_of (bare verb ∷ words y)) (lines_of (rows verb words xs)) (line_of (bare verb ∷ words x)))

pub rows_more : {X : Type 0} (verb : List ℕ) (words : X → List Word) (first before after : List ℕ) (all : List X) (i : ℕ) (d x : X) → i < length all → x ≡ get_or all i d → before ≡ first ++ lines_of (rows verb words (take i all))
    → after ≡ before ++ line_of (bare verb ∷ words x) → after ≡ first ++ lines_of (rows verb words (take (i + 1) all))
rows_more verb words first before after all i d x inside is was more =
    more ∙ ap (λ t. t ++ line_of (bare verb ∷ words x)) was ∙ append_assoc first (lines_of (rows verb words (take i all))) (line_of (bare verb ∷ words x))
    ∙ ap (λ t. first ++ t) (sym (rows_push verb words (take i all) x) ∙ ap (λ xs. lines_of (rows verb words xs)) (ap (λ y. take i all ++ y ∷ []) is ∙ sym (take_more all i d inside)))

events_push : (runs : List PastRun) (run : PastRun) → events_in (runs ++ run ∷ []) ≡ events_in runs ++ events_in (run ∷ [])
events_push [] run = refl
events_push (r ∷ runs) run = ap (λ t. events_of_run r ++ t) (events_push runs run) ∙ sym (append_assoc (events_of_run r) (events_in runs) (events_in (run ∷ [])))

pub events_more : (before after : List PastEvent) (all : List PastRun) (i : ℕ) (d x : PastRun) → i < length all → x ≡ get_or all i d → before ≡ events_in (take i all) → after ≡ before ++ events_in (x ∷ []) → after ≡ events_in (take (i + 1) all)
events_more before after all i d x inside is was more =
    more ∙ ap (λ t. t ++ events_in (x ∷ [])) was ∙ sym (events_push (take i all) x) ∙ ap events_in (ap (λ y. take i all ++ y ∷ []) is ∙ sym (take_more all i d inside))

-- a line that was written in three pieces
pub in_three : (out one two three : List ℕ) (w : Word) (ws a b : List Word) → one ≡ out ++ words_text (w ∷ ws) → two ≡ one ++ behind_word a → three ≡ two ++ (behind_word b ++ 10 ∷ []) → three ≡ out ++ line_of (w ∷ (ws ++ (a ++ b)))
in_three out one two three w ws a b first second third =
    let x = word_text w in
    let p = behind_word ws in
    let q = behind_word a in
    let r = behind_word b ++ 10 ∷ [] in
    let parts : behind_word (ws ++ (a ++ b)) ≡ p ++ (q ++ behind_word b) = behind-append ws (a ++ b) ∙ ap (λ t. p ++ t) (behind-append a b) in
    third ∙ ap (λ t. t ++ r) second ∙ ap (λ t. (t ++ q) ++ r) first
    ∙ append_assoc (out ++ (x ++ p)) q r ∙ append_assoc out (x ++ p) (q ++ r) ∙ ap (λ t. out ++ t) (append_assoc x p (q ++ r))
    ∙ ap (λ t. out ++ (x ++ t)) (sym (append_assoc p (q ++ behind_word b) (10 ∷ []) ∙ ap (λ t. p ++ t) (append_assoc q (behind_word b) (10 ∷ []))))
    ∙ ap (λ t. out ++ (x ++ (t ++ 10 ∷ []))) (sym parts) ∙ ap (λ t. out ++ t) (sym (append_assoc x (behind_word (ws ++ (a ++ b))) (10 ∷ [])))

-- the line of a remembered call
pub kept_added : (out one two three : List ℕ) (session from key told : ℕ) (answer call : List Word) → from ≡ session → one ≡ out ++ words_text (bare (codes "kept") ∷ session_word from ∷ bare (decimal key) ∷ bare (decimal told) ∷ [])
    → two ≡ one ++ behind_word answer → three ≡ two ++ (behind_word call ++ 10 ∷ [])
    → three ≡ out ++ line_of (bare (codes "kept") ∷ session_word session ∷ bare (decimal key) ∷ bare (decimal told) ∷ (answer ++ call))
kept_added out one two three session from key told answer call same first second third =
    subst (λ n. three ≡ out ++ line_of (bare (codes "kept") ∷ session_word n ∷ bare (decimal key) ∷ bare (decimal told) ∷ (answer ++ call))) same
    (in_three out one two three (bare (codes "kept")) (session_word from ∷ bare (decimal key) ∷ bare (decimal told) ∷ []) answer call first second third)

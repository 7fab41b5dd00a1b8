-- The words of a line, from its front.
use Rattle.std.proofs.Common.{◌≡◌, ◌≢◌, ℕ, ◌<◌, Bool, true, false, List, [], ◌∷◌, ◌++◌, length, refl, sym, ap, ◌∙◌, arith, if◌then◌else◌}
use Rattle.std.specs.Prelude.{All, filter, nat_lt, slice_index_or}
use Rattle.std.specs.List.{slice_split}
use Rattle.std.proofs.lemmas.List.Splits.{slice_split_at, slice_split_none}
use Rattle.std.proofs.lemmas.Bool.Decides.{nat_tests}
use Rattle.std.proofs.lemmas.List.{append-nil}
use Rattle.value_core.specs.Spaces.{drop_spaces, NoSpace, EndsWord}
use Rattle.value_core.proofs.Spaces.{drop_spaces-first}
use Rattle.path_count.specs.Words.{is_space, words}

-- a space at the front is no word
words-space : (b : ℕ) (line : List ℕ) → is_space b ≡ true → words (b ∷ line) ≡ words line
words-space b line h = rw h refl

drop_step : (b : ℕ) (line : List ℕ) (p : Bool) → is_space b ≡ p → words (drop_spaces line) ≡ words line → words (if p then drop_spaces line else b ∷ line) ≡ words (b ∷ line)
drop_step b line true h same = same ∙ sym (words-space b line h)
drop_step b line false h same = refl

-- spaces before the first word are no words
words-drop_spaces : (line : List ℕ) → words (drop_spaces line) ≡ words line
words-drop_spaces [] = refl
words-drop_spaces (b ∷ line) = drop_step b line (is_space b) refl (words-drop_spaces line)

no_space : (b : ℕ) → b ≢ 32 → is_space b ≡ false
no_space b isnt = grind (arith, nat_tests)

clear_of : (word : List ℕ) → NoSpace word → All (λ b. is_space b ≡ false) word
clear_of word clear = λ k d inside. no_space (slice_index_or word k d) (clear k d inside)

-- a part with a byte is a word
kept : (word : List ℕ) (parts : List (List ℕ)) → 0 < length word → filter (λ part. nat_lt 0 (length part)) (word ∷ parts) ≡ word ∷ filter (λ part. nat_lt 0 (length part)) parts
kept word parts some = let h : nat_lt 0 (length word) ≡ true = grind (arith, nat_tests) in rw h refl

-- a word stands before a space
words-at : (word rest : List ℕ) → NoSpace word → 0 < length word → words (word ++ 32 ∷ rest) ≡ word ∷ words rest
words-at word rest clear some =
    ap (filter (λ part. nat_lt 0 (length part))) (slice_split_at is_space word 32 rest (clear_of word clear) refl) ∙ kept word (slice_split is_space rest) some

-- a word stands at the end of the line
words-last : (word : List ℕ) → NoSpace word → 0 < length word → words word ≡ word ∷ []
words-last word clear some =
    ap (filter (λ part. nat_lt 0 (length part))) (slice_split_none is_space word (clear_of word clear)) ∙ kept word [] some

-- a word and what stands behind it
words-first : (word rest : List ℕ) → NoSpace word → EndsWord rest → 0 < length word → words (word ++ rest) ≡ word ∷ words rest
words-first word [] clear ends some = ap words (append-nil word) ∙ words-last word clear some
words-first word (b ∷ rest) clear ends some =
    let space : is_space b ≡ true = grind (arith, nat_tests) in
    ap (λ x. words (word ++ x ∷ rest)) ends ∙ words-at word rest clear some ∙ ap (λ ws. word ∷ ws) (sym (words-space b rest space))

-- the first word of a line
pub next-word : (line dropped word rest : List ℕ) → dropped ≡ drop_spaces line → (length dropped ≡ 0 → ⊥) → NoSpace word → EndsWord rest → dropped ≡ word ++ rest → words line ≡ word ∷ words rest
next-word line dropped [] [] left some clear ends cut = absurd (some (ap length cut))
next-word line dropped [] (b ∷ rest) left some clear ends cut = absurd (drop_spaces-first line b rest (sym left ∙ cut) ends)
next-word line dropped (b ∷ word) rest left some clear ends cut = sym (words-drop_spaces line) ∙ ap words (sym left ∙ cut) ∙ words-first (b ∷ word) rest clear ends (omega arith)

-- a line of spaces has no word
pub next-none : (line dropped : List ℕ) → dropped ≡ drop_spaces line → length dropped ≡ 0 → words line ≡ []
next-none line [] left none = sym (words-drop_spaces line) ∙ ap words (sym left)
next-none line (b ∷ dropped) left none = absurd (omega arith)

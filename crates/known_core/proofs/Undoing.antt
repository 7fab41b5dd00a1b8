-- What is taken back of one change more.
use Rattle.std.proofs.Common.{◌≡◌, ℕ, ◌<◌, map, get_or, subst, List, [], ◌∷◌, ◌++◌, length, slice_set, refl, sym, ap, ◌∙◌, get_or-set_same, set-set}
use Rattle.std.proofs.lemmas.List.{set-get_or, length-map, nil_from_length}
use Rattle.value_core.specs.Contents.{Contents, kind_of}
use Rattle.value_core.specs.declared.undo.Undo.{Undo}
use Rattle.value_core.specs.Undo.{back}
use Rattle.known_core.specs.Log.{step_back, taken_back}

-- the newest change is taken back first
pub back_of_more : (log : List (ℕ × Undo)) (s : ℕ × Undo) (parts : List Contents) → taken_back (log ++ s ∷ []) parts ≡ taken_back log (step_back s parts)
back_of_more [] s parts = refl
back_of_more (r ∷ rest) s parts = ap (step_back r) (back_of_more rest s parts)

-- a part was changed, and what takes that back was noted
pub one_more : (log more : List (ℕ × Undo)) (parts : List Contents) (p q : ℕ) (value before : Contents) (u : Undo) → q ≡ p → p < length (map kind_of parts) → more ≡ log ++ (p, u) ∷ [] → back u value ≡ before → before ≡ get_or parts q before → taken_back more (slice_set parts q value) ≡ taken_back log parts
one_more log more parts p q value before u at there noted undone is =
    ap (λ k. taken_back more (slice_set parts k value)) at ∙ ap (λ l. taken_back l (slice_set parts p value)) noted ∙ back_of_more log (p, u) (slice_set parts p value) ∙ ap (taken_back log) (ap (λ v. slice_set (slice_set parts p value) p (back u v)) (get_or-set_same parts p value _ (subst (λ n. p < n) (length-map parts kind_of) there)) ∙ set-set parts p value (back u value) ∙ ap (slice_set parts p) (undone ∙ is ∙ ap (λ k. get_or parts k before) at) ∙ set-get_or parts p before)

-- the newest change was taken back
pub one_less : (log rest : List (ℕ × Undo)) (s : ℕ × Undo) (parts left whole : List Contents) → log ≡ rest ++ s ∷ [] → left ≡ step_back s parts → taken_back log parts ≡ whole → taken_back rest left ≡ whole
one_less log rest s parts left whole is done same =
    ap (taken_back rest) done ∙ sym (back_of_more rest s parts) ∙ ap (λ l. taken_back l parts) (sym is) ∙ same

-- nothing is left to take back
pub none_left : (log : List (ℕ × Undo)) (parts whole : List Contents) → length log ≡ 0 → taken_back log parts ≡ whole → parts ≡ whole
none_left log parts whole none same = ap (λ l. taken_back l parts) (sym (nil_from_length log none)) ∙ same

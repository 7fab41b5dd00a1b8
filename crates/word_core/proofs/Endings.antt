-- Words that say how a call ended.
use Rattle.std.proofs.Common.{◌≡◌, ℕ, Bool, true, false, List, [], ◌∷◌, refl, ap, ◌∙◌, subst, inl, inr, if◌then◌else◌}
use Rattle.std.specs.Prelude.{Option, Some, None, codes, ◌⊎◌}
use Rattle.std.specs.Str.{bytes_eq}
use Rattle.std.proofs.lemmas.Slice.Eq.{bytes_eq-Decides}
use Rattle.word_core.specs.Words.{Word, bare, quoted}
use Rattle.word_core.specs.Data.{◌>>=◌, datum_of, only_bare}
use Rattle.word_core.specs.Ending.{Ending, done, refused, failed, TellEnding, done_of, ended_by, ending_of}
use Rattle.word_core.specs.Laws.{EndingExact}

none_some : {A : Type 0} (x : A) → None ≡ Some x → ⊥
none_some x is = cc

choose : {A : Type 0} (p : Bool) (x y : Option A) (e : A) → (if p then x else y) ≡ Some e → ((p ≡ true) × (x ≡ Some e)) ⊎ ((p ≡ false) × (y ≡ Some e))
choose true x y e is = inl (refl, is)
choose false x y e is = inr (refl, is)

bound : {A B : Type 0} (one : Option A) (f : A → B) (e : B) → (one >>= λ x. Some (f x)) ≡ Some e → (x : A) × (one ≡ Some x) × (f x ≡ e)
bound None f e is = absurd (none_some e is)
bound (Some x) f e is = (x, refl, cc)

same : (v w : List ℕ) → bytes_eq v w ≡ true → v ≡ w
same v w is = (bytes_eq-Decides v w).0 is

-- one bare word
only_word : (words : List Word) (w : List ℕ) → only_bare words ≡ Some w → words ≡ bare w ∷ []
only_word [] w is = absurd (none_some w is)
only_word (quoted text ∷ more) w is = absurd (none_some w is)
only_word (bare b ∷ []) w is = let e : b ≡ w = cc in ap (λ x. bare x ∷ []) e
only_word (bare b ∷ other ∷ more) w is = absurd (none_some w is)

done_tells : (v : List ℕ) (words : List Word) (e : Ending) → v ≡ codes "done" → done_of words ≡ Some e → TellEnding e (bare v ∷ words)
done_tells v [] e verb is = let it : done None ≡ e = cc in subst (λ x. TellEnding x (bare v ∷ [])) it (ap (λ x. bare x ∷ []) verb)
done_tells v (word ∷ []) e verb is =
    let found = bound (datum_of word) (λ d. done (Some d)) e is in
    subst (λ x. TellEnding x (bare v ∷ word ∷ [])) found.2 (word, ap (λ x. bare x ∷ word ∷ []) verb, found.1)
done_tells v (word ∷ other ∷ more) e verb is = absurd (none_some e is)

refused_tells : (v : List ℕ) (words : List Word) (e : Ending) → v ≡ codes "refused" → (only_bare words >>= λ word. Some (refused word)) ≡ Some e → TellEnding e (bare v ∷ words)
refused_tells v words e verb is =
    let found = bound (only_bare words) refused e is in
    subst (λ x. TellEnding x (bare v ∷ words)) found.2 (ap (λ x. bare x ∷ words) verb ∙ ap (λ more. bare (codes "refused") ∷ more) (only_word words found.0 found.1))

failed_tells : (v : List ℕ) (words : List Word) (e : Ending) → v ≡ codes "failed" → (only_bare words >>= λ word. Some (failed word)) ≡ Some e → TellEnding e (bare v ∷ words)
failed_tells v words e verb is =
    let found = bound (only_bare words) failed e is in
    subst (λ x. TellEnding x (bare v ∷ words)) found.2 (ap (λ x. bare x ∷ words) verb ∙ ap (λ more. bare (codes "failed") ∷ more) (only_word words found.0 found.1))

verb_tells : (v : List ℕ) (words : List Word) (e : Ending) → ended_by v words ≡ Some e → TellEnding e (bare v ∷ words)
verb_tells v words e is = elim (choose (bytes_eq v (codes "done")) _ _ e is) [
  | inl found ↦ done_tells v words e (same v (codes "done") found.0) found.1
  | inr other ↦ elim (choose (bytes_eq v (codes "refused")) _ _ e other.1) [
    | inl found ↦ refused_tells v words e (same v (codes "refused") found.0) found.1
    | inr last ↦ elim (choose (bytes_eq v (codes "failed")) _ _ e last.1) [
      | inl found ↦ failed_tells v words e (same v (codes "failed") found.0) found.1
      | inr none ↦ absurd (none_some e none.1)
    ]
  ]
]

tells : (words : List Word) (e : Ending) → ending_of words ≡ Some e → TellEnding e words
tells [] e is = absurd (none_some e is)
tells (quoted text ∷ more) e is = absurd (none_some e is)
tells (bare v ∷ more) e is = verb_tells v more e is

read : (words : List Word) (e : Ending) → TellEnding e words → ending_of words ≡ Some e
read words (done None) is = rw is refl
read words (done (Some datum)) is = rw is.1 (rw is.2 refl)
read words (refused word) is = rw is refl
read words (failed word) is = rw is refl

pub ending_exact : EndingExact
ending_exact words e = (tells words e, read words e)

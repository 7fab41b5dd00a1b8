-- The numbers of calls that lines told of.
use Rattle.std.proofs.Common.{◌≡◌, ◌≢◌, ℕ, inl, inr, List, [], ◌∷◌, refl, sym, ap, ◌∙◌, subst, Bool, true, false, max}
use Rattle.std.specs.Prelude.{slice_index_or, ◌↔◌, IsTrue, not}
use Rattle.std.proofs.lemmas.Bool.{cases_eq, false≢true}
use Rattle.audit_core.specs.Steps.{Step, ran, cancelled, named, IsUnused}
use Rattle.audit_core.specs.Numbers.{AreNumbers, HasNumber, greatest_in}

unused_with : (number n : ℕ) (step : Step) (steps : List Step) → HasNumber number step → n ≢ number → IsUnused n steps → IsUnused n (step ∷ steps)
unused_with number n (ran c reply) steps has other unused = ((λ e. other (sym e ∙ has)), unused)
unused_with number n (cancelled c) steps has other unused = ((λ e. other (sym e ∙ has)), unused)
unused_with number n (named session client) steps has other unused = absurd has

used_with : (number : ℕ) (step : Step) (steps : List Step) → HasNumber number step → IsUnused number (step ∷ steps) → ⊥
used_with number (ran c reply) steps has unused = unused.0 has
used_with number (cancelled c) steps has unused = unused.0 has
used_with number (named session client) steps has unused = has

unused_before : (number n : ℕ) (step : Step) (steps : List Step) → HasNumber number step → IsUnused n (step ∷ steps) → IsUnused n steps
unused_before number n (ran c reply) steps has unused = unused.1
unused_before number n (cancelled c) steps has unused = unused.1
unused_before number n (named session client) steps has unused = absurd has

greatest_with : (number : ℕ) (step : Step) (steps : List Step) → HasNumber number step → greatest_in (step ∷ steps) ≡ max number (greatest_in steps)
greatest_with number (ran c reply) steps has = ap (λ n. max n (greatest_in steps)) has
greatest_with number (cancelled c) steps has = ap (λ n. max n (greatest_in steps)) has
greatest_with number (named session client) steps has = absurd has

pub none_marked : (used : List Bool) (greatest : ℕ) → used ≡ [] → greatest ≡ 0 → AreNumbers used greatest []
none_marked used greatest none zero' = record {
  marked = λ n. subst (λ xs. (slice_index_or xs n false ≡ false) ↔ IsUnused n []) (sym none) ((λ h. tt), (λ h. refl));
  most = zero';
}

pub one_marked : (old new : List Bool) (greatest now number : ℕ) (steps : List Step) (step : Step) → slice_index_or new number false ≡ true → ((n : ℕ) → n ≢ number → slice_index_or new n false ≡ slice_index_or old n false)
    → now ≡ max number greatest → HasNumber number step → AreNumbers old greatest steps → AreNumbers new now (step ∷ steps)
one_marked old new greatest now number steps step here others is has are = record {
  marked = λ n. elim (cases_eq n number) [
    | inl same ↦ (
      (λ h. absurd (false≢true (sym h ∙ subst (λ m. slice_index_or new m false ≡ true) (sym same) here))),
      (λ unused. absurd (used_with number step steps has (subst (λ m. IsUnused m (step ∷ steps)) same unused))),
    )
    | inr other ↦ (
      (λ h. unused_with number n step steps has other ((are.marked n).0 (sym (others n other) ∙ h))),
      (λ unused. others n other ∙ (are.marked n).1 (unused_before number n step steps has unused)),
    )
  ];
  most = is ∙ ap (max number) are.most ∙ sym (greatest_with number step steps has);
}

not_false : (b : Bool) → IsTrue (not b) ↔ (b ≡ false)
not_false true = ((λ h. absurd (false≢true h)), (λ h. absurd (false≢true (sym h))))
not_false false = ((λ h. refl), (λ h. refl))

pub is_unmarked : (used : List Bool) (greatest number : ℕ) (b : Bool) → b ≡ slice_index_or used number false → (steps : List Step) → AreNumbers used greatest steps → (IsTrue (not b) ↔ IsUnused number steps)
is_unmarked used greatest number b is steps are =
    ((λ h. (are.marked number).0 (sym is ∙ (not_false b).0 h)), (λ unused. (not_false b).1 (is ∙ (are.marked number).1 unused)))

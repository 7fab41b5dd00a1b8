-- Names as they are read.
use Rattle.std.proofs.Common.{◌≡◌, ℕ, List, Bool, true, false, refl, sym, ap, ◌∙◌, inl, inr, if◌then◌else◌}
use Rattle.std.specs.Prelude.{Option, Some, None, MatchOption}
use Rattle.std.specs.Str.{str_to_ascii_lowercase}
use Rattle.path_tree.specs.Identifier.{IsIdentifier}
use Rattle.word_core.specs.Identifier.{is_identifier}
use Rattle.word_core.proofs.Identifiers.{identifier_decides}
use Rattle.word_core.proofs.Choices.{none_some, some_same, choose}
use Rattle.session_text.specs.Requests.{name_of}
use Rattle.session_text.specs.Laws.{Spells}

none_named : (is : Bool) (name : List ℕ) → (is ≡ true → ⊥) → None ≡ (if is then Some name else None)
none_named true name never = absurd (never refl)
none_named false name never = refl

some_named : (is : Bool) (name : List ℕ) → is ≡ true → (if is then Some name else None) ≡ Some name
some_named true name yes_it_is = refl
some_named false name yes_it_is = cc

pub name_spelled : (bytes name : List ℕ) → Spells bytes name → name_of bytes ≡ Some name
name_spelled bytes name is =
    some_named (is_identifier bytes) (str_to_ascii_lowercase bytes) ((identifier_decides bytes).1 is.0) ∙ ap Some (sym is.1)

pub name_read : (bytes : List ℕ) (found : Option (List ℕ)) → MatchOption found (IsIdentifier bytes → ⊥) (λ name. IsIdentifier bytes × (name ≡ str_to_ascii_lowercase bytes)) → found ≡ name_of bytes
name_read bytes None never = none_named (is_identifier bytes) (str_to_ascii_lowercase bytes) (λ is. never ((identifier_decides bytes).0 is))
name_read bytes (Some name) is = sym (name_spelled bytes name is)

pub name_found : (bytes name : List ℕ) → name_of bytes ≡ Some name → Spells bytes name
name_found bytes name is = elim (choose (is_identifier bytes) (Some (str_to_ascii_lowercase bytes)) None name is) [
  | inl found ↦ ((identifier_decides bytes).0 found.0, sym (some_same (str_to_ascii_lowercase bytes) name found.1))
  | inr none ↦ absurd (none_some name none.1)
]

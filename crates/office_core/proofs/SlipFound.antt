-- What is known of what was found.
use Rattle.std.proofs.Common.{◌≡◌, ◌∙◌, sym, subst, Bool, Option, Some}
use Rattle.std.specs.Prelude.{IsTrue, ◌↔◌}
use Rattle.std.proofs.lemmas.Option.{same_Some}

-- a test of what was found is a test of what there is
pub is_there : {X : Type 0} (P : X → Type 0) (found : Option X) (e : X) (test : Bool)
    → found ≡ Some e → IsTrue test ↔ P e → IsTrue test ↔ ((x : X) × (found ≡ Some x) × P x)
is_there P found e test at is =
    (λ t. (e, at, is.0 t), λ some. is.1 (subst P (same_Some some.0 e (sym some.1 ∙ at)) some.2))

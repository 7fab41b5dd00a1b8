-- Operations that are compared.
use Rattle.std.proofs.Common.{◌≡◌, ◌↔◌, Bool, IsTrue, ap, ◌∙◌}
use Rattle.decl_core.specs.ObjectForm.{OperationForm}

-- where all else is the same, two operations are one where they know the same kinds of parts
pub forms_same : (x y : OperationForm) (r : Bool) → x.name ≡ y.name → x.params ≡ y.params → x.result ≡ y.result → x.statements ≡ y.statements → IsTrue r ↔ (x.kinds ≡ y.kinds) → IsTrue r ↔ (x ≡ y)
forms_same x y r name params result statements h =
    let whole : x.kinds ≡ y.kinds → x ≡ y = λ kinds.
    ap (λ n. record { name = n; params = x.params; result = x.result; statements = x.statements; kinds = x.kinds }) name ∙
    ap (λ ps. record { name = y.name; params = ps; result = x.result; statements = x.statements; kinds = x.kinds }) params ∙
    ap (λ s. record { name = y.name; params = y.params; result = s; statements = x.statements; kinds = x.kinds }) result ∙
    ap (λ all. record { name = y.name; params = y.params; result = y.result; statements = all; kinds = x.kinds }) statements ∙
    ap (λ ks. record { name = y.name; params = y.params; result = y.result; statements = y.statements; kinds = ks }) kinds in
    (λ yes. whole (h.0 yes), λ e. h.1 (ap (λ o. o.kinds) e))

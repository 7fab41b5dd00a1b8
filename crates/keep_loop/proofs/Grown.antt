-- What is known of what was seen, as it grows.
use Rattle.std.proofs.Common.{◌≡◌, List, ◌∷◌, sym, subst}
use Rattle.std.specs.Prelude.{Option, Some, None, IfSome}
use Rattle.keep_loop.specs.Seen.{Happened, Grows}

pub grown : (e : Happened) (old new : Option (List Happened)) → Grows e old new → (P R : List Happened → Type 0) →
    ((seen : List Happened) → P seen → R (e ∷ seen)) → IfSome old P → IfSome new R
grown e old None is P R f p = tt
grown e old (Some seen) is P R f p = subst R (sym is.2) (f is.0 (subst (λ o. IfSome o P) is.1 p))

pub same : (old new : Option (List Happened)) → new ≡ old → (P R : List Happened → Type 0) →
    ((seen : List Happened) → P seen → R seen) → IfSome old P → IfSome new R
same None new is P R f p = subst (λ n. IfSome n R) (sym is) tt
same (Some seen) new is P R f p = subst (λ n. IfSome n R) (sym is) (f seen p)

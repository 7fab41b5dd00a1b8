-- Tolds stay true.
use Rattle.std.proofs.Common.{◌≡◌, List, [], ◌∷◌, ◌++◌, subst, sym}
use Rattle.device_core.specs.Device.{Assignment}
use Rattle.page_core.specs.Lists.{Every}
use Rattle.page_core.proofs.Lists.{Every-snoc}
use Rattle.office_core.specs.Slips.{Told, IsTrueTold}
use Rattle.session_core.specs.Truth.{Keeps, AreTrue}

pub still_true : {H : Type 0} (agrees : H → Assignment → Type 0) (old new : H) (rs more : List Told) → more ≡ rs → Keeps agrees old new → AreTrue agrees old rs → AreTrue agrees new more
still_true agrees old new rs more same keeps are a h = subst (Every (IsTrueTold a)) (sym same) (are a (keeps a h))

pub more_true : {H : Type 0} (agrees : H → Assignment → Type 0) (old middle new : H) (rs between more : List Told) (r : Told) → between ≡ rs → more ≡ between ++ r ∷ [] → Keeps agrees old middle → Keeps agrees middle new
    → ((a : Assignment) → agrees middle a → IsTrueTold a r) → AreTrue agrees old rs → AreTrue agrees new more
more_true agrees old middle new rs between more r same grown keeps later is are a h =
    subst (Every (IsTrueTold a)) (sym grown) (Every-snoc (IsTrueTold a) between r (still_true agrees old middle rs between same keeps are a (later a h)) (is a (later a h)))

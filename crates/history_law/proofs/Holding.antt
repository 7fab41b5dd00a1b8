-- What is held stands in a text as it was written.
use Rattle.std.proofs.Common.{◌≡◌, ◌∙◌, ap, sym, refl, List, [], ◌∷◌, ◌++◌, ℕ, false}
use Rattle.std.specs.Prelude.{codes}
use Rattle.decl_core.specs.ObjectForm.{ObjectForm}
use Rattle.front_read.specs.Rows.{has_verb}
use Rattle.front_read.specs.Text.{goes_on}
use Rattle.decl_core.specs.HoldForm.{HoldForm}
use Rattle.guest_core.specs.Held.{HeldCall}
use Rattle.front_read.specs.HeldLines.{held_text}
use Rattle.history_law.specs.Held.{WrittenHasHeld}
use Rattle.history_law.proofs.FrontReading.{IsApart, fronts_apart, adds_apart, front_begins, front_apart}

-- what says something is no line of what is held
held_apart : IsApart (has_verb (codes "held"))
held_apart = record {
  nothing = refl;
  empty = λ x. refl;
  space = λ x. refl;
  start = λ x. refl;
  end = λ x. refl;
  cancel = λ x. refl;
  name = λ x. refl;
}

-- no line of what is held is one of a front
held_goes : (o : ObjectForm) (holds : List HoldForm) (held : List HeldCall) (found : List ℕ) → goes_on found ≡ false → goes_on (held_text o holds held ++ found) ≡ false
held_goes o holds [] found ends = ends
held_goes o holds (h ∷ held) found ends = refl

pub written_has_held : WrittenHasHeld
written_has_held o holds written held text lines found lost rows each adds cut told =
    let whole : goes_on (found ++ lost) ≡ false = ap goes_on (sym cut) ∙ adds_apart goes_on fronts_apart o written lines adds in
    let none : has_verb (codes "held") (found ++ lost) ≡ false =
    ap (has_verb (codes "held")) (sym cut) ∙ adds_apart (has_verb (codes "held")) held_apart o written lines adds in (
      record { rows = rows; each = each; told = told; ends = front_begins found lost (codes "held" ++ 32 ∷ []) none },
      held_goes o holds held found (front_apart found lost whole),
    )

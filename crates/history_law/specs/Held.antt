-- What is held is read of a text as it was written.
use Rattle.std.specs.Prelude.{◌≡◌, ℕ, false, List, ◌++◌}
use Rattle.decl_core.specs.ObjectForm.{ObjectForm}
use Rattle.live_core.specs.Front.{Every, HasRows, Opening}
use Rattle.live_core.specs.Text.{front_text}
use Rattle.front_read.specs.Text.{goes_on}
use Rattle.decl_core.specs.HoldForm.{HoldForm}
use Rattle.guest_core.specs.Held.{HeldCall}
use Rattle.front_read.specs.HeldLines.{held_text, IsHeldLine}
use Rattle.recover_core.specs.HeldText.{HasHeld}
use Rattle.history_law.specs.WrittenRead.{Adds}

-- A front was written, and behind it the lines of what was held, each line of which says something by itself; and behind
-- these stand the first bytes of the lines of what happened since, however many. So the text says of the object and of what
-- is held just that, no line of a front stands behind those of the front, and no line of what is held behind these.
abbrev pub WrittenHasHeld : Type 0
WrittenHasHeld =
    (o : ObjectForm) (holds : List HoldForm) (written : Opening) (held : List HeldCall) (text lines found lost : List ℕ) → HasRows o written → Every (IsHeldLine o holds) held →
    Adds o written lines → lines ≡ found ++ lost → text ≡ front_text o written ++ (held_text o holds held ++ found) →
    HasHeld o holds text written held found × (goes_on (held_text o holds held ++ found) ≡ false)

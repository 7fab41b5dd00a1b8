-- The front that is read of a text is the one that was written.
use Rattle.std.specs.Prelude.{◌≡◌, ℕ, List, ◌++◌}
use Rattle.decl_core.specs.ObjectForm.{ObjectForm}
use Rattle.word_core.specs.TraceLaws.{HasNames}
use Rattle.live_core.specs.Front.{Opening, HasRows}
use Rattle.live_core.specs.Text.{front_text}
use Rattle.recover_core.specs.declared.recover.House.{House}
use Rattle.recover_core.specs.declared.recover.Recovered.{Recovered}
use Rattle.recover_core.specs.Text.{IsRead}
use Rattle.history_law.specs.WrittenRead.{Adds}

-- A front was written each line of which says something by itself, and behind it stand the first bytes of the lines of what
-- happened since, however many: whoever reads a front of that has read this one.
abbrev pub WrittenIsRead : Type 0
WrittenIsRead =
    (o : ObjectForm) (h : House) (written front : Opening) (text lines found lost : List ℕ) (came : Recovered) → HasNames o → HasRows o written →
    Adds o written lines → lines ≡ found ++ lost → text ≡ front_text o written ++ found → IsRead o h text front came → front ≡ written

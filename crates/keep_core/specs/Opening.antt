-- How an object is opened, and why it is not.
use Rattle.std.specs.Prelude.{◌≡◌, ℕ, List, map}
use Rattle.value_core.specs.Contents.{Contents, kind_of}
use Rattle.decl_core.specs.declared.object.Object.{Object}
use Rattle.value_core.specs.declared.machine.LinesFault.TheVariants.{ReadFault, WriteFault, Memory}
use Rattle.device_core.specs.Device.{Assignment}
use Rattle.device_core.specs.Papers.{Papers}
use Rattle.page_core.specs.Opened.{ArePinned, IsFirstDamaged}
use Rattle.board_core.specs.Board.{Board}
use Rattle.board_core.specs.Sound.{kinds_of}
use Rattle.keep_core.specs.declared.open.NotOpened.{NotOpened}
use Rattle.keep_core.specs.declared.open.NotOpened.TheVariants.{Damaged, Fault}
use Rattle.keep_core.specs.declared.opening.ObjectOpening.{ObjectOpening}
use Rattle.keep_core.specs.Lines.{damaged_line}

-- Why it is not opened: a part is the first damaged one, whatever the shelf may hold, and the line is that of this part;
-- or a device failed, or memory was refused.
abbrev pub IsNotOpened : (Papers → Type 0) → Type 0 → Object → NotOpened → Type 0
IsNotOpened holds failed object (Damaged line) =
    (place : ℕ) × (line.items ≡ damaged_line object place)
    × ((papers : Papers) → holds papers → IsFirstDamaged papers object.name object.parts.items place)
IsNotOpened holds failed object (Fault ReadFault) = failed
IsNotOpened holds failed object (Fault WriteFault) = ⊥
IsNotOpened holds failed object (Fault Memory) = Unit {0}

-- the values with which the parts opened
abbrev pub values_of : ObjectOpening → List Contents
values_of opening = opening.values.items

-- its pins were sealed with the spellings of its values, those of the parts of this object
abbrev pub IsSealed : (Assignment → Type 0) → Object → ObjectOpening → Type 0
IsSealed agrees object opening =
    (a : Assignment) → agrees a → ArePinned a object.parts.items opening.pins (values_of opening)

-- a board began with the pins of this opening, and its object's parts have the kinds of its values
abbrev pub BeganWith : Board → ObjectOpening → Type 0
BeganWith b opening = (b.opening ≡ opening.pins) × (kinds_of b.object ≡ map kind_of (values_of opening))

-- Lines that are told at the start and at the end.
use Rattle.std.specs.Prelude.{◌≡◌, ℕ, List, [], ◌∷◌, ◌++◌, take, Bool, cond, Option, Some, None, Result, Ok, Err, codes}
use Rattle.std.specs.Prelude.{decimal, slice_get}
use Rattle.std.specs.List.{concat}
use Rattle.std.specs.Io.KnownBytes.{Appends, Keeps}
use Rattle.std.specs.declared.alloc.AllocError.{AllocError}
use Rattle.value_core.specs.declared.machine.LinesFault.{LinesFault}
use Rattle.value_core.specs.declared.machine.LinesFault.TheVariants.{ReadFault, WriteFault, Memory}
use Rattle.value_core.specs.Reply.{reply}
use Rattle.device_core.specs.declared.hand.Stamp.{Stamp}
use Rattle.decl_core.specs.declared.object.Object.{Object}
use Rattle.decl_core.specs.declared.object.Part.{Part}
use Rattle.keep_core.specs.Troubles.{fault_in}

-- the name of a part; where there is none, nothing
abbrev pub name_in : Option Part → List ℕ
name_in None = []
name_in (Some part) = part.name

-- `OBJECT.PART`, the part by its place
abbrev pub part_text : Object → ℕ → List ℕ
part_text object place = object.name ++ (codes "." ++ name_in (slice_get object.parts.items place))

-- `part OBJECT.PART damaged`
abbrev pub damaged_line : Object → ℕ → List ℕ
damaged_line object place = codes "part " ++ (part_text object place ++ codes " damaged\n")

-- such a line for each of these places
abbrev pub damaged_lines : Object → List ℕ → List (List ℕ)
damaged_lines object [] = []
damaged_lines object (place ∷ places) = damaged_line object place ∷ damaged_lines object places

-- ` N.val` for each of these files, in order
abbrev pub files_text : List Stamp → List ℕ
files_text [] = []
files_text (file ∷ files) = (codes " " ++ decimal file.number) ++ (codes ".val" ++ files_text files)

-- ` not saved: N.val ..`, with the end of the line
abbrev pub unsaved_text : List Stamp → List ℕ
unsaved_text files = codes " not saved:" ++ (files_text files ++ codes "\n")

-- `OBJECT.PART not saved: N.val ..`, the files that hold the value of the part
abbrev pub unsaved_line : Object → ℕ → List Stamp → List ℕ
unsaved_line object place files = part_text object place ++ unsaved_text files

-- `NAME.trace not written`
abbrev pub untraced_line : List ℕ → List ℕ
untraced_line name = reply name (codes ".trace not written")

-- `close NAME refused`
abbrev pub refused_line : List ℕ → List ℕ
refused_line name = codes "close " ++ reply name (codes " refused")

-- `NAME entries K`
abbrev pub entries_line : List ℕ → ℕ → List ℕ
entries_line name entries = name ++ reply (codes " entries ") (decimal entries)

-- this line where the object is kept, and else none
abbrev pub entries_lines : Bool → List ℕ → ℕ → List (List ℕ)
entries_lines kept name entries = cond kept (entries_line name entries ∷ []) []

-- Of each of these lines, in order, a front stands in a text, and nothing else.
abbrev pub AreFronts : List (List ℕ) → List ℕ → Type 0
AreFronts [] text = text ≡ []
AreFronts (line ∷ lines) text = (count : ℕ) × (rest : List ℕ) × (text ≡ take count line ++ rest) × AreFronts lines rest

-- Of each of these lines, in order, a front was written, and where no fault was met all of it.
pub record AreSaid (lines : List (List ℕ)) (met : Option LinesFault) (old new : Option (List ℕ)) : Type 0 where
  pub text : List ℕ
  pub fronts : AreFronts lines text
  pub whole : met ≡ None → text ≡ concat lines
  pub written : Appends old new text

-- a fault that may be met while an object is closed: nothing is read there
abbrev pub IsOfClosing : Option LinesFault → Type 0
IsOfClosing None = Unit {0}
IsOfClosing (Some ReadFault) = ⊥
IsOfClosing (Some WriteFault) = Unit {0}
IsOfClosing (Some Memory) = Unit {0}

-- lines were told, or not all of them, with a fault
pub record AreTold (lines : List (List ℕ)) (result : Result (Unit {0}) LinesFault)
    (old new : Option (List ℕ)) : Type 0 where
  pub said : AreSaid lines (fault_in result) old new
  pub closing : IsOfClosing (fault_in result)

-- a line was written, where it was made
abbrev pub IsWritten : Result (Unit {0}) AllocError → List ℕ → Result (Unit {0}) LinesFault → Option (List ℕ) →
    Option (List ℕ) → Type 0
IsWritten (Ok made) line result old new = AreTold (line ∷ []) result old new
IsWritten (Err refused) line result old new = (result ≡ Err Memory) × Keeps old new

-- What is answered of a file.
use Rattle.std.specs.Prelude.{◌≡◌, ◌⊎◌, ◌≤◌, ◌<◌, ◌+◌, ◌-◌, ◌^◌, min, ℕ, suc, Bool, true, false, List, [], ◌∷◌, ◌++◌, length, take, drop, codes, decimal, Option, Some, Result, Ok, Err, MatchResult, if◌then◌else◌, ◌==◌}
use Rattle.keep_loop.specs.Crc.{crc_more, crc_start}
use Rattle.keep_loop.specs.Journal.{recovered, whole, written}
use Rattle.keep_loop.specs.Taken.{cut, spelled, begins_with, Names, SpellsNone, stored_word, since, has_front, plain, is_check, IsRight, AreRight, IsChecked, IsKept, HasMore, format_words, taken}
use Rattle.taken_core.specs.declared.taken.TakenFile.{TakenFile}
use Rattle.taken_core.specs.declared.taken.TakeFault.{TakeFault}
use Rattle.taken_core.specs.declared.taken.TakeFault.TheVariants.{Line, Format, Behind}
use Rattle.taken_core.specs.declared.checked.Checked.{Checked}

-- a count, up to the greatest number of 64 bits
abbrev pub counted : ℕ → ℕ
counted n = min n (2 ^ 64 - 1)

-- a test tells whether this is so
abbrev pub Tests : Bool → Type 0 → Type 0
Tests true P = P
Tests false P = P → ⊥

-- what is known of a file says this of its first lines
pub record Follows (done : List (List ℕ)) (checked : Checked) : Type 0 where
  pub crc : checked.crc ≡ crc_more crc_start (since done)
  pub front : checked.has_front ≡ has_front done
  pub plain : checked.plain.items ≡ plain done

-- a line behind these is right, and what is known goes on by it; or it is not
abbrev pub Takes : Bool → List (List ℕ) → List ℕ → Checked → Type 0
Takes true done line new = IsRight done line × Follows (done ++ line ∷ []) new
Takes false done line new = IsRight done line → ⊥

-- this is the number that a line says was stored, if it says one
abbrev pub SaysStored : List ℕ → Option ℕ → Type 0
SaysStored line found = (n : ℕ) (rest : List ℕ) → n < 2 ^ 64 → line ≡ stored_word ++ (decimal n ++ 32 ∷ rest) → found ≡ Some n

-- line 1 tells this format
abbrev pub TellsFormat : List ℕ → ℕ → Type 0
TellsFormat text format = (rest : List ℕ) × Names text (spelled (codes "format ") format rest)

-- it tells that of the files that check themselves
abbrev pub IsOfForm : List ℕ → Type 0
IsOfForm text = (rest : List ℕ) × Names text (format_words ++ rest)

-- it names an object, and tells none
abbrev pub IsBare : List ℕ → Type 0
IsBare text = (rest : List ℕ) × Names text rest × (begins_with (codes "format ") rest ≡ false)

-- it names no object, or spells its format wrongly
abbrev pub SaysNoFormat : List ℕ → Type 0
SaysNoFormat text = (rest : List ℕ) → Names text rest → SpellsNone rest

-- behind these lines one is not as it was written, or the last one of the front does not come
abbrev pub IsWrongNext : List (List ℕ) → List (List ℕ) → Type 0
IsWrongNext before [] = has_front before ≡ false
IsWrongNext before (line ∷ rest) = IsRight before line → ⊥

-- the first of these lines that is not as it was written, or that is missing, from 1 on
pub record IsFirstWrong (lines : List (List ℕ)) (number : ℕ) : Type 0 where
  pub before : List (List ℕ)
  pub rest : List (List ℕ)
  pub lines_are : lines ≡ before ++ rest
  pub right : AreRight [] before
  pub wrong : IsWrongNext before rest
  pub number_is : number ≡ counted (length before + 1)

-- all of these lines are right, with the end of their front, and known
pub record AreTaken (lines : List (List ℕ)) (checked : Checked) : Type 0 where
  pub right : AreRight [] lines
  pub fronted : has_front lines ≡ true
  pub plain : checked.plain.items ≡ plain lines

-- how many of these bytes are not 0
abbrev pub count_solid : List ℕ → ℕ
count_solid [] = 0
count_solid (byte ∷ bytes) = (if byte == 0 then 0 else 1) + count_solid bytes

-- A line behind the first byte 0 says that more was stored than stands before it
abbrev pub Lacks : List ℕ → Type 0
Lacks file = HasMore (drop (length (written file)) file) (length (written file))

-- What a file tells: the lines of one without a format, or of one that is as it was written and lacks nothing that was
-- stored, if that counts
pub record IsTold (file : List ℕ) (accepts_cut : Bool) (told : TakenFile) : Type 0 where
  pub size : told.size ≤ length file
  pub whole : take told.size file ≡ recovered file
  pub behind : told.behind ≡ counted (count_solid (drop told.size file))
  pub lines : ((told.format ≡ 1) × IsBare (recovered file) × (told.lines.items ≡ recovered file))
      ⊎ ((told.format ≡ 2) × IsChecked (recovered file) × (told.lines.items ≡ taken file) × (accepts_cut ≡ false → IsKept file))

-- Behind the line of this number, the last one, so many bytes are not 0, and they say that more was stored
pub record IsBehind (file : List ℕ) (line count : ℕ) : Type 0 where
  pub checked : IsChecked (recovered file)
  pub lacks : IsKept file → ⊥
  pub last : line ≡ counted (length (cut (recovered file)))
  pub size : ℕ
  pub whole : take size file ≡ recovered file
  pub count_is : count ≡ counted (count_solid (drop size file))

-- what is answered of a file: what it tells, or why it is not taken
abbrev pub Answers : List ℕ → Bool → Result TakenFile TakeFault → Type 0
Answers file accepts_cut (Ok told) = IsTold file accepts_cut told
Answers file accepts_cut (Err (Line line)) =
    ((line ≡ 1) × SaysNoFormat (recovered file)) ⊎ (IsOfForm (recovered file) × IsFirstWrong (cut (recovered file)) line)
Answers file accepts_cut (Err (Format format)) = TellsFormat (recovered file) format × (2 < format) × (format < 2 ^ 64)
Answers file accepts_cut (Err (Behind line count)) = IsBehind file line count × (accepts_cut ≡ false)

-- these lines are told, and no fault
abbrev pub TellsLines : List ℕ → Result TakenFile TakeFault → Type 0
TellsLines lines answer = MatchResult answer (λ told. told.lines.items ≡ lines) (λ _. ⊥)

-- how many of these lines are no check lines
abbrev pub count_plain : List (List ℕ) → ℕ
count_plain [] = 0
count_plain (line ∷ lines) = if is_check line then count_plain lines else suc (count_plain lines)

-- The line of this number among those that are no check lines stands at this place of all, which are counted from `first` on
abbrev pub IsPlaceOf : List (List ℕ) → ℕ → ℕ → ℕ → Type 0
IsPlaceOf lines number first place = (before more : List (List ℕ)) (line : List ℕ) → lines ≡ before ++ line ∷ more
    → is_check line ≡ false → number ≡ count_plain before + 1 → place ≡ counted (first + length before)

-- What the file of a journal says, and that it is as it was written.
use Rattle.std.specs.Prelude.{◌≡◌, ◌≢◌, ◌⊎◌, ◌≤◌, ◌<◌, ℕ, zero, suc, ◌+◌, ◌/◌, ◌%◌, ◌^◌, Bool, true, false, ◌&&◌, ◌||◌, List, [], ◌∷◌, ◌++◌, length, drop, All, codes, decimal, if◌then◌else◌, ◌==◌}
use Rattle.std.specs.List.{concat}
use Rattle.keep_loop.specs.Crc.{crc_of}
use Rattle.keep_loop.specs.Journal.{written, recovered, whole, AreLines, IsBetween}

-- a text in front of the first of some lines
abbrev pub onto : ℕ → List (List ℕ) → List (List ℕ)
onto byte [] = (byte ∷ []) ∷ []
onto byte (line ∷ lines) = (byte ∷ line) ∷ lines

-- the lines of a text, each with its line feed
abbrev pub cut : List ℕ → List (List ℕ)
cut [] = []
cut (byte ∷ text) = if byte == 10 then (byte ∷ []) ∷ cut text else onto byte (cut text)

-- a text is cut behind its first line feed
pub record CutFirst (text line more : List ℕ) : Type 0 where
  pub cut_is : cut text ≡ line ∷ cut more
  pub alone : cut line ≡ line ∷ []
  pub is : text ≡ line ++ more
  pub ended : whole line ≡ line
  pub some : 0 < length line

-- a text begins with a word
abbrev pub begins_with : List ℕ → List ℕ → Bool
begins_with [] text = true
begins_with (w ∷ word) [] = false
begins_with (w ∷ word) (byte ∷ text) = w == byte && begins_with word text

abbrev pub front_word : List ℕ
front_word = codes "front "

abbrev pub stored_word : List ℕ
stored_word = codes "stored "

-- a line by which a file checks itself
abbrev pub is_check : List ℕ → Bool
is_check line = begins_with front_word line || begins_with stored_word line

abbrev pub is_front_line : List ℕ → Bool
is_front_line line = begins_with front_word line

-- there is one among these lines, and the last one of a front
abbrev pub has_check : List (List ℕ) → Bool
has_check [] = false
has_check (line ∷ lines) = is_check line || has_check lines

abbrev pub has_front : List (List ℕ) → Bool
has_front [] = false
has_front (line ∷ lines) = is_front_line line || has_front lines

-- the text of lines without those by which a file checks itself
abbrev pub plain : List (List ℕ) → List ℕ
plain [] = []
plain (line ∷ lines) = if is_check line then plain lines else line ++ plain lines

-- no byte is a space
abbrev pub NoSpace : List ℕ → Type 0
NoSpace bytes = All (λ byte. (byte == 32) ≡ false) bytes

-- no byte is 0
abbrev pub NoZero : List ℕ → Type 0
NoZero bytes = All (λ byte. (byte == 0) ≡ false) bytes

-- a digit of a hexadecimal number, and the last of its digits, so many
abbrev pub hex_digit : ℕ → ℕ
hex_digit n = if n / 10 == 0 then 48 + n else 87 + n

abbrev pub hex_digits : ℕ → ℕ → List ℕ
hex_digits zero n = []
hex_digits (suc places) n = hex_digits places (n / 16) ++ hex_digit (n % 16) ∷ []

-- the check line with this word, this number of bytes and this CRC
unfoldable pub check_line : List ℕ → ℕ → ℕ → List ℕ
check_line word size crc = word ++ decimal size ++ 32 ∷ (hex_digits 8 crc ++ 10 ∷ [])

-- what stands behind the last check line of these lines
abbrev pub since : List (List ℕ) → List ℕ
since [] = []
since (line ∷ lines) = if has_check (line ∷ lines) then since lines else line ++ concat lines

-- the last line of a front, behind these: it says how many bytes they have, and their CRC
pub record IsFrontRight (before : List (List ℕ)) (line : List ℕ) : Type 0 where
  pub none : has_front before ≡ false
  pub is : line ≡ check_line front_word (length (concat before)) (crc_of (since before))

-- the last line of a round: it says how many bytes were stored, no more than stand before it, and the CRC of those since
-- the check line before
pub record IsRoundRight (before : List (List ℕ)) (line : List ℕ) : Type 0 where
  pub fronted : has_front before ≡ true
  pub stored : ℕ
  pub before_it : stored ≤ length (concat before)
  pub is : line ≡ check_line stored_word stored (crc_of (since before))

-- a line behind these is as it was written
pub record IsRight (before : List (List ℕ)) (line : List ℕ) : Type 0 where
  pub front : is_front_line line ≡ true → IsFrontRight before line
  pub stored : begins_with stored_word line ≡ true → IsRoundRight before line

-- so is each of these, behind those
abbrev pub AreRight : List (List ℕ) → List (List ℕ) → Type 0
AreRight before [] = Unit {0}
AreRight before (line ∷ lines) = IsRight before line × AreRight (before ++ line ∷ []) lines

-- the words by which line 1 of a file of this form tells it
abbrev pub format_words : List ℕ
format_words = codes "format 2 "

-- no byte of a word is a space, or ends a line
abbrev pub IsWord : List ℕ → Type 0
IsWord [] = Unit {0}
IsWord (byte ∷ word) = (byte ≢ 32) × (byte ≢ 10) × IsWord word

-- a word and a number, up to a space, and what stands behind it
abbrev pub spelled : List ℕ → ℕ → List ℕ → List ℕ
spelled word size more = word ++ decimal size ++ 32 ∷ more

-- a text that names an object and goes on with this
abbrev pub named : List ℕ → List ℕ → List ℕ
named word rest = codes "object " ++ word ++ 32 ∷ rest

-- behind the name of an object stands this format: 1 where none is told, else from 2 on
abbrev pub Spells : List ℕ → ℕ → Type 0
Spells rest format = ((format ≡ 1) × (begins_with (codes "format ") rest ≡ false))
    ⊎ ((2 ≤ format) × (format < 2 ^ 64) × (more : List ℕ) × (rest ≡ spelled (codes "format ") format more))

abbrev pub SpellsNone : List ℕ → Type 0
SpellsNone rest = (format : ℕ) → Spells rest format → ⊥

-- line 1 of a text names an object, and the text goes on with this
pub record Names (text rest : List ℕ) : Type 0 where
  pub word : List ℕ
  pub is_word : IsWord word
  pub some : word ≢ []
  pub is : text ≡ named word rest

-- a text is that of a file as it was written: line 1 tells the form, the front has its last line, and each line is right
pub record IsChecked (text : List ℕ) : Type 0 where
  pub rest : List ℕ
  pub names : Names text (format_words ++ rest)
  pub fronted : has_front (cut text) ≡ true
  pub right : AreRight [] (cut text)

-- what is behind so many spaces of a text, without the words of the form that stand there
abbrev pub without_form : ℕ → List ℕ → List ℕ
without_form zero text = drop 9 text
without_form (suc spaces) [] = []
without_form (suc spaces) (byte ∷ text) = byte ∷ without_form (if byte == 32 then spaces else suc spaces) text

-- and with these words
abbrev pub with_form : ℕ → List ℕ → List ℕ
with_form zero text = format_words ++ text
with_form (suc spaces) [] = []
with_form (suc spaces) (byte ∷ text) = byte ∷ with_form (if byte == 32 then spaces else suc spaces) text

-- a front as it stands in a file: line 1 tells the form, and the last line checks what stands before it
abbrev pub with_check : List ℕ → List ℕ
with_check text = text ++ check_line front_word (length text) (crc_of text)

abbrev pub in_file : List ℕ → List ℕ
in_file front = with_check (with_form 2 front)

-- the lines that the text of a file tells
abbrev pub told : List ℕ → List ℕ
told text = without_form 2 (plain (cut text))

-- those that a file tells
abbrev pub taken : List ℕ → List ℕ
taken file = told (recovered file)

-- a line says that so many bytes were stored
abbrev pub says_stored : ℕ → List ℕ → List ℕ
says_stored stored rest = spelled stored_word stored rest

-- a text begins with a line that says that more than so many were stored, and it has such a line behind a line feed
abbrev pub SaysMore : List ℕ → ℕ → Type 0
SaysMore text written = (stored : ℕ) × (rest : List ℕ) × (stored < 2 ^ 64) × (text ≡ says_stored stored rest) × (written < stored)

abbrev pub HasMore : List ℕ → ℕ → Type 0
HasMore text written = (before rest : List ℕ) × (text ≡ before ++ 10 ∷ rest) × SaysMore rest written

-- No line behind the first byte 0 says that more was stored than stands before it
abbrev pub IsKept : List ℕ → Type 0
IsKept file = HasMore (drop (length (written file)) file) (length (written file)) → ⊥

-- a file is as it was written, but for what a crash may leave out
pub record IsTaken (file : List ℕ) : Type 0 where
  pub checked : IsChecked (recovered file)
  pub kept : IsKept file

-- a file tells these lines
pub record Tells (lines file : List ℕ) : Type 0 where
  pub is_taken : IsTaken file
  pub are : taken file ≡ lines

-- it tells all that were stored, and of those that were handed some more
pub record TellsBetween (stored text file : List ℕ) : Type 0 where
  pub is_taken : IsTaken file
  pub between : IsBetween stored text (taken file)

-- lines that can be added: none of them is a check line
pub record ArePlain (text : List ℕ) : Type 0 where
  pub are_lines : AreLines text
  pub none : has_check (cut text) ≡ false

-- lines with which a journal can begin
pub record IsFront (text : List ℕ) : Type 0 where
  pub are_plain : ArePlain text
  pub rest : List ℕ
  pub names : Names text rest
  pub bare : begins_with (codes "format ") rest ≡ false

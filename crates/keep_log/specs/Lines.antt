-- The lines of a log.
use Rattle.std.specs.Prelude.{ℕ, ◌+◌, ◌/◌, ◌%◌, ◌==◌, List, [], ◌∷◌, ◌++◌, codes, decimal, flat_map, if◌then◌else◌, nat_lt}
use Rattle.jiff_core.specs.declared.civil.datetime.DateTime.{DateTime}
use Rattle.keep_log.specs.Moment.{moment_text}
use Rattle.keep_log.specs.declared.line.LineForm.{LineForm}
use Rattle.keep_log.specs.declared.line.LineForm.TheVariants.{Text, Json}
use Rattle.keep_log.specs.declared.line.Level.{Level}
use Rattle.keep_log.specs.declared.line.Level.TheVariants.{Info, Warn, Error}

-- what is told by a name: a number, or a word
pub data Field : Type 0 where
  number : List ℕ → ℕ → Field
  word : List ℕ → List ℕ → Field

-- a digit of a hexadecimal number
abbrev pub hex : ℕ → ℕ
hex n = if nat_lt n 10 then 48 + n else 87 + n

-- a byte as JSON has it in a string: a quote and a backslash behind a backslash, what is below a blank by its number
abbrev pub escaped : ℕ → List ℕ
escaped b =
    if b == 34 then 92 ∷ 34 ∷ []
    else if b == 92 then 92 ∷ 92 ∷ []
    else if nat_lt b 32 then codes "\\u00" ++ hex (b / 16) ∷ hex (b % 16) ∷ []
    else b ∷ []

abbrev pub escapes : List ℕ → List ℕ
escapes bytes = flat_map escaped bytes

abbrev pub quoted : List ℕ → List ℕ
quoted bytes = 34 ∷ escapes bytes ++ 34 ∷ []

abbrev pub level_text : LineForm → Level → List ℕ
level_text Text Info = codes "INFO"
level_text Text Warn = codes "WARN"
level_text Text Error = codes "ERROR"
level_text Json Info = codes "info"
level_text Json Warn = codes "warn"
level_text Json Error = codes "error"

-- what a line for people begins with
abbrev pub text_head : DateTime → Level → List ℕ → List ℕ
text_head moment level event = moment_text moment ++ codes " " ++ level_text Text level ++ codes " " ++ event

-- what a line for machines begins with
abbrev pub json_moment : DateTime → List ℕ
json_moment moment = codes "{\"time\":\"" ++ moment_text moment ++ codes "\",\"level\":\""

abbrev pub json_event : Level → List ℕ → List ℕ
json_event level event = level_text Json level ++ codes "\",\"event\":" ++ quoted event

abbrev pub head : LineForm → DateTime → Level → List ℕ → List ℕ
head Text moment level event = text_head moment level event
head Json moment level event = json_moment moment ++ json_event level event

abbrev pub field_head : LineForm → List ℕ → List ℕ
field_head Text name = codes " " ++ name ++ codes "="
field_head Json name = codes "," ++ quoted name ++ codes ":"

abbrev pub field_text : LineForm → Field → List ℕ
field_text form (number name n) = field_head form name ++ decimal n
field_text form (word name bytes) = field_head form name ++ quoted bytes

abbrev pub fields_text : LineForm → List Field → List ℕ
fields_text form fields = flat_map (field_text form) fields

abbrev pub line_end : LineForm → List ℕ
line_end Text = codes "\n"
line_end Json = codes "}\n"

-- a line: the moment, how much it matters, the event, and what is told of it
abbrev pub line : LineForm → DateTime → Level → List ℕ → List Field → List ℕ
line form moment level event fields = head form moment level event ++ fields_text form fields ++ line_end form

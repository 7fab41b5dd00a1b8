-- A moment as a line has it.
use Rattle.std.specs.Prelude.{ℕ, ◌+◌, ◌/◌, ◌%◌, List, [], ◌∷◌, ◌++◌, unsigned_abs}
use Rattle.jiff_core.specs.declared.civil.date.Date.{Date}
use Rattle.jiff_core.specs.declared.civil.datetime.DateTime.{DateTime}
use Rattle.jiff_core.specs.declared.civil.time.Time.{Time}

-- the last digit of a number
abbrev pub digit : ℕ → ℕ
digit n = 48 + n % 10

-- its last two, three and four digits
abbrev pub two : ℕ → List ℕ
two n = digit (n / 10) ∷ digit n ∷ []

abbrev pub three : ℕ → List ℕ
three n = digit (n / 100) ∷ two n

abbrev pub four : ℕ → List ℕ
four n = digit (n / 1_000) ∷ three n

-- 2026-11-28
abbrev pub date_text : Date → List ℕ
date_text d = four (unsigned_abs d.year) ++ (45 ∷ two d.month) ++ (45 ∷ two d.day)

-- T13:04:05
abbrev pub time_text : Time → List ℕ
time_text t = (84 ∷ two t.hour) ++ (58 ∷ two t.minute) ++ (58 ∷ two t.second)

-- .123Z
abbrev pub millis_text : ℕ → List ℕ
millis_text nanos = (46 ∷ three (nanos / 1_000_000)) ++ 90 ∷ []

-- 2026-11-28T13:04:05.123Z
abbrev pub moment_text : DateTime → List ℕ
moment_text m = date_text m.date ++ time_text m.time ++ millis_text m.time.subsec_nanosecond

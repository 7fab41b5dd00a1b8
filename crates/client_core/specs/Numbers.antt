-- Numbers of 64 bits in lines.
use Rattle.std.specs.Prelude.{ℕ, List, Option, None, codes, if◌then◌else◌}
use Rattle.std.specs.Str.{bytes_eq}
use Rattle.word_core.specs.Words.{Word}
use Rattle.word_core.specs.Data.{◌>>=◌, bare_of, long_of, only_bare}

-- the number that the one word is
abbrev pub only_long : List Word → Option ℕ
only_long words = only_bare words >>= long_of

-- the number behind `cancel`, where a line says that alone
abbrev pub cancel_in : List Word → Option ℕ
cancel_in words = bare_of words >>= λ first. if bytes_eq first.0 (codes "cancel") then only_long first.1 else None

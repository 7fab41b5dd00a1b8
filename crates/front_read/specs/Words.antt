-- What words at the front of a line stand for.
use Rattle.std.specs.Prelude.{ℕ, nat_lt, ◌==◌, List, Option, Some, None, codes, if◌then◌else◌}
use Rattle.std.specs.Borrow.{Bor}
use Rattle.std.specs.Str.{bytes_eq}
use Rattle.word_core.specs.declared.word.Word as declared
use Rattle.word_core.specs.View.{words_of}
use Rattle.word_core.specs.Words.{Word}
use Rattle.word_core.specs.Data.{◌>>=◌, bare_of, only_bare, integer_of, long_of, session_of}
use Rattle.front_read.specs.declared.carried.CarriedHead.{CarriedHead}
use Rattle.front_read.specs.declared.kept.KeptHead.{KeptHead}

-- what was found, and the words behind it
abbrev pub with_rest : {A : Type 0} → A × Bor (List declared.Word) → A × List Word
with_rest x = (x.0, words_of x.1.now)

-- the words behind this one
abbrev pub behind_verb : List ℕ → List Word → Option (List Word)
behind_verb verb words = bare_of words >>= λ first. if bytes_eq first.0 verb then Some first.1 else None

-- a number of 64 bits, and the words behind it
abbrev pub long_first : List Word → Option (ℕ × List Word)
long_first words = bare_of words >>= λ first. long_of first.0 >>= λ number. Some (number, first.1)

-- one from 1 on
abbrev pub key_first : List Word → Option (ℕ × List Word)
key_first words = long_first words >>= λ found. if found.0 == 0 then None else Some found

-- a number of 32 bits from 1 on, and the words behind it
abbrev pub count_first : List Word → Option (ℕ × List Word)
count_first words =
    bare_of words >>= λ first. integer_of first.0 >>= λ number. if number == 0 then None else Some (number, first.1)

-- a session of 1 to 65,535, and the words behind it
abbrev pub session_first : List Word → Option (ℕ × List Word)
session_first words =
    bare_of words >>= λ first. session_of first.0 >>= λ session.
    if session == 0 then None else if nat_lt 65535 session then None else Some (session, first.1)

-- `carried n N sK`, and the words behind it
abbrev pub carried_head : List Word → Option (CarriedHead × List Word)
carried_head words =
    behind_verb (codes "carried") words >>= λ a. count_first a >>= λ b. long_first b.1 >>= λ c. session_first c.1
    >>= λ d. Some (record { number = b.0; told = c.0; session = d.0 }, d.1)

-- `kept sK J N`, and the words behind it
abbrev pub kept_head : List Word → Option (KeptHead × List Word)
kept_head words =
    behind_verb (codes "kept") words >>= λ a. session_first a >>= λ b. key_first b.1 >>= λ c. long_first c.1
    >>= λ d. Some (record { session = b.0; key = c.0; told = d.0 }, d.1)

-- the epoch of `object NAME epoch E`
abbrev pub epoch_of : List Word → Option ℕ
epoch_of words =
    behind_verb (codes "object") words >>= λ a. bare_of a >>= λ b. behind_verb (codes "epoch") b.1
    >>= λ c. key_first c >>= λ d. Some d.0

-- the number of `base N`
abbrev pub base_of : List Word → Option ℕ
base_of words = behind_verb (codes "base") words >>= λ a. long_first a >>= λ b. Some b.0

-- the last of the words `part NAME HEX`
abbrev pub hex_of : List Word → Option (List ℕ)
hex_of words = behind_verb (codes "part") words >>= λ a. bare_of a >>= λ b. only_bare b.1

-- the last of the words `source HASH`
abbrev pub hash_of : List Word → Option (List ℕ)
hash_of words = behind_verb (codes "source") words >>= only_bare

-- What stands at the front of a text.
use Rattle.std.specs.Prelude.{ℕ, suc, Bool, true, false, ◌==◌, ◌&&◌, ◌||◌, List, [], ◌∷◌, codes, if◌then◌else◌}

-- a text begins with these bytes
abbrev pub begins : List ℕ → List ℕ → Bool
begins text [] = true
begins [] (b ∷ front) = false
begins (c ∷ text) (b ∷ front) = (c == b) && begins text front

-- with a line of a call or a client
abbrev pub goes_on_with_calls : List ℕ → Bool
goes_on_with_calls text =
    begins text (codes "carried ") || (begins text (codes "client ") || begins text (codes "kept "))

-- with a line that stands behind those of the parts
abbrev pub goes_on_behind_parts : List ℕ → Bool
goes_on_behind_parts text =
    begins text (codes "past ") || (begins text (codes "base ") || goes_on_with_calls text)

-- a text goes on with a line of a front: its first word says so
abbrev pub goes_on : List ℕ → Bool
goes_on text =
    begins text (codes "object ")
    || (begins text (codes "source ") || (begins text (codes "part ") || goes_on_behind_parts text))

-- how many lines end in these bytes
abbrev pub feeds_in : List ℕ → ℕ
feeds_in [] = 0
feeds_in (b ∷ bytes) = if b == 10 then suc (feeds_in bytes) else feeds_in bytes

-- What standard error gets: a line, a front of it, or nothing.
use Rattle.std.proofs.Common.{ℕ, List, Option, codes, length, take, subst, sym}
use Rattle.std.proofs.Math.Seq.{take-length}
use Rattle.std.specs.Io.KnownBytes.{Appends}
use Rattle.value_core.proofs.Known.{Appends-none}
use Rattle.answer_core.specs.Lacks.{AppendsFront}
use Rattle.answer_core.specs.Telling.{IsHinted}

-- the whole line
pub whole_hint : (old new : Option (List ℕ)) → Appends old new (codes "--explain tells more\n") → IsHinted old new
whole_hint old new told = (21, told)

-- nothing
pub no_hint : (o : Option (List ℕ)) → IsHinted o o
no_hint o = (0, Appends-none o)

-- any line
pub whole_line : (old new : Option (List ℕ)) (line : List ℕ) → Appends old new line → AppendsFront old new line
whole_line old new line told = (length line, subst (λ text. Appends old new text) (sym (take-length line)) told)

pub no_line : (o : Option (List ℕ)) (line : List ℕ) → AppendsFront o o line
no_line o line = (0, Appends-none o)

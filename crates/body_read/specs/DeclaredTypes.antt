-- What declared names stand for, as the types that a body is given.
use Rattle.std.specs.Prelude.{ℕ, List, map, Option, Some, None}
use Rattle.value_core.specs.declared.kind.Elem.{Elem}
use Rattle.decl_core.specs.ObjectForm.{kinds_from}
use Rattle.decl_core.specs.Typed.{Types}
use Rattle.token_read.specs.Names.{Names}

-- which sort is replied, where this is the function
abbrev pub reply_sort : Option (List ℕ × Elem) → Option Elem
reply_sort None = None
reply_sort (Some f) = Some f.1

-- what the names stand for, where the kind of each part is known, and where it is known for these
abbrev pub all_known : Names → Types
all_known names =
    record {
      kinds = map (λ p. Some p.1) names.parts;
      params = map (λ p. p.1) names.params;
      result = reply_sort names.function;
    }

abbrev pub known_of : ℕ → Names → Types
known_of reads names =
    record {
      kinds = kinds_from reads 0 names.parts;
      params = map (λ p. p.1) names.params;
      result = reply_sort names.function;
    }

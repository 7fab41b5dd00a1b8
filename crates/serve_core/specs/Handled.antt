-- What a server makes of a source.
use Rattle.std.specs.Prelude.{◌≡◌, ◌⊎◌, ℕ, List, Option}
use Rattle.std.specs.Io.KnownBytes.{Appends}
use Rattle.decl_core.specs.ObjectForm.{ObjectForm}
use Rattle.check_core.specs.Judging.{IsServed, IsUnserved}
use Rattle.serve_core.specs.declared.serve.ServeEnd.{ServeEnd}
use Rattle.serve_core.specs.declared.serve.ServeEnd.TheVariants.{Refused}

-- it is not served, and just what says why was written; or each of its objects is accepted
abbrev pub IsHandled : List ℕ → Option (List ℕ) → Option (List ℕ) → ServeEnd → Type 0
IsHandled source old new end =
    ((text : List ℕ) × IsUnserved source text × (end ≡ Refused) × Appends old new text)
    ⊎ ((objects : List ObjectForm) × IsServed source objects)

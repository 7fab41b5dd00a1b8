-- What a body leaves of the kinds of parts.
use Rattle.std.specs.Prelude.{◌≡◌, List, map}
use Rattle.value_core.specs.declared.datum.Datum.{Datum}
use Rattle.value_core.specs.Contents.{Contents, kind_of}
use Rattle.decl_core.specs.Form.{Body}
use Rattle.decl_core.specs.Meaning.{apply_body}

-- a body leaves each part of the kind that it was of, whatever its typing
abbrev pub KindsStay : Type 0
KindsStay =
    (body : Body) (args : List Datum) (parts : List Contents) →
    map kind_of (apply_body body args parts).1 ≡ map kind_of parts

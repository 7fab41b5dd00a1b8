-- Laws of bodies over what is known of their parts.
use Rattle.std.specs.Prelude.{◌≡◌, List, Ok, Err}
use Rattle.value_core.specs.declared.datum.Datum.{Datum}
use Rattle.value_core.specs.Contents.{Contents}
use Rattle.decl_core.specs.Form.{Body}
use Rattle.decl_core.specs.Meaning.{Changed, Reply, done, refused, apply_body}
use Rattle.known_core.specs.Known.{Known, Agree, Keeps, IsUnknown}
use Rattle.known_core.specs.Partly.{word, needs, Partly, partly_done}

-- What a body that was done on the contents that are seen does on whole contents: it is done with the same reply, and
-- what it leaves agrees on what is known, and keeps the rest.
pub record IsDoneOn (known : Known) (left : Changed) (whole : List Contents)
    (given : Reply × List Contents) : Type 0 where
  pub reply : given.0 ≡ done left.reply
  pub agrees : Agree known left.parts given.1
  pub keeps : Keeps known whole given.1

-- what an evaluation over what is known says of the evaluation on whole contents
abbrev pub Says : Known → Partly Changed → List Contents → Reply × List Contents → Type 0
Says known (Ok left) whole given = IsDoneOn known left whole given
Says known (Err (word w)) whole given = given ≡ (refused w, whole)
Says known (Err (needs p i)) whole given = IsUnknown known whole p i

-- Whatever completes what is known: an evaluation that ends gives what the body gives on the completed contents, and
-- changes only what is known; one that does not end names an element that is there and not known.
abbrev pub OneAnswer : Type 0
OneAnswer =
    (known : Known) (body : Body) (args : List Datum) (seen whole : List Contents) → Agree known seen whole →
    Says known (partly_done known body args seen) whole (apply_body body args whole)

-- what an evaluation comes to does not hang on what is not known
abbrev pub SameEnd : Known → Partly Changed → Partly Changed → Type 0
SameEnd known (Ok left) (Ok other) = (left.reply ≡ other.reply) × Agree known left.parts other.parts
SameEnd known (Ok left) (Err h) = ⊥
SameEnd known (Err h) (Ok other) = ⊥
SameEnd known (Err h) (Err k) = h ≡ k

abbrev pub OneCourse : Type 0
OneCourse =
    (known : Known) (body : Body) (args : List Datum) (seen whole : List Contents) → Agree known seen whole →
    SameEnd known (partly_done known body args seen) (partly_done known body args whole)

-- what an evaluation over what is known says of the body on the contents that it sees
abbrev pub Means : Known → Partly Changed → List Contents → Reply × List Contents → Type 0
Means known (Ok left) parts given = given ≡ (done left.reply, left.parts)
Means known (Err (word w)) parts given = given ≡ (refused w, parts)
Means known (Err (needs p i)) parts given = IsUnknown known parts p i

-- On the contents that it sees, an evaluation that ends is the body itself; one that does not end names an element that
-- is there and not known.
abbrev pub OneMeaning : Type 0
OneMeaning =
    (known : Known) (body : Body) (args : List Datum) (parts : List Contents) →
    Means known (partly_done known body args parts) parts (apply_body body args parts)

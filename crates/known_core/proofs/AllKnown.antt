-- Bodies of which all is known.
use Rattle.std.proofs.Common.{◌≡◌, ℕ, ◌<◌, List, [], length, map, get_or, refl, sym, ap, ◌∙◌, subst}
use Rattle.std.specs.Prelude.{Option, Some, Ok, Err}
use Rattle.std.proofs.lemmas.Option.{slice_get-get_or}
use Rattle.value_core.specs.declared.datum.Datum.{Datum}
use Rattle.value_core.specs.declared.kind.Elem.TheVariants as elem
use Rattle.value_core.specs.Contents.{Contents, array, kind_of, IsContents}
use Rattle.decl_core.specs.Form.{Body}
use Rattle.decl_core.specs.Meaning.{part_at, done, apply_body}
use Rattle.known_core.specs.declared.act.Stop.{Stop}
use Rattle.known_core.specs.declared.act.Stop.TheVariants as stops
use Rattle.known_core.specs.declared.whole.WholeStop.{WholeStop}
use Rattle.known_core.specs.declared.whole.WholeStop.TheVariants as whole_stops
use Rattle.known_core.specs.Breaks.{StopTells, WholeTells, StopsAs, changing}
use Rattle.known_core.specs.Known.{Known}
use Rattle.known_core.specs.Partly.{needs, partly_done}
use Rattle.known_core.specs.Laws.{Means}
use Rattle.known_core.specs.Masks.{known_by}
use Rattle.known_core.specs.Wanted.{AreFull}
use Rattle.known_core.proofs.Courses.{one_meaning}
use Rattle.known_core.proofs.Full.{needs_within, none_needed}

-- an evaluation that was done is the body
pub is_done : (known : Known) (body : Body) (args : List Datum) (parts after : List Contents) (reply : Option Datum) → partly_done known body args parts ≡ Ok (changing after reply) → apply_body body args parts ≡ (done reply, after)
is_done known body args parts after reply is = subst (λ r. Means known r parts (apply_body body args parts)) is (one_meaning known body args parts)

-- one that stopped is refused as the body is
pub tells_whole : (known : Known) (body : Body) (args : List Datum) (parts : List Contents) (stop : Stop) (whole : WholeStop) → StopTells (partly_done known body args parts) stop → StopsAs stop whole → WholeTells (apply_body body args parts).0 whole
tells_whole known body args parts (stops.Refused w) whole tells so =
    subst (WholeTells (apply_body body args parts).0) (sym so) (ap (λ g. g.0) (subst (λ r. Means known r parts (apply_body body args parts)) tells (one_meaning known body args parts)))
tells_whole known body args parts (stops.Needs p i) whole tells so = absurd so
tells_whole known body args parts stops.Memory whole tells so = subst (WholeTells (apply_body body args parts).0) (sym so) tt

-- memory was refused where it was
pub for_memory : (stop : Stop) (whole : WholeStop) → StopsAs stop whole → whole ≡ whole_stops.Memory → stop ≡ stops.Memory
for_memory (stops.Refused w) whole so is = absurd cc
for_memory (stops.Needs p i) whole so is = absurd so
for_memory stops.Memory whole so is = refl

-- a part of which something is needed is there
pub within : (known : Known) (body : Body) (args : List Datum) (parts after : List Contents) (stop : Stop) → StopTells (partly_done known body args parts) stop → length after ≡ length parts → (p i : ℕ) → stop ≡ stops.Needs p i → p < length after
within known body args parts after (stops.Refused w) tells many p i is = absurd cc
within known body args parts after (stops.Needs q j) tells many p i is =
    let same : q ≡ p = cc in
    subst (λ n. p < n) (sym many) (subst (λ k. k < length parts) same (needs_within known body args parts q j tells))
within known body args parts after stops.Memory tells many p i is = absurd cc

-- where all pages are known, nothing is needed
pub none : (masks : List ℕ) (body : Body) (args : List Datum) (parts after : List Contents) (stop : Stop) → AreFull masks → StopTells (partly_done (known_by masks) body args parts) stop → map kind_of after ≡ map kind_of parts
    → (p i : ℕ) → stop ≡ stops.Needs p i → p < 16 → IsContents (part_at after p) → ⊥
none masks body args parts after (stops.Refused w) full tells kinds p i is small contents = absurd cc
none masks body args parts after (stops.Needs q j) full tells kinds p i is small contents =
    let part : q ≡ p = cc in
    let place : j ≡ i = cc in
    none_needed masks body args parts after p i full (subst (λ y. partly_done (known_by masks) body args parts ≡ Err (needs p y)) place (subst (λ x. partly_done (known_by masks) body args parts ≡ Err (needs x j)) part tells)) kinds small contents
none masks body args parts after stops.Memory full tells kinds p i is small contents = absurd cc

-- the value at a place is contents
pub at_index : (parts : List Contents) (p q : ℕ) (v : Contents) → q ≡ p → p < length parts → v ≡ get_or parts q v → IsContents v → IsContents (part_at parts p)
at_index parts p q v same within_parts is contents =
    let found : Some v ≡ Some (part_at parts p) = ap (λ x. Some x) is ∙ ap (λ r. Some (get_or parts r v)) same ∙ sym (slice_get-get_or parts p v within_parts) ∙ slice_get-get_or parts p (array elem.Integer []) within_parts in
    subst IsContents (one v (part_at parts p) found) contents where
      one : (x y : Contents) → Some x ≡ Some y → x ≡ y
      one x y is_same = cc

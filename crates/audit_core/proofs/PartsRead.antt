-- The part at a place.
use Rattle.std.proofs.Common.{◌≡◌, ℕ, ◌<◌, List, length, get_or, refl, sym, ap, subst, ◌∙◌}
use Rattle.std.specs.Prelude.{Option, Some, None, MatchOption, Result, Ok, Err, IfOk, slice_get, option_map}
use Rattle.std.proofs.lemmas.Option.{slice_get_read, slice_get-map}
use Rattle.value_core.specs.declared.kind.Kind.{Kind}
use Rattle.value_core.specs.Contents.{Contents}
use Rattle.value_bytes.specs.Spelling.{SpellsInSome}
use Rattle.decl_core.specs.declared.object.Part.{Part}
use Rattle.decl_core.specs.ObjectMap.{parts_of}
use Rattle.audit_core.specs.Tells.{IsHex}
use Rattle.audit_core.specs.Parts.{IsPartAt}

at_place : (parts : List Part) (place : ℕ) (part : Part) (name : List ℕ) → place < length parts → part ≡ get_or parts place part → part.name ≡ name → slice_get (parts_of parts) place ≡ Some (name, part.kind)
at_place parts place part name within is same =
    slice_get-map (λ p. (p.name, p.kind)) parts place ∙ ap (option_map (λ (p : Part). (p.name, p.kind))) (slice_get_read parts (length parts) place part refl within is) ∙ ap (λ n. Some (n, part.kind)) same

kind_in : Kind → Option (List ℕ × Kind) → Kind
kind_in d None = d
kind_in d (Some p) = p.1

same_kind : (name : List ℕ) (a b : Kind) → (let x : Option (List ℕ × Kind) = Some (name, a) in x ≡ Some (name, b)) → a ≡ b
unfolding kind_in
same_kind name a b e = ap (λ x. kind_in a x) e

part_found : (parts : List Part) (place : ℕ) (name word : List ℕ) (part : Part) (found : Option Contents) → slice_get (parts_of parts) place ≡ Some (name, part.kind)
    → MatchOption found ((bytes : List ℕ) (value : Contents) → IsHex word bytes → SpellsInSome bytes part.kind value → ⊥) (λ value. (bytes : List ℕ) × IsHex word bytes × SpellsInSome bytes part.kind value)
    → MatchOption found ((value : Contents) → IsPartAt (parts_of parts) place name word value → ⊥) (IsPartAt (parts_of parts) place name word)
part_found parts place name word part None there none = λ value is.
    let k : is.kind ≡ part.kind = same_kind name is.kind part.kind (sym is.there ∙ there) in
    none is.bytes value is.is (rw (sym k) is.spells)
part_found parts place name word part (Some value) there is = record { kind = part.kind; there = there; bytes = is.0; is = is.1; spells = is.2 }

pub part_read : {E : Type 0} (parts : List Part) (place : ℕ) (name word : List ℕ) (part : Part) (found : Result (Option Contents) E) → place < length parts → part ≡ get_or parts place part → part.name ≡ name
    → IfOk found (λ f. MatchOption f ((bytes : List ℕ) (value : Contents) → IsHex word bytes → SpellsInSome bytes part.kind value → ⊥) (λ value. (bytes : List ℕ) × IsHex word bytes × SpellsInSome bytes part.kind value))
    → IfOk found (λ f. MatchOption f ((value : Contents) → IsPartAt (parts_of parts) place name word value → ⊥) (IsPartAt (parts_of parts) place name word))
part_read parts place name word part (Err e) within is same of = tt
part_read parts place name word part (Ok f) within is same of = part_found parts place name word part f (at_place parts place part name within is same) of

-- a word is some bytes alone: where they spell no value, none is spelled
pub no_value : (word bytes : List ℕ) (kind : Kind) → IsHex word bytes → ((value : Contents) → SpellsInSome bytes kind value → ⊥) → (other : List ℕ) (value : Contents) → IsHex word other → SpellsInSome other kind value → ⊥
no_value word bytes kind is none other value its spells =
    let e : Ok other ≡ Ok bytes = sym its.read ∙ is.read in
    let same : other ≡ bytes = cc in
    none value (subst (λ (b : List ℕ). SpellsInSome b kind value) same spells)

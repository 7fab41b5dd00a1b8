-- A value that is held in its bytes.
use Rattle.std.proofs.Common.{◌≡◌, ℕ, List, [], ◌++◌, arith, Result, Ok, Err, refl, sym, ap, ◌∙◌, subst}
use Rattle.value_core.specs.declared.kind.Elem.{Elem}
use Rattle.value_core.specs.declared.kind.Kind.{Kind}
use Rattle.value_core.specs.declared.kind.Kind.TheVariants as kind
use Rattle.value_core.specs.declared.refusal.Refusal.{Refusal}
use Rattle.value_core.specs.declared.refusal.GrowFault.{GrowFault}
use Rattle.value_core.specs.declared.refusal.GrowFault.TheVariants.{Refused, Memory}
use Rattle.value_core.specs.Kinds.{sort_of, IsArray, IsQueue, IsTable}
use Rattle.std.proofs.lemmas.List.{append-nil}
use Rattle.std.proofs.lemmas.List.Elements.{All-nil}
use Rattle.value_core.specs.Datum.{IsElement}
use Rattle.value_core.specs.Contents.{Contents, queue, kind_of}
use Rattle.value_bytes.specs.Spelling.{header, Spells}
use Rattle.apply_core.proofs.Shapes.{queue_spells}
use Rattle.apply_core.specs.There.{contents_there}
use Rattle.apply_core.specs.Remade.{SpellNew, Remade, Turned}
use Rattle.apply_core.proofs.Theres.{bytes_tell}

as_queue : (k : Kind) → IsQueue k → k ≡ kind.Queue (sort_of k)
as_queue (kind.Array n e) is = absurd is
as_queue (kind.Queue e) is = refl
as_queue (kind.Table e) is = absurd is

as_table : (k : Kind) → IsTable k → k ≡ kind.Table (sort_of k)
as_table (kind.Array n e) is = absurd is
as_table (kind.Queue e) is = absurd is
as_table (kind.Table e) is = refl

abbrev pub length_of : Kind → ℕ
length_of (kind.Array n e) = n
length_of (kind.Queue e) = 0
length_of (kind.Table e) = 0

as_array : (k : Kind) → IsArray k → k ≡ kind.Array (length_of k) (sort_of k)
as_array (kind.Array n e) is = refl
as_array (kind.Queue e) is = absurd is
as_array (kind.Table e) is = absurd is

-- what is held, in the kind that it is of
pub held : (bytes : List ℕ) (k : Kind) (there v : Contents) → Spells bytes k there → there ≡ v → Spells bytes k v
held bytes k there v is same = subst (λ w. Spells bytes k w) same is

pub queue_kind : (k : Kind) (v : Contents) (e : Elem) → kind_of v ≡ k → IsQueue (kind_of v) → e ≡ sort_of (kind_of v) → k ≡ kind.Queue e
queue_kind k v e same is sort = sym same ∙ as_queue (kind_of v) is ∙ ap kind.Queue (sym sort)

pub table_kind : (k : Kind) (v : Contents) (e : Elem) → kind_of v ≡ k → IsTable (kind_of v) → e ≡ sort_of (kind_of v) → k ≡ kind.Table e
table_kind k v e same is sort = sym same ∙ as_table (kind_of v) is ∙ ap kind.Table (sym sort)

pub array_kind : (k : Kind) (v : Contents) (e : Elem) → kind_of v ≡ k → IsArray (kind_of v) → e ≡ sort_of (kind_of v) → k ≡ kind.Array (length_of (kind_of v)) e
array_kind k v e same is sort = sym same ∙ as_array (kind_of v) is ∙ ap (λ s. kind.Array (length_of (kind_of v)) s) (sym sort)

pub as_kind : (bytes : List ℕ) (k j : Kind) (v : Contents) → k ≡ j → Spells bytes k v → Spells bytes j v
as_kind bytes k j v same is = subst (λ l. Spells bytes l v) same is

-- new bytes, held
pub record Fresh (k : Kind) (out : List ℕ) (meaning : Result Contents Refusal) : Type 0 where
  pub spelled : Spells out k (contents_there k out)
  pub means : meaning ≡ Ok (contents_there k out)

pub fresh : (k j : Kind) (out : List ℕ) (meaning : Result Contents Refusal) → k ≡ j → SpellNew j out meaning → Fresh k out meaning
fresh k j out meaning same made =
    let is : Spells out k made.0 = subst (λ l. Spells out l made.0) (sym same) made.2 in
    let told : contents_there k out ≡ made.0 = bytes_tell out k made.0 is in
    record { spelled = subst (λ v. Spells out k v) (sym told) is; means = made.1 ∙ ap Ok (sym told) }

-- bytes that were read, held
pub found : (k : Kind) (bytes : List ℕ) (v : Contents) → Spells bytes k v → Spells bytes k (contents_there k bytes)
found k bytes v is = subst (λ w. Spells bytes k w) (sym (bytes_tell bytes k v is)) is

-- what was not done left all
pub undone : (k : Kind) (fault : GrowFault) (meaning : Result Contents Refusal) (old new : Contents) → Remade k (Err fault) meaning → new ≡ old → Turned (Err fault) meaning old new
undone k (Refused word) meaning old new is same = (is, same)
undone k Memory meaning old new is same = (is, same)

-- the same, as an operation sees it
pub held_as : (bytes seen : List ℕ) (k j : Kind) (there v : Contents) → Spells bytes k there → there ≡ v → seen ≡ bytes → k ≡ j → Spells seen j v
held_as bytes seen k j there v is same at kinds =
    subst (λ b. Spells b j v) (sym at) (subst (λ l. Spells bytes l v) kinds (subst (λ w. Spells bytes k w) same is))

pub held_kind : (bytes : List ℕ) (k : Kind) (there v : Contents) → Spells bytes k there → there ≡ v → kind_of v ≡ k
held_kind bytes k there v is same = sym (ap kind_of same) ∙ is.kind

-- the kind of new bytes
pub fresh_kind : (k : Kind) (out : List ℕ) (meaning : Result Contents Refusal) (v : Contents) → Fresh k out meaning → kind_of v ≡ k → kind_of (contents_there k out) ≡ kind_of v
fresh_kind k out meaning v made is = made.spelled.kind ∙ sym is

-- an empty queue
pub opening : (bytes : List ℕ) (e : Elem) → bytes ≡ (header (kind.Queue e) 0 ++ []) ++ [] → Spells bytes (kind.Queue e) (queue e [])
opening bytes e made =
    queue_spells bytes e 0 [] (All-nil (IsElement e)) (omega arith) refl (made ∙ append-nil (header (kind.Queue e) 0 ++ []))

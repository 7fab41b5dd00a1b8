-- What changes where one client does.
use Rattle.std.proofs.Common.{◌≡◌, ◌≢◌, ◌<◌, ℕ, zero, suc, List, [], ◌∷◌, length, Bool, false, Option, Some, None, IfSome, IfNone, refl, sym, ◌∙◌, ap, subst}
use Rattle.std.specs.Prelude.{slice_get, slice_set, slice_index_or}
use Rattle.std.proofs.lemmas.Option.{slice_get-get_or}
use Rattle.guest_core.specs.declared.guest.Guest.{Guest}
use Rattle.guest_core.specs.Keys.{Keys, fresh_keys}
use Rattle.guest_core.specs.Guests.{guest_of}
use Rattle.guest_core.proofs.Items.{one_item}

pub set_same : {X : Type 0} (xs : List X) (k : ℕ) (x : X) → slice_get xs k ≡ Some x → slice_set xs k x ≡ xs
set_same [] k x is = refl
set_same (y ∷ xs) zero x is = ap (λ z. z ∷ xs) (one_item (y ∷ xs) 0 x y is refl)
set_same (y ∷ xs) (suc k) x is = ap (λ zs. y ∷ zs) (set_same xs k x is)

pub here : (items now : List Guest) (place : ℕ) (x : Guest) → items ≡ now → place < length now → x ≡ slice_index_or items place x → slice_get items place ≡ Some x
here items now place x same within is = slice_get-get_or items place x (subst (λ (gs : List Guest). place < length gs) (sym same) within) ∙ ap Some (sym is)

own : (items now : List Guest) (place : ℕ) (x g : Guest) → items ≡ now → slice_get items place ≡ Some x → slice_get now place ≡ Some g → x ≡ g
own items now place x g same there is = one_item now place x g (subst (λ gs. slice_get gs place ≡ Some x) same there) is

pub set_at : (items now : List Guest) (place : ℕ) (x y : Guest) (change : Guest → Guest) → items ≡ now → slice_get items place ≡ Some x → y ≡ change x
    → (g : Guest) → slice_get now place ≡ Some g → slice_set items place y ≡ slice_set now place (change g)
set_at items now place x y change same there is g at =
    ap (λ gs. slice_set gs place y) same ∙ ap (slice_set now place) (is ∙ ap change (own items now place x g same there at))

pub keys_set : (items now : List Guest) (place : ℕ) (x y : Guest) (Does : Keys → Keys → Type 0) → items ≡ now → slice_get items place ≡ Some x → (keys : Keys) × Does x.keys keys × (y ≡ record x { keys = keys })
    → (g : Guest) → slice_get now place ≡ Some g → (keys : Keys) × Does g.keys keys × (slice_set items place y ≡ slice_set now place (record g { keys = keys }))
keys_set items now place x y Does same there done g at = (
  done.0,
  subst (λ (z : Guest). Does z.keys done.0) (own items now place x g same there at) done.1,
  set_at items now place x y (λ z. record z { keys = done.0 }) same there done.2 g at,
)

pub came : (answer : Option (ℕ × ℕ)) (items now : List Guest) (place : ℕ) (x y : Guest) → items ≡ now → slice_get items place ≡ Some x
    → IfSome answer (λ r. (x.away ≢ None) × (r.0 ≡ x.session) × (r.1 ≡ x.keys.next) × (y ≡ record x { away = None }))
    → IfSome answer (λ r. (g : Guest) → slice_get now place ≡ Some g → (g.away ≢ None) × (r.0 ≡ g.session) × (r.1 ≡ g.keys.next) × (slice_set items place y ≡ slice_set now place (record g { away = None })))
came None items now place x y same there done = tt
came (Some r) items now place x y same there done = λ g at.
    let e = own items now place x g same there at in (
      subst (λ (z : Guest). z.away ≢ None) e done.0,
      done.1 ∙ ap (λ (z : Guest). z.session) e,
      done.2 ∙ ap (λ (z : Guest). z.keys.next) e,
      set_at items now place x y (λ z. record z { away = None }) same there done.3 g at,
    )

-- nothing changes
stays : (items now : List Guest) (place : ℕ) (x y : Guest) → items ≡ now → slice_get items place ≡ Some x → y ≡ x → slice_set items place y ≡ now
stays items now place x y same there is = ap (slice_set items place) is ∙ set_same items place x there ∙ same

pub came_not : (answer : Option (ℕ × ℕ)) (items now : List Guest) (place : ℕ) (x y : Guest) → items ≡ now → slice_get items place ≡ Some x → IfNone answer ((x.away ≡ None) × (y ≡ x))
    → IfNone answer (((g : Guest) → slice_get now place ≡ Some g → g.away ≡ None) × (slice_set items place y ≡ now))
came_not (Some r) items now place x y same there done = tt
came_not None items now place x y same there done =
    (λ g at. ap (λ (z : Guest). z.away) (sym (own items now place x g same there at)) ∙ done.0, stays items now place x y same there done.1)

pub went_not : (answer : Bool) (items now : List Guest) (place : ℕ) (x y : Guest) → items ≡ now → slice_get items place ≡ Some x → (answer ≡ false → (x.away ≢ None) × (y ≡ x))
    → answer ≡ false → ((g : Guest) → slice_get now place ≡ Some g → g.away ≢ None) × (slice_set items place y ≡ now)
went_not answer items now place x y same there done off =
    (λ g at none. (done off).0 (ap (λ (z : Guest). z.away) (own items now place x g same there at) ∙ none), stays items now place x y same there (done off).1)

abbrev with_them : List ℕ → ℕ → Option ℕ → Keys → Guest
with_them n s a k = record { name = n; session = s; away = a; keys = k }

pub restarted : (items now : List Guest) (place session first : ℕ) (away : Option ℕ) (keys : Keys) (x y : Guest) → items ≡ now → slice_get items place ≡ Some x → keys ≡ fresh_keys first
    → y ≡ record { name = x.name; session = session; away = away; keys = keys } → (g : Guest) → slice_get now place ≡ Some g → slice_set items place y ≡ slice_set now place (guest_of g.name session away first)
restarted items now place session first away keys x y same there fresh is =
    set_at items now place x y (λ z. guest_of z.name session away first) same there (is ∙ ap (λ k. with_them x.name session away k) fresh)

pub was_session : (items now : List Guest) (place s : ℕ) (x : Guest) → items ≡ now → slice_get items place ≡ Some x → s ≡ x.session → (g : Guest) → slice_get now place ≡ Some g → s ≡ g.session
was_session items now place s x same there is g at = is ∙ ap (λ (z : Guest). z.session) (own items now place x g same there at)

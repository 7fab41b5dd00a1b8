-- What is known of clients, by their places.
use Rattle.std.proofs.Common.{◌≡◌, ◌∙◌, ap, sym, ℕ}
use Rattle.std.specs.Prelude.{Option, slice_get}
use Rattle.std.proofs.lemmas.Option.{slice_get-map}
use Rattle.client_core.specs.declared.clients.ClientPlaces.{ClientPlaces}
use Rattle.client_core.specs.People.{Person, person_of, person_in, people_of}
use Rattle.client_core.specs.Places.{place_at}

-- what is told of the one at a place is told of the one there among all
pub told_at : {X : Type 0} (tell : Option Person → X) (clients : ClientPlaces) (place : ℕ) (x : X) → x ≡ tell (person_in (place_at clients place)) →
    x ≡ tell (slice_get (people_of clients) place)
told_at tell clients place x is = is ∙ ap tell (sym (slice_get-map person_of clients.rows.items place))

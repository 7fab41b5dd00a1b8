-- Pins, and how they are kept in a fixed row.
use Rattle.std.specs.Prelude.{◌≡◌, ℕ, ◌-◌, ◌≤◌, List, [], ◌∷◌, ◌++◌, length, take, drop, replicate}
use Rattle.std.proofs.Common.{sym, ap, ◌∙◌, arith, length-take}
use Rattle.std.proofs.lemmas.List.{take-append-drop}
use Rattle.device_core.specs.declared.hand.Stamp.{Stamp}
use Rattle.page_core.specs.Cut.{no_stamp}
use Rattle.page_core.specs.declared.pins.Pins.TheInside.{Inside}

-- an object has at most so many parts
abbrev pub most_pins : ℕ
most_pins = 16

-- what stands behind the pins
abbrev pub no_pages : List Stamp
no_pages = no_stamp ∷ []

-- the pins are the front of their row
abbrev pub pins_of : Inside → List (List Stamp)
pins_of a = take a.len a.row

-- behind the pins their row has page lists of nothing
pub record IsKept (a : Inside) : Type 0 where
  pub whole : length a.row ≡ most_pins
  pub len : a.len ≤ most_pins
  pub rest : drop a.len a.row ≡ replicate (most_pins - a.len) no_pages

-- how pins are kept
abbrev pub inside_of : List (List Stamp) → Inside
inside_of t = record { row = t ++ replicate (most_pins - length t) no_pages; len = length t }

pub pins_again : (a : Inside) → IsKept a → inside_of (pins_of a) ≡ a
pins_again a is =
    let len : length (take a.len a.row) ≡ a.len = omega (arith, length-take a.len a.row, is.len, is.whole) in
    let row : take a.len a.row ++ replicate (most_pins - length (take a.len a.row)) no_pages ≡ a.row =
    ap (λ n. take a.len a.row ++ replicate (most_pins - n) no_pages) len
    ∙ ap (λ (t : List (List Stamp)). take a.len a.row ++ t) (sym is.rest) ∙ take-append-drop a.len a.row in
    λ i. record { row = row i; len = len i }

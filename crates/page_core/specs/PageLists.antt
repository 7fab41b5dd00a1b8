-- Page lists, and how they are kept in a fixed row.
use Rattle.std.specs.Prelude.{◌≡◌, ◌-◌, ◌<◌, ◌≤◌, List, ◌++◌, length, take, drop, replicate}
use Rattle.std.proofs.Common.{sym, ap, ◌∙◌, arith, length-take}
use Rattle.std.proofs.lemmas.List.{take-append-drop}
use Rattle.device_core.specs.declared.hand.Stamp.{Stamp}
use Rattle.page_core.specs.declared.page_list.PageList.TheInside.{Inside}
use Rattle.page_core.specs.Cut.{most_pages, no_stamp}

-- the stamps are the front of their row
abbrev pub stamps_of : Inside → List Stamp
stamps_of a = take a.len a.row

-- behind the stamps their row has stamps of nothing
pub record IsKept (a : Inside) : Type 0 where
  pub whole : length a.row ≡ most_pages
  pub some : 0 < a.len
  pub len : a.len ≤ most_pages
  pub rest : drop a.len a.row ≡ replicate (most_pages - a.len) no_stamp

-- how stamps are kept
abbrev pub inside_of : List Stamp → Inside
inside_of t = record { row = t ++ replicate (most_pages - length t) no_stamp; len = length t }

pub stamps_again : (a : Inside) → IsKept a → inside_of (stamps_of a) ≡ a
stamps_again a is =
    let len : length (take a.len a.row) ≡ a.len = omega (arith, length-take a.len a.row, is.len, is.whole) in
    let row : take a.len a.row ++ replicate (most_pages - length (take a.len a.row)) no_stamp ≡ a.row =
    ap (λ n. take a.len a.row ++ replicate (most_pages - n) no_stamp) len
    ∙ ap (λ (t : List Stamp). take a.len a.row ++ t) (sym is.rest) ∙ take-append-drop a.len a.row in
    λ i. record { row = row i; len = len i }

-- Texts, and how one is kept in a fixed row.
use Rattle.std.specs.Prelude.{◌≡◌, ℕ, ◌-◌, ◌≤◌, List, ◌++◌, length, take, drop, replicate, All}
use Rattle.std.proofs.Common.{sym, ap, ◌∙◌, arith, length-take}
use Rattle.std.proofs.lemmas.List.{take-append-drop}
use Rattle.value_core.specs.Plain.{IsPlain}
use Rattle.value_core.specs.Limits.{most_text_bytes}
use Rattle.value_core.specs.declared.text.Text.TheInside.{Inside}

-- the text is the front of its row
abbrev pub text_of : Inside → List ℕ
text_of a = take a.len a.row

-- behind the text its row has zeros
pub record IsKept (a : Inside) : Type 0 where
  pub whole : length a.row ≡ most_text_bytes
  pub len : a.len ≤ most_text_bytes
  pub rest : drop a.len a.row ≡ replicate (most_text_bytes - a.len) 0
  pub plain : All IsPlain (take a.len a.row)

-- how a text is kept
abbrev pub inside_of : List ℕ → Inside
inside_of t = record { row = t ++ replicate (most_text_bytes - length t) 0; len = length t }

pub text_again : (a : Inside) → IsKept a → inside_of (text_of a) ≡ a
text_again a is =
    let len : length (take a.len a.row) ≡ a.len = omega (arith, length-take a.len a.row, is.len, is.whole) in
    let row : take a.len a.row ++ replicate (most_text_bytes - length (take a.len a.row)) 0 ≡ a.row =
    ap (λ n. take a.len a.row ++ replicate (most_text_bytes - n) 0) len
    ∙ ap (λ (t : List ℕ). take a.len a.row ++ t) (sym is.rest) ∙ take-append-drop a.len a.row in
    λ i. record { row = row i; len = len i }

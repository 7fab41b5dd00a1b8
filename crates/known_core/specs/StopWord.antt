-- A short word, and how it is kept in a fixed row.
use Rattle.std.specs.Prelude.{◌≡◌, ℕ, ◌-◌, ◌≤◌, List, ◌++◌, length, take, drop, replicate}
use Rattle.std.proofs.Common.{sym, ap, ◌∙◌, arith, length-take}
use Rattle.std.proofs.lemmas.List.{take-append-drop}
use Rattle.value_core.specs.Plain.{IsText}
use Rattle.known_core.specs.declared.stop_word.StopWord.TheInside.{Inside}

-- the word is the front of its row
abbrev pub word_kept : Inside → List ℕ
word_kept a = take a.len a.row

-- it is a text, and behind it its row of 16 bytes has zeros
pub record IsKeptWord (a : Inside) : Type 0 where
  pub whole : length a.row ≡ 16
  pub len : a.len ≤ 16
  pub rest : drop a.len a.row ≡ replicate (16 - a.len) 0
  pub text : IsText (take a.len a.row)

-- how a word is kept
abbrev pub word_inside : List ℕ → Inside
word_inside t = record { row = t ++ replicate (16 - length t) 0; len = length t }

pub word_again : (a : Inside) → IsKeptWord a → word_inside (word_kept a) ≡ a
word_again a is =
    let len : length (take a.len a.row) ≡ a.len = omega (arith, length-take a.len a.row, is.len, is.whole) in
    let row : take a.len a.row ++ replicate (16 - length (take a.len a.row)) 0 ≡ a.row =
    ap (λ n. take a.len a.row ++ replicate (16 - n) 0) len
    ∙ ap (λ (t : List ℕ). take a.len a.row ++ t) (sym is.rest) ∙ take-append-drop a.len a.row in
    λ i. record { row = row i; len = len i }

-- A short word in its row.
use Rattle.std.proofs.Common.{◌≡◌, ℕ, ◌≤◌, ◌-◌, List, ◌++◌, length, drop, replicate, refl, sym, ap, ◌∙◌, subst, arith, length-append}
use Rattle.std.proofs.lemmas.List.{drop-replicate, take_at, drop_at, length-replicate}
use Rattle.value_core.specs.Plain.{IsText}
use Rattle.known_core.specs.StopWord.{IsKeptWord}

-- bytes written over the front of a row of zeros
pub kept : (bytes row : List ℕ) → row ≡ bytes ++ drop (length bytes) (replicate 16 0) → length bytes ≤ 16 → IsText bytes → IsKeptWord (record { row = row; len = length bytes })
kept bytes row is len text =
    let pad : row ≡ bytes ++ replicate (16 - length bytes) 0 = is ∙ ap (λ (t : List ℕ). bytes ++ t) (drop-replicate (length bytes) 16 0) in
    record {
      whole = rw pad (omega (arith, length-append bytes (replicate (16 - length bytes) 0), length-replicate {A = ℕ} (16 - length bytes) 0));
      len = len;
      rest = rw pad (drop_at bytes (replicate (16 - length bytes) 0) (length bytes) refl);
      text = rw pad (subst IsText (sym (take_at bytes (replicate (16 - length bytes) 0) (length bytes) refl)) text);
    }

-- A text in its row.
use Rattle.std.proofs.Common.{◌≡◌, ℕ, ◌≤◌, ◌-◌, List, ◌++◌, length, drop, replicate, All, refl, sym, ap, ◌∙◌, subst, arith, length-append}
use Rattle.std.proofs.lemmas.List.{drop-replicate, take_at, drop_at, length-replicate}
use Rattle.value_core.specs.Limits.{most_text_bytes}
use Rattle.value_core.specs.Plain.{IsPlain}
use Rattle.value_core.specs.Text.{IsKept}

-- bytes written over the front of a row of zeros
pub kept : (bytes row : List ℕ) → row ≡ bytes ++ drop (length bytes) (replicate most_text_bytes 0) → length bytes ≤ most_text_bytes → All IsPlain bytes → IsKept (record { row = row; len = length bytes })
kept bytes row is len plain =
    let pad : row ≡ bytes ++ replicate (most_text_bytes - length bytes) 0 = is ∙ ap (λ (t : List ℕ). bytes ++ t) (drop-replicate (length bytes) most_text_bytes 0) in
    record {
      whole = rw pad (omega (arith, length-append bytes (replicate (most_text_bytes - length bytes) 0), length-replicate {A = ℕ} (most_text_bytes - length bytes) 0));
      len = len;
      rest = rw pad (drop_at bytes (replicate (most_text_bytes - length bytes) 0) (length bytes) refl);
      plain = rw pad (subst (All IsPlain) (sym (take_at bytes (replicate (most_text_bytes - length bytes) 0) (length bytes) refl)) plain);
    }

-- Items one after the other, each read with what those before it gave.
use Rattle.std.specs.Prelude.{◌≡◌, ℕ, zero, suc, List, Bool, true, false, Option, Some, None}
use Rattle.path_tree.specs.Lexeme.{Lexeme}
use Rattle.token_read.specs.Reader.{◌>>=◌, Reader}

-- As many items as begin one after the other, at most so many: what was there before them, and what
-- is there behind them.
pub data IsSeries {S : Type 0} (IsItem : S → List Lexeme → S → List Lexeme → Type 0) (begins : List Lexeme → Bool) : ℕ →
    S → List Lexeme → S → List Lexeme → Type 0 where
  no_more : {left : ℕ} {s : S} {ws : List Lexeme} → begins ws ≡ false → IsSeries IsItem begins left s ws s ws
  and_another : {left : ℕ} {s t u : S} {ws vs rest : List Lexeme} → begins ws ≡ true → IsItem s ws t vs →
      IsSeries IsItem begins left t vs u rest → IsSeries IsItem begins (suc left) s ws u rest

-- items one after the other, at most so many, read from left to right, where another begins or not
unfoldable pub series_by : {S : Type 0} → (S → Reader S) → (List Lexeme → Bool) → ℕ → S → List Lexeme → Bool →
    Option (S × List Lexeme)
series_by item begins left s ws false = Some (s, ws)
series_by item begins zero s ws true = None
series_by item begins (suc left) s ws true = item s ws >>= λ x. series_by item begins left x.0 x.1 (begins x.1)

abbrev pub series_at : {S : Type 0} → (S → Reader S) → (List Lexeme → Bool) → ℕ → S → Reader S
series_at item begins left s ws = series_by item begins left s ws (begins ws)

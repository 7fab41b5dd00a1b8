use Rattle.std.proofs.Common.{◌≡◌, ℕ, length, slice_get}
use Rattle.std.specs.Prelude.{false, None, []}
use Rattle.client_core.specs.Places.{held_in, is_here_in, opened_in}
use Rattle.client_core.proofs.clients.no_rows.Given as goal

abbrev pub invariant-loop-row : goal.invariant-loop-row
invariant-loop-row l = record {
  count : length l.rows.items ≡ l._row;
  nobody : (k : ℕ) → is_here_in (slice_get l.rows.items k) ≡ false;
  opened : (k : ℕ) → opened_in (slice_get l.rows.items k) ≡ None;
  held : (k : ℕ) → held_in (slice_get l.rows.items k) ≡ [];
}

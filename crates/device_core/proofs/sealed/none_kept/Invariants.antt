use Rattle.std.proofs.Common.{◌≡◌, None, All, length}
use Rattle.device_core.proofs.sealed.none_kept.Given as goal

abbrev pub invariant-loop : goal.invariant-loop
invariant-loop l = record {
  many : length l.files.items ≡ l.counter;
  none : All (λ kept. kept.number ≡ None) l.files.items;
}

use Rattle.std.proofs.Common.{◌≡◌, length}
use Rattle.path_count.specs.Steps.{AllZero}
use Rattle.path_count.proofs.compile.no_calls.Given as goal

abbrev pub invariant-loop : goal.invariant-loop
invariant-loop l = record {
  size : length l.running.items ≡ l.counter;
  zero : AllZero l.running.items;
}

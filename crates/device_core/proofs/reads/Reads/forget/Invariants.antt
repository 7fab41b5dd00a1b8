use Rattle.std.proofs.Common.{◌≡◌, ◌≢◌, ◌<◌, ℕ, List, Some, length}
use Rattle.std.specs.Prelude.{slice_get}
use Rattle.device_core.specs.declared.hand.Stamp.{Stamp}
use Rattle.device_core.specs.declared.reads.KeptRead.{KeptRead}
use Rattle.device_core.specs.Reads.{IsAmong}
use Rattle.device_core.proofs.reads.Reads.forget.Given as goal

abbrev pub invariant-loop-kept : goal.invariant-loop-kept
invariant-loop-kept l = record {
  many : length l.kept-items ≡ length l.initial.kept-items;
  from : (s : Stamp) (k : ℕ) (b : List ℕ) → IsAmong l.kept-items s k b → IsAmong l.initial.kept-items s k b;
  gone : (p : ℕ) (x : KeptRead) (s : Stamp) (k : ℕ) → p < l.kept-index → slice_get l.kept-items p ≡ Some x → x.of ≡ Some (s, k) → s.number ≢ l.number;
}

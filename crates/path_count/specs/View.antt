-- What counters hold, without where it lies in memory.
use Rattle.std.specs.Prelude.{map}
use Rattle.path_count.specs.declared.counters.Counters.TheInside.{Inside}
use Rattle.path_count.specs.State.{State}
use Rattle.path_count.specs.Steps.{steps_of}

abbrev pub state_of : Inside → State
state_of a = record {
  words = a.words.items;
  starts = map (λ o. steps_of o.starts.items) a.operations.items;
  finishes = map (λ o. steps_of o.finishes.items) a.operations.items;
  running = a.running.items;
  taken = a.taken;
}

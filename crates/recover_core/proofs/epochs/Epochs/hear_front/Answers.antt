use Rattle.live_core.specs.Front.{opening_of}
use Rattle.recover_core.proofs.epochs.Epochs.hear_front.Goals as goal

pub returns-in-Ok : goal.returns-in-Ok
returns-in-Ok c = record {
  front = opening_of c.args.front;
  came = c.in-Ok.came;
  read = rw c.in-Ok.is at c.in_ok-fault-2.ensures;
  follows = rw c.in_default.is at c.in_ok-fault.ensures;
  last = c.take.ensures.last;
  count = c.take.ensures.count;
  entries = c.take.ensures.entries;
}

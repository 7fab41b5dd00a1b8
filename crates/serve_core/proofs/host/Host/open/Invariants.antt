use Rattle.std.proofs.Common.{◌≡◌, length}
use Rattle.std.specs.Vec.Iter.{into_iter_items, into_iter_len}
use Rattle.serve_core.specs.Runs.{named_in}
use Rattle.serve_core.proofs.Openings.{OpenedSoFar}
use Rattle.serve_core.proofs.host.Host.open.Given as goal

abbrev pub invariant-loop-accepted : goal.invariant-loop-accepted
invariant-loop-accepted g l =
    let holds = g.S.Shelf.holds in
    let agrees = g.K.Hand.agrees in
    record {
      so : OpenedSoFar (holds l.fn.self.closing.parts) (holds l.self.closing.parts) (agrees l.fn.self.closing.hand) (agrees l.self.closing.hand) l.fn.ready.items (into_iter_items l.accepted-iterator) (into_iter_len l.accepted-iterator) (named_in l.served.offices.items) l.served.openings.items;
      many : length l.served.openings.items ≡ length l.served.offices.items;
      traces : l.self.closing.traces ≡ l.fn.self.closing.traces;
      trouble : l.self.closing.trouble ≡ l.fn.self.closing.trouble;
      hands : l.self.hands.items ≡ l.fn.self.hands.items;
    }

use Rattle.std.proofs.Common.{◌≡◌, length}
use Rattle.std.specs.Vec.Iter.{into_iter_items, into_iter_len}
use Rattle.serve_core.specs.Gathers.{slips_in}
use Rattle.serve_core.specs.Runs.{named_in}
use Rattle.keep_core.specs.Moments.{moment_of}
use Rattle.serve_core.proofs.Closing.{due_of, ClosedSoFar}
use Rattle.serve_core.proofs.host.close_all.Given as goal

abbrev pub invariant-loop-named : goal.invariant-loop-named
invariant-loop-named g l =
    let contents = g.W.Write.contents in
    record {
      so : ClosedSoFar g.H.Hand.agrees (moment_of g.S.Shelf.holds g.T.Shelf.holds g.K.Hand.agrees l.fn.closing (contents l.fn.writer)) (moment_of g.S.Shelf.holds g.T.Shelf.holds g.K.Hand.agrees l.closing (contents l.writer))
          (due_of (named_in l.fn.served.offices.items) l.fn.served.openings.items (slips_in l.fn.gathered.items))
          (due_of (named_in (into_iter_items l.named-iterator)) (into_iter_items l.values) (slips_in (into_iter_items l.left))) (into_iter_len l.named-iterator);
      values : into_iter_len l.values ≡ into_iter_len l.named-iterator;
      values_items : length (into_iter_items l.values) ≡ into_iter_len l.named-iterator;
      left : into_iter_len l.left ≡ into_iter_len l.named-iterator;
      left_items : length (into_iter_items l.left) ≡ into_iter_len l.named-iterator;
    }

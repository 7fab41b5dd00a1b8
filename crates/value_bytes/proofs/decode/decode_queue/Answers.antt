use Rattle.std.proofs.Common.{◌≡◌, ◌≢◌, ◌+◌, [], length, sym, subst, ◌∙◌, arith, rules}
use Rattle.std.specs.Prelude.{All}
use Rattle.value_core.specs.Datum.{IsElementIn}
use Rattle.value_bytes.specs.Spelling.{spelled_datum_in}
use Rattle.value_core.specs.Queue.{queue_data}
use Rattle.value_bytes.proofs.Decoding.{read_more, All-push, length-push, no_next, no_more}
use Rattle.value_bytes.proofs.decode.decode_queue.Goals as goal

pub returns-in_default-clause-damaged : goal.returns-in_default-clause-damaged
returns-in_default-clause-damaged c = λ _.
    no_next c.args.format c.args.bytes.now c.loop-place.rest.now c.args.sort c.args.count (queue_data c.loop-place.queue) c.loop-place.invariant.each (omega arith) c.loop-place.invariant.parts c.in_default.ensures.none

pub loop-place-preserved : goal.loop-place-preserved
loop-place-preserved c =
    let xs = queue_data c.loop-place.queue in
    record {
      sort = c.in_ok-push.ensures.sort ∙ c.loop-place.invariant.sort;
      each = subst (All (IsElementIn c.args.format c.args.sort)) (sym c.in_ok-push.ensures.ok) (All-push (IsElementIn c.args.format c.args.sort) xs c.in-Some.datum c.loop-place.invariant.each c.in-Some.ensures.some.0);
      many = subst (λ ys. length ys ≡ c.loop-place.place + 1) (sym c.in_ok-push.ensures.ok) (length-push xs c.in-Some.datum c.loop-place.place c.loop-place.invariant.many);
      parts = rw c.in_ok-push.ensures.ok (read_more (spelled_datum_in c.args.format) _ _ _ xs c.in-Some.datum c.loop-place.invariant.parts c.in-Some.ensures.some.1);
    }

pub returns-then-not-is_empty-clause-damaged : goal.returns-then-not-is_empty-clause-damaged
returns-then-not-is_empty-clause-damaged c = λ _.
    let some : c.loop-place.rest.now ≢ [] = search rules in
    no_more c.args.format c.args.bytes.now c.loop-place.rest.now c.args.sort c.args.count (queue_data c.loop-place.queue) c.loop-place.invariant.each (omega arith) c.loop-place.invariant.parts some

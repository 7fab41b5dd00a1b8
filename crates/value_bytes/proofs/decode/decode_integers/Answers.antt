use Rattle.std.proofs.Common.{◌≢◌, [], map, arith, rules}
use Rattle.value_core.specs.declared.datum.Datum.TheVariants as datum
use Rattle.value_core.specs.declared.kind.Elem.TheVariants as elem
use Rattle.value_bytes.proofs.Decoding.{no_next, no_more, no_integer}
use Rattle.value_bytes.proofs.decode.decode_integers.Goals as goal

pub returns-in_default-clause-damaged : goal.returns-in_default-clause-damaged
returns-in_default-clause-damaged c = λ _.
    no_next c.args.format c.args.bytes.now c.loop-place.rest.now elem.Integer c.args.count (map datum.Integer c.loop-place.all.items) c.loop-place.invariant.each (omega arith) c.loop-place.invariant.parts (no_integer c.args.format c.loop-place.rest.now c.in_default.ensures.none)

pub returns-then-not-is_empty-clause-damaged : goal.returns-then-not-is_empty-clause-damaged
returns-then-not-is_empty-clause-damaged c = λ _.
    let some : c.loop-place.rest.now ≢ [] = search rules in
    no_more c.args.format c.args.bytes.now c.loop-place.rest.now elem.Integer c.args.count (map datum.Integer c.loop-place.all.items) c.loop-place.invariant.each (omega arith) c.loop-place.invariant.parts some

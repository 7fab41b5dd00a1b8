use Rattle.std.proofs.Common.{◌<◌, length, slice_index, arith, refl}
use Rattle.inside_core.specs.Labels.{label_byte}
use Rattle.inside_core.proofs.StatusAdding.{flat_more}
use Rattle.inside_core.proofs.labels.push_value.Goals as goal

pub loop-byte-preserved : goal.loop-byte-preserved
loop-byte-preserved c =
    let bytes = c.args.text.now in
    let i = c.loop-byte.byte-index in
    let inside : i < length bytes = omega arith in
    flat_more label_byte c.args.out.now.items c.loop-byte.out.items c.push_byte.new.out.items bytes i 0 (slice_index bytes i) inside refl c.loop-byte.invariant c.in_ok-push_byte.ensures

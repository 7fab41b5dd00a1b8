use Rattle.std.proofs.Common.{◌<◌, length, slice_index, arith, refl}
use Rattle.inside_core.specs.Labels.{with_label}
use Rattle.inside_core.proofs.StatusAdding.{flat_more}
use Rattle.inside_core.proofs.labels.push_labelled.Goals as goal

pub loop-byte-preserved : goal.loop-byte-preserved
loop-byte-preserved c =
    let bytes = c.args.text.now in
    let i = c.loop-byte.byte-index in
    let inside : i < length bytes = omega arith in
    flat_more (with_label c.args.label.now) c.args.out.now.items c.loop-byte.out.items c.push_with_label.new.out.items bytes i 0 (slice_index bytes i) inside refl c.loop-byte.invariant c.in_ok-push_with_label.ensures

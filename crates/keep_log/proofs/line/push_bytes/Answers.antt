use Rattle.std.proofs.Common.{◌<◌, length, slice_index, get_or, arith, refl}
use Rattle.keep_log.specs.Lines.{escaped}
use Rattle.keep_log.proofs.Adding.{flat_more}
use Rattle.keep_log.proofs.line.push_bytes.Goals as goal

pub loop-byte-preserved : goal.loop-byte-preserved
loop-byte-preserved c =
    let bytes = c.args.bytes.now in
    let i = c.loop-byte.byte-index in
    let inside : i < length bytes = omega arith in
    flat_more escaped c.args.out.now.items c.loop-byte.out.items c.push_byte.new.out.items bytes i 0 (slice_index bytes i) inside refl c.loop-byte.invariant c.in_ok-push_byte.ensures

use Rattle.std.proofs.Common.{take, drop, arith}
use Rattle.std.proofs.Math.Seq.{take-add}
use Rattle.std.proofs.lemmas.List.{take_rest, length-drop}
use Rattle.value_core.proofs.Known.{Appends-then}
use Rattle.value_core.proofs.send.write_whole.Goals as goal

pub loop-sent-preserved : goal.loop-sent-preserved
loop-sent-preserved g c =
    let bytes = c.args.bytes.now in
    let more = c.in_ok-sent.ensures.ok in
    record {
      within = omega (arith, rw take_rest at c.in_ok-sent.ensures.bound, length-drop c.loop-sent.sent bytes);
      told = (let h = Appends-then (g.W.Write.contents c.args.writer.now) (g.W.Write.contents c.loop-sent.writer) (g.W.Write.contents c.send_some.new.writer)
          (take c.loop-sent.sent bytes) (take c.in_ok-sent.field-0 (drop c.loop-sent.sent bytes)) c.loop-sent.invariant.told (rw take_rest at more) in
          rw (take-add c.loop-sent.sent c.in_ok-sent.field-0 bytes) h);
    }

use Rattle.std.proofs.Common.{Some, ap, []}
use Rattle.session_text.specs.declared.fault.HearFault.TheVariants as hears
use Rattle.session_core.proofs.Ending.{caused_of, none_said}
use Rattle.session_core.specs.Working.{begins}
use Rattle.session_core.proofs.serve.serve_from.Goals as goal

pub returns-clause-caused : goal.returns-clause-caused
returns-clause-caused g c =
    let w = c.join-worked.result.1 in
    let said = c.into_parts-writer.result in (
      w.fault,
      caused_of g.J.Start.start (g.W.Write.contents said.0) (g.W.Write.contents c.ended.result.writer) w.receipts.items c.ended.result.receipts.items said.1.items c.deref.result.now said.2 w.fault c.ended.result.fault
          c.into_parts-writer.ensures (ap g.W.Write.contents c.ended.ensures.writer) c.ended.ensures.receipts c.deref.ensures.value c.ended.ensures.caused,
    )

pub returns-in-Err-clause-caused : goal.returns-in-Err-clause-caused
returns-in-Err-clause-caused g c = (Some hears.Memory, none_said g.J.Start.start (g.W.Write.contents c.args.connection.writer) c.new.result.items c.requires c.new.ensures.items)

pub returns-in-Err-clause-works : goal.returns-in-Err-clause-works
returns-in-Err-clause-works g c = ([], begins)

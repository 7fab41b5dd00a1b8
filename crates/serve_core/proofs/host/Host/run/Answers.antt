use Rattle.std.proofs.Common.{subst, inr}
use Rattle.device_core.specs.Papers.{Papers}
use Rattle.value_core.specs.declared.machine.LinesFault.TheVariants.{Memory}
use Rattle.serve_core.proofs.Running.{run_served, run_failed, run_none, not_opened, still_pinned, still_parts, still_traces}
use Rattle.serve_core.proofs.host.Host.run.Goals as goal

pub returns : goal.returns
returns g c =
    let opened = c.in-Ok.ensures in
    let still = c.serve-came.ensures in
    run_served c.args.ready.items _ c.end_of.result c.in-Ok-listen.ensures.0 c.in-Ok-listen.ensures.1 c.close.ensures opened.named (still_pinned g.K.Hand.agrees _ _ still opened.pinned)
    (λ papers at. opened.loaded papers (still_parts g.S.Shelf.holds papers still at)) (λ papers at. opened.papers papers (still_parts g.S.Shelf.holds papers still at))
    (λ papers at. subst (λ t. g.T.Shelf.holds t papers) opened.traces (still_traces g.T.Shelf.holds papers still at)) c.end_of.ensures

pub returns-in-Err-new : goal.returns-in-Err-new
returns-in-Err-new g c = inr (run_none _ Memory, c.in-Ok.ensures.hands)

pub returns-in-Err-listen : goal.returns-in-Err-listen
returns-in-Err-listen g c = inr (run_failed _ c.in-Err-listen.fault c.in-Err-listen.ensures, c.in-Ok.ensures.hands)

pub returns-in-Err : goal.returns-in-Err
returns-in-Err g c = inr (not_opened (g.S.Shelf.holds c.open.new.self.closing.parts) c.args.ready.items c.in-Err.why c.tell_not_opened.result c.in-Err.ensures.not c.tell_not_opened.ensures, c.in-Err.ensures.hands)

use Rattle.std.proofs.Common.{◌+◌, refl}
use Rattle.decl_core.specs.ObjectMap.{object_of}
use Rattle.recover_core.proofs.Hearing.{note_taken}
use Rattle.recover_core.proofs.playing.Playing.hear.Goals as goal

pub returns-clause-heard : goal.returns-clause-heard
returns-clause-heard c = λ f now opened heard p.
    let e = rw c.in-Ok.is at (c.in_ok-fault.ensures _ heard p.stands) in
    note_taken (object_of c.args.object.now) f now opened heard c.args.line.now c.args.self.now (record { replay = c.hear.new.self; guests = c.take.new.guests; numbers = c.args.self.now.numbers; now = c.args.self.now.now; ended = c.args.self.now.ended + c.ended_by.result }) c.in-Ok.note c.ended_by.result c.is_rest.result p e
    (c.in_ok-take.ensures.yes (c.if-not-branch.false)) c.ended_by.ensures.counts refl refl refl c.is_rest.ensures

use Rattle.std.proofs.Common.{◌∙◌, ap, Some}
use Rattle.value_core.specs.declared.machine.LinesFault.{LinesFault}
use Rattle.keep_core.specs.Troubles.{first_of}
use Rattle.keep_core.proofs.Keeping.{traces_quiet, traces_not}
use Rattle.keep_core.proofs.close.keep_trace.Goals as goal

pub returns-in-Ok : goal.returns-in-Ok
returns-in-Ok g c = traces_quiet c.args.trouble.now c.in-Ok.ensures.stored

pub returns-in-Err : goal.returns-in-Err
returns-in-Err g c =
    traces_not c.in-Err.fault c.in-Err.ensures.left (c.note.ensures.fault ∙ ap (λ (f : LinesFault). first_of c.args.trouble.now.fault (Some f)) c.fault_of_hand.ensures) c.note.ensures.refused

use Rattle.decl_core.specs.ObjectMap.{object_of}
use Rattle.audit_core.proofs.EpochHearing.{unsaid_bad}
use Rattle.audit_core.proofs.epoch_replay.Replay.hear.Goals as goal

pub returns-in-None : goal.returns-in-None
returns-in-None c = λ e heard s. unsaid_bad (object_of c.args.object.now) e heard c.args.line.now (rw c.in-None.is at c.in_ok-read_line.ensures)

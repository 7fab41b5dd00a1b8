use Rattle.std.proofs.Common.{Some, sym, ap, ◌∙◌}
use Rattle.device_core.specs.Files.{files_of}
use Rattle.world_core.proofs.Showing.{one_value}
use Rattle.world_core.proofs.read.read_value.Goals as goal

pub returns-in-Ok-clause-value : goal.returns-in-Ok-clause-value
returns-in-Ok-clause-value c = λ value shows.
    one_value (files_of c.args.hand.now) c.args.kind c.args.pin.now c.in-Ok.value value c.deref.result.now shows
    (λ a agrees. c.in_ok-bytes.ensures.bytes a agrees ∙ ap Some (sym c.deref.ensures.value)) c.in-Ok.ensures.found

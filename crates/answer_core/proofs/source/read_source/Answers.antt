use Rattle.std.proofs.Common.{ap}
use Rattle.answer_core.proofs.Fronts.{front_known}
use Rattle.answer_core.proofs.source.read_source.Goals as goal

pub returns : goal.returns
returns g c =
    front_known (g.R.Read.remaining c.args.reader) (g.R.Read.remaining c.take.result.inner) c.take.result.limit 65537 c.new-source.result.items c.read_to_end.new.buf.items
    (ap g.R.Read.remaining c.take.ensures.inner) c.take.ensures.limit c.new-source.ensures.items c.in_ok-read_to_end.ensures.bytes

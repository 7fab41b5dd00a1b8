use Rattle.std.specs.Io.KnownBytes.{Appends}
use Rattle.answer_core.proofs.StuckChecks.{cut_on, ended_on}
use Rattle.answer_core.proofs.stuck.check_stuck.Goals as goal

pub returns-clause-ended : goal.returns-clause-ended
returns-clause-ended g c =
    ended_on (g.R.Read.remaining c.args.reader) c.deref.result.now c.in-Ok.source.items (Appends (g.W.Write.contents c.args.writer.now) (g.W.Write.contents c.check_text-ended.new.writer))
    c.check_text-ended.result c.explained_stuck.result c.deref.ensures.value c.explained_stuck.ensures.same c.in-Ok.ensures c.check_text-ended.ensures.ended

pub returns-clause-cut : goal.returns-clause-cut
returns-clause-cut g c =
    cut_on (g.R.Read.remaining c.args.reader) c.deref.result.now c.in-Ok.source.items (Appends (g.W.Write.contents c.args.writer.now) (g.W.Write.contents c.check_text-ended.new.writer))
    c.check_text-ended.result c.explained_stuck.result c.deref.ensures.value c.explained_stuck.ensures.same c.in-Ok.ensures c.check_text-ended.ensures.cut

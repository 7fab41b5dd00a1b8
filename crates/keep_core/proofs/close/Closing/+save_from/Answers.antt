use Rattle.std.proofs.Common.{arith}
use Rattle.keep_core.proofs.Keeping.{saves_none, saves_then}
use Rattle.keep_core.proofs.close.Closing.+save_from.Goals as goal

pub returns-then-first-len-clause-saves : goal.returns-then-first-len-clause-saves
returns-then-first-len-clause-saves g t c = saves_none c.args.self.now.trouble (g.W.Write.contents c.args.writer.now) (omega (arith, c.if-first-len.true, c.len.ensures, c.args.object.now.parts.ok.0))

pub returns-clause-saves : goal.returns-clause-saves
returns-clause-saves g t c = saves_then c.both.result c.save_one-one.ensures.saves c.save_from-more.ensures.saves c.save_from-more.ensures.files c.both.ensures.all c.both.ensures.back

pub returns-clause-files : goal.returns-clause-files
returns-clause-files g t c = λ a is. c.save_one-one.ensures.files a (c.save_from-more.ensures.files a is)

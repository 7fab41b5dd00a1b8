use Rattle.std.proofs.Common.{length, sym, ◌∙◌, ap}
use Rattle.keep_loop.specs.Journal.{written}
use Rattle.taken_core.proofs.Lost.{written_all, written_front}
use Rattle.taken_core.proofs.taken.written_len.Goals as goal

pub returns-in-Some-clause-written : goal.returns-in-Some-clause-written
returns-in-Some-clause-written c = ap length (sym (ap written c.in-Some.ensures.1 ∙ written_front c.in-Some.front.now _ c.in-Some.ensures.0))

pub returns-in-None-clause-written : goal.returns-in-None-clause-written
returns-in-None-clause-written c = ap length (sym (written_all c.args.file.now c.in-None.ensures))

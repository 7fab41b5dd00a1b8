use Rattle.keep_loop.proofs.Taking.{cut_first, cut_taken}
use Rattle.keep_loop.proofs.cut.cut_first.Goals as goal

pub returns-in-Some : goal.returns-in-Some
returns-in-Some c =
    let h = c.in-Some.ensures in
    cut_first c.args.text.now c.in-Some.line.now _ c.in-Some.more.now h.0 h.1 (cut_taken c.args.text.now c.in-Some.line.now c.in-Some.more.now h.1)

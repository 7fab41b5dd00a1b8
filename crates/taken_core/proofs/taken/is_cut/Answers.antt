use Rattle.taken_core.specs.TakeFile.{Lacks}
use Rattle.taken_core.proofs.Formats.{sure, unsure}
use Rattle.taken_core.proofs.Lost.{lacks_test}
use Rattle.taken_core.proofs.taken.is_cut.Goals as goal

pub returns-then-accepts_cut : goal.returns-then-accepts_cut
returns-then-accepts_cut c lacks = let on = c.if-accepts_cut.true in let off = lacks.0 in absurd (cc (on, off))

pub returns-then-branch : goal.returns-then-branch
returns-then-branch c =
    let t = lacks_test c.args.file.now c.written_len-written.result c.in_ok-is_lost.field-0 c.written_len-written.ensures.written c.in_ok-is_lost.ensures in
    (c.if-accepts_cut.false, sure (Lacks c.args.file.now) c.in_ok-is_lost.field-0 c.if-branch.true t)

pub returns : goal.returns
returns c lacks =
    let t = lacks_test c.args.file.now c.written_len-written.result c.in_ok-is_lost.field-0 c.written_len-written.ensures.written c.in_ok-is_lost.ensures in
    unsure (Lacks c.args.file.now) c.in_ok-is_lost.field-0 c.if-branch.false t lacks.1

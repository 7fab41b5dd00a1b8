use Rattle.serve_core.proofs.Numbering.{adds_between}
use Rattle.serve_core.proofs.values.DirValues.listed.Goals as goal

pub loop-entry-preserved : goal.loop-entry-preserved
loop-entry-preserved g c =
    adds_between c.args.first c.args.end c.file_name.result.now c.loop-entry.numbers.items c.add_number.new.numbers.items c.in_ok-add_number.ensures.ok c.loop-entry.invariant

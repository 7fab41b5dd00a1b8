use Rattle.keep_core.specs.Lines.{refused_line}
use Rattle.keep_core.proofs.Telling.{line_told}
use Rattle.keep_core.proofs.close.tell_refused.Goals as goal

pub returns : goal.returns
returns g c =
    line_told c.clear.new.self.items c.push_refused-made.new.line.items c.as_slice.result.now (refused_line c.args.name.now) c.push_refused-made.result c.tell.result c.clear.ensures.items c.push_refused-made.ensures c.as_slice.ensures.value c.tell.ensures

use Rattle.keep_core.specs.Lines.{unsaved_line}
use Rattle.keep_core.proofs.Telling.{line_told}
use Rattle.keep_core.proofs.close.tell_unsaved.Goals as goal

pub returns : goal.returns
returns g c =
    line_told c.clear.new.self.items c.push_unsaved-made.new.line.items c.as_slice.result.now (unsaved_line c.args.object.now c.args.part c.args.pages.now) c.push_unsaved-made.result c.tell.result c.clear.ensures.items c.push_unsaved-made.ensures c.as_slice.ensures.value c.tell.ensures

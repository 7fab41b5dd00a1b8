use Rattle.keep_core.specs.Lines.{untraced_line}
use Rattle.keep_core.proofs.Telling.{line_told}
use Rattle.keep_core.proofs.close.tell_untraced.Goals as goal

pub returns : goal.returns
returns g c =
    line_told c.clear.new.self.items c.push_reply-made.new.out.items c.as_slice.result.now (untraced_line c.args.name.now) c.push_reply-made.result c.tell.result c.clear.ensures.items c.push_reply-made.ensures c.as_slice.ensures.value c.tell.ensures

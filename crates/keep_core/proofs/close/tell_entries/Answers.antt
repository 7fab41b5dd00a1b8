use Rattle.std.proofs.Common.{◌∙◌, sym}
use Rattle.keep_core.specs.Lines.{entries_line}
use Rattle.keep_core.proofs.Telling.{line_told, none_told}
use Rattle.keep_core.proofs.close.tell_entries.Goals as goal

pub returns-then-not-is_kept : goal.returns-then-not-is_kept
returns-then-not-is_kept g c = rw (sym c.is_kept.ensures ∙ c.if-not-is_kept.true) none_told

pub returns : goal.returns
returns g c =
    rw (sym c.is_kept.ensures ∙ c.if-not-is_kept.false)
    (line_told c.clear.new.self.items c.push_entries-made.new.line.items c.as_slice.result.now (entries_line c.args.name.now c.args.entries) c.push_entries-made.result c.tell.result c.clear.ensures.items c.push_entries-made.ensures c.as_slice.ensures.value c.tell.ensures)

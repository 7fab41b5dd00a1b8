use Rattle.std.proofs.Common.{sym, ◌∙◌}
use Rattle.value_bytes.proofs.Apart.{row_behind}
use Rattle.value_bytes.proofs.reader.read_row.Goals as goal

pub returns-in_default-read_datum-clause-none : goal.returns-in_default-read_datum-clause-none
returns-in_default-read_datum-clause-none c = λ row rest is spelled.
    c.in_default-read_datum.ensures.none row.1 rest is.element
    (row_behind c.args.format c.in-Some.front.0 c.in-Some.front.1.now row rest c.in-Some.ensures.some.0 is.key (sym c.in-Some.ensures.some.1 ∙ spelled))

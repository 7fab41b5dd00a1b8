use Rattle.std.proofs.Common.{[], refl}
use Rattle.command_line.proofs.Sorting.{goes_next, goes_alone}
use Rattle.command_line.proofs.watching.take_value.Goals as goal

pub returns-then-stands_alone : goal.returns-then-stands_alone
returns-then-stands_alone c =
    goes_alone c.args.which c.args.word.now [] c.args.found.now c.give.new.found c.take_plain.new.found c.in_ok-next.next (c.if-stands_alone.ensures.yes refl).0 (c.if-stands_alone.ensures.yes refl).1 refl
    c.in_ok-give.ensures c.in_ok-next.ensures

pub returns : goal.returns
returns c = goes_next c.args.which c.args.word.now c.args.found.now c.give-2.new.found (c.if-stands_alone.ensures.no refl) c.in_ok-give-2.ensures

use Rattle.command_line.proofs.Sorting.{goes_joined}
use Rattle.command_line.proofs.watching.take_plain.Goals as goal

pub returns-in_ok-give-in-Given : goal.returns-in_ok-give-in-Given
returns-in_ok-give-in-Given c = goes_joined c.in-Given.which c.args.word.now c.in-Given.value.now c.args.found.now c.give.new.found c.in-Given.ensures c.in_ok-give-in-Given.ensures

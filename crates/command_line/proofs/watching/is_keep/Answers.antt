use Rattle.command_line.proofs.Sorting.{asks_keep}
use Rattle.command_line.proofs.watching.is_keep.Goals as goal

pub returns-in-len2-up : goal.returns-in-len2-up
returns-in-len2-up c = asks_keep c.args.words.now _ c.is_verb.result c.in-len2-up.len_at_least c.is_verb.ensures

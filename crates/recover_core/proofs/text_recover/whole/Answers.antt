use Rattle.std.proofs.Common.{◌≡◌, sym, subst}
use Rattle.keep_loop.specs.Journal.{whole}
use Rattle.keep_loop.proofs.Lines.{recovered_lines}
use Rattle.recover_core.proofs.text_recover.whole.Goals as goal

pub returns-clause-ended : goal.returns-clause-ended
returns-clause-ended c = subst (λ t. whole t ≡ t) (sym c.recovered_len.ensures.lines) (recovered_lines c.args.file.now).ended

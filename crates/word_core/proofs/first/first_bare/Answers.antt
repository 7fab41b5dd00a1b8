use Rattle.std.proofs.Common.{◌∷◌}
use Rattle.word_core.specs.Words.{bare}
use Rattle.word_core.proofs.first.first_bare.Goals as goal

pub returns-in-Bad : goal.returns-in-Bad
returns-in-Bad c = λ word more are. c.in-Bad.ensures (bare word ∷ more) are

use Rattle.std.proofs.Common.{arith}
use Rattle.std.proofs.lemmas.Option.{slice_get_within}
use Rattle.client_core.proofs.away.any_keeps.Goals as goal

pub returns-clause-no : goal.returns-clause-no
returns-clause-no c = λ e k g there keeps. let h = slice_get_within c.args.guests.now k g there in c.loop-place.invariant k g (omega (arith, h)) there keeps

use Rattle.std.proofs.Common.{[], ◌<◌, ◌≤◌}
use Rattle.std.proofs.lemmas.List.Elements.{All-nil}
use Rattle.serve_core.specs.Deeds.{none}
use Rattle.serve_core.proofs.clear.remove_between.Goals as goal

pub returns-in_err-numbers-clause-removed : goal.returns-in_err-numbers-clause-removed
returns-in_err-numbers-clause-removed g c = ([], All-nil (λ n. (c.args.first ≤ n) × (n < c.args.end)), none)

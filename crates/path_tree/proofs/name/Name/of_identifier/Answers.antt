use Rattle.std.proofs.Common.{sym, subst}
use Rattle.path_tree.specs.Identifier.{IsName}
use Rattle.path_tree.proofs.Spelling.{lower_name}
use Rattle.path_tree.proofs.name.Name.of_identifier.Goals as goal

pub invariant_of-result : goal.invariant_of-result
invariant_of-result c = subst IsName (sym c.in_ok-text.ensures) (lower_name c.args.bytes.now c.requires)

use Rattle.decl_parts.proofs.paths.+paths.Given as goal

abbrev pub decreases-paths : goal.decreases-paths
decreases-paths l = l.left

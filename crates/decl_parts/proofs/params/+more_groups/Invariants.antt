use Rattle.decl_parts.proofs.params.+more_groups.Given as goal

abbrev pub decreases-more_groups : goal.decreases-more_groups
decreases-more_groups l = l.left

use Rattle.decl_parts.proofs.parts.+more_parts.Given as goal

abbrev pub decreases-more_parts : goal.decreases-more_parts
decreases-more_parts l = l.left

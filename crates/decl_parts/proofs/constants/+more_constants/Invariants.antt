use Rattle.decl_parts.proofs.constants.+more_constants.Given as goal

abbrev pub decreases-more_constants : goal.decreases-more_constants
decreases-more_constants l = l.left

use Rattle.decl_parts.proofs.constants.+constants.Given as goal

abbrev pub decreases-constants : goal.decreases-constants
decreases-constants l = l.left

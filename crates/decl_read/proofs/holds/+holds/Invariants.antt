use Rattle.decl_read.proofs.holds.+holds.Given as goal

abbrev pub decreases-holds : goal.decreases-holds
decreases-holds l = l.left

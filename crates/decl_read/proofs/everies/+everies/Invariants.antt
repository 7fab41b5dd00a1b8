use Rattle.decl_read.proofs.everies.+everies.Given as goal

abbrev pub decreases-everies : goal.decreases-everies
decreases-everies l = l.left

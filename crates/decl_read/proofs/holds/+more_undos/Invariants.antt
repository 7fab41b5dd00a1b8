use Rattle.decl_read.proofs.holds.+more_undos.Given as goal

abbrev pub decreases-more_undos : goal.decreases-more_undos
decreases-more_undos l = l.left

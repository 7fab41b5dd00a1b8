use Rattle.decl_read.proofs.entry.+entries.Given as goal

abbrev pub decreases-entries : goal.decreases-entries
decreases-entries l = l.left

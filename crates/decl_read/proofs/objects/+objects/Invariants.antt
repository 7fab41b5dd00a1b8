use Rattle.decl_read.proofs.objects.+objects.Given as goal

abbrev pub decreases-objects : goal.decreases-objects
decreases-objects l = l.left

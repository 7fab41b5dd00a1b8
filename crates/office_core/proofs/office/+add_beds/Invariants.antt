use Rattle.office_core.proofs.office.+add_beds.Given as goal

abbrev pub decreases-add_beds : goal.decreases-add_beds
decreases-add_beds l = l.count

use Rattle.keep_loop.proofs.check_lines.+push_check_size.Given as goal

abbrev pub decreases-push_check_size : goal.decreases-push_check_size
decreases-push_check_size l = l.size

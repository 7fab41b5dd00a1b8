use Rattle.keep_loop.proofs.check_lines.+push_hex.Given as goal

abbrev pub decreases-push_hex : goal.decreases-push_hex
decreases-push_hex l = l.places

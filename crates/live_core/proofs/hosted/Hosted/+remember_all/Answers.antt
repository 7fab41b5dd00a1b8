use Rattle.live_core.proofs.Keeping.{remembered_then}
use Rattle.live_core.proofs.hosted.Hosted.+remember_all.Goals as goal

pub returns-in_ok-remember_all-in-Some-clause-remembered :
    goal.returns-in_ok-remember_all-in-Some-clause-remembered
returns-in_ok-remember_all-in-Some-clause-remembered t c =
    remembered_then c.args.self.now c.note.new.self c.remember.new.self c.remember_all.new.self c.in-Some.ran.now c.args.all.now c.in-Some.rest.now
    c.note.ensures c.remember.ensures.remembered c.remember.ensures.left c.in_ok-remember_all-in-Some.ensures.remembered c.in-Some.ensures.cases.0

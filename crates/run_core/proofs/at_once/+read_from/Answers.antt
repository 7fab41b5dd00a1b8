use Rattle.std.proofs.Common.{[], refl, ◌+◌, length, arith}
use Rattle.run_core.specs.Tasks.{task_call}
use Rattle.run_core.specs.AtOnce.{reads_none}
use Rattle.run_core.proofs.AtOnce.{has_place}
use Rattle.run_core.proofs.MadeAtOnce.{part_last, parts_on, pins_still}
use Rattle.run_core.proofs.at_once.+read_from.Goals as goal

pub returns-in-Ok-read_from-clause-found : goal.returns-in-Ok-read_from-clause-found
returns-in-Ok-read_from-clause-found g n c = λ a agrees whole before.
    let there = c.in-Ok-read_from.ensures.kept a agrees in
    c.in-Ok-read_from.ensures.found a agrees whole
    (c.in-Ok.ensures.found a there whole (c.next_is_seen.ensures a (task_call c.args.task.now) c.args.from c.in-Some.part c.args.seen.now.known c.args.seen.now.read.items c.in-Some.ensures.next.0 before))

pub returns-in-Ok-read_from-clause-places : goal.returns-in-Ok-read_from-clause-places
returns-in-Ok-read_from-clause-places g n c =
    has_place (task_call c.args.task.now) c.args.from c.in-Some.part (length c.read_part.new.seen.read.items) (length c.read_from.new.seen.read.items) c.in-Some.ensures.next.0 c.in-Ok.ensures.long c.in-Ok-read_from.ensures.grows c.in-Ok-read_from.ensures.places

pub returns-in-Ok-read_from-clause-grows : goal.returns-in-Ok-read_from-clause-grows
returns-in-Ok-read_from-clause-grows g n c = omega (arith, c.requires, c.in-Some.ensures.next.0.behind, c.in-Ok-read_from.ensures.grows, c.in-Ok.ensures.long)

pub returns-in-Err-clause-makes : goal.returns-in-Err-clause-makes
returns-in-Err-clause-makes g n c = part_last g.H.Hand.makes (task_call c.args.task.now) c.args.from c.in-Some.part c.args.hand.now c.read_part.new.hand c.in-Some.ensures.next.0 c.in-Err.ensures.makes

pub returns-in-Ok-read_from-clause-makes : goal.returns-in-Ok-read_from-clause-makes
returns-in-Ok-read_from-clause-makes g n c = parts_on g.H.Hand.makes (task_call c.args.task.now) c.args.from c.in-Some.part c.args.hand.now c.read_part.new.hand c.read_from.new.hand c.in-Some.ensures.next.0 c.in-Ok.ensures.makes c.in-Ok-read_from.ensures.makes

pub returns-in-Err-read_from-clause-makes : goal.returns-in-Err-read_from-clause-makes
returns-in-Err-read_from-clause-makes g n c = parts_on g.H.Hand.makes (task_call c.args.task.now) c.args.from c.in-Some.part c.args.hand.now c.read_part.new.hand c.read_from.new.hand c.in-Some.ensures.next.0 c.in-Ok.ensures.makes c.in-Err-read_from.ensures.makes

pub returns-in-Err-clause-in_order : goal.returns-in-Err-clause-in_order
returns-in-Err-clause-in_order g n c = λ always served is. c.in-Err.ensures.in_order always (λ page. served c.in-Some.part page c.in-Some.ensures.next.0.read) is

pub returns-in-Err-read_from-clause-in_order : goal.returns-in-Err-read_from-clause-in_order
returns-in-Err-read_from-clause-in_order g n c = λ always served is. c.in-Err-read_from.ensures.in_order (c.in-Ok.ensures.works always) (pins_still (g.H.Hand.serves c.args.hand.now) (g.H.Hand.serves c.read_part.new.hand) (task_call c.args.task.now) c.in-Ok.ensures.serves served) is

pub returns-in_default-clause-makes : goal.returns-in_default-clause-makes
returns-in_default-clause-makes g n c = ([], refl, reads_none c.args.from)

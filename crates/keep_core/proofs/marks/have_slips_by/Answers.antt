use Rattle.std.proofs.Common.{◌∙◌, ap, arith, length}
use Rattle.keep_core.proofs.Marking.{marked_length, slips_marked}
use Rattle.keep_core.proofs.marks.have_slips_by.Goals as goal

pub are_marked-requires : goal.are_marked-requires
are_marked-requires c = omega (arith, c.requires.room, ap length c.mark_all.ensures, marked_length c.clear.new.row c.args.slips.now, c.clear.ensures.each)

pub returns-clause-each : goal.returns-clause-each
returns-clause-each c = ap length c.mark_all.ensures ∙ marked_length c.clear.new.row c.args.slips.now ∙ c.clear.ensures.each

pub returns-clause-all : goal.returns-clause-all
returns-clause-all c =
    let all = slips_marked c.clear.new.row c.mark_all.new.row c.args.history.now c.args.slips.now c.mark_all.ensures (omega (arith, c.requires.room, c.clear.ensures.each)) c.clear.ensures.cleared in
    (λ is. all.0 (c.are_marked.ensures.0 is), λ have. c.are_marked.ensures.1 (all.1 have))

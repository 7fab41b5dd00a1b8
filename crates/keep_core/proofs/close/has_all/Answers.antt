use Rattle.std.proofs.Common.{◌∙◌, ap, arith, length}
use Rattle.keep_core.proofs.Few.{few_entries}
use Rattle.keep_core.proofs.KeepEnding.{has_all_by}
use Rattle.keep_core.proofs.close.has_all.Goals as goal

pub have_slips-requires : goal.have_slips-requires
have_slips-requires c = record { few = omega (arith, few_entries c.args.desk.now c.history-history.ensures.sound, ap length c.history-history.ensures.history) }

pub returns-clause-all : goal.returns-clause-all
returns-clause-all c =
    has_all_by c.args.name.now c.args.opening.now c.args.slips.now c.args.desk.now c.history-history.ensures.history (c.object.ensures.same ∙ c.accepted.ensures) (c.is_same_name.ensures.0 c.if-not-is_same_name.false) (c.began_with-begun.ensures.0 c.if-not-begun.false) c.have_slips.ensures

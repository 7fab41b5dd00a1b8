use Rattle.std.proofs.Common.{sym, ◌∙◌, subst}
use Rattle.std.proofs.lemmas.Bool.{false≢true}
use Rattle.apply_core.specs.Fits.{HoldsReads}
use Rattle.audit_core.specs.View.{told_view}
use Rattle.audit_core.proofs.Replaying.{judged}
use Rattle.audit_core.proofs.replay.is_done_so.Goals as goal

pub returns-then-not-all_fit : goal.returns-then-not-all_fit
returns-then-not-all_fit c = λ fit held.
    absurd (false≢true (sym c.if-not-all_fit.true ∙ c.all_fit.ensures.1 (subst (HoldsReads c.args.operation.now) (sym c.deref.ensures.value) held)))

pub apply_all-requires-clause-held : goal.apply_all-requires-clause-held
apply_all-requires-clause-held c = subst (HoldsReads c.args.operation.now) c.deref.ensures.value (c.all_fit.ensures.0 c.if-not-all_fit.false)

pub returns-in-Ok : goal.returns-in-Ok
returns-in-Ok c =
    judged c.args.operation.now c.args.arguments.now (told_view c.args.told.now) c.in-Ok.given c.args.parts.now.items c.apply_all.new.parts.items c.is_same.result
    (record { tells = c.in-Ok.ensures.reply; leaves = c.in-Ok.ensures.parts; kinds = c.in-Ok.ensures.kinds }) c.is_same.ensures

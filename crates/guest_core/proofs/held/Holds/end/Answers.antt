use Rattle.decl_core.specs.HoldMap.{holds_of}
use Rattle.guest_core.specs.Held.{begun, ended_so, hold_ended}
use Rattle.guest_core.specs.Views.{called_of}
use Rattle.std.proofs.Common.{◌∙◌, sym, ap, length}
use Rattle.guest_core.proofs.Ending.{end_is}
use Rattle.guest_core.proofs.held.Holds.end.Goals as goal

pub returns-in-Some-clause-ended : goal.returns-in-Some-clause-ended
returns-in-Some-clause-ended c =
    end_is (ended_so c.args.ends c.args.reply.now (hold_ended (holds_of c.args.holds.now) (called_of c.args.call).operation)) (called_of c.args.call) c.in-Some.rule _ c.args.self.now _ _ (begun (holds_of c.args.holds.now) (called_of c.args.call) c.args.reply.now)
    (sym (c.ended_so-ended.ensures ∙ ap (ended_so c.args.ends c.args.reply.now) c.hold_ended.ensures.value) ∙ c.in-Some.is) (ap length c.all-count.ensures) c.in_ok-begin.ensures.more c.give.ensures

use Rattle.std.proofs.Common.{subst}
use Rattle.std.specs.Prelude.{All}
use Rattle.value_core.specs.Datum.{IsDatum}
use Rattle.live_core.proofs.Keeping.{Replied, did}
use Rattle.live_core.proofs.hosted.Hosted.call.Goals as goal

pub returns-in_ok-remember_all-in-Ok : goal.returns-in_ok-remember_all-in-Ok
returns-in_ok-remember_all-in-Ok c =
    did c.args.self.now c.look_back.new.self c.submit.new.self c.tell_ran.new.self c.remember_all.new.self c.args.session c.args.operation c.args.arguments.items
    (record { number = c.in-Ok.taken.number; ran = c.in-Ok.taken.ran }) c.deref-in-Ok-2.result.now c.deref-in-Ok-3.result.now c.args.lines.now.items c.tell_ran.new.lines.items
    c.look_back.ensures c.in-Ok.ensures.ok c.tell_ran.ensures.same c.deref-in-Ok-2.ensures.value c.deref-in-Ok-3.ensures.value
    c.in_ok-tell_ran-in-Ok.ensures.added c.in_ok-remember_all-in-Ok.ensures.remembered c.in_ok-remember_all-in-Ok.ensures.left
    (subst (All IsDatum) c.deref.ensures.value c.are_data.ensures) (subst Replied c.deref-in-Ok.ensures.value c.reply_data.ensures)

use Rattle.std.proofs.Common.{◌∙◌, ap, subst, Option, Result, Some}
use Rattle.guest_core.specs.declared.guests.Entered.{Entered}
use Rattle.guest_core.specs.declared.guests.EnterFault.{EnterFault}
use Rattle.client_core.specs.State.{peers_of}
use Rattle.table_core.specs.Objects.{EntersAt}
use Rattle.table_core.proofs.Entering.{comes_in}
use Rattle.client_core.specs.Views.{custodies_of}
use Rattle.table_core.proofs.table.Table.come.Goals as goal

pub returns-in_ok-add-in-Some-Ok : goal.returns-in_ok-add-in-Some-Ok
returns-in_ok-add-in-Some-Ok c = comes_in (custodies_of c.args.self.now.custody) c.args.post.now c.add.new.self c.args.self.now.objects.items c.enter_at.new.objects.items (peers_of c.args.self.now.clients) c.args.at
    c.args.self.now.second c.args.client.now c.enter_at.new.line.items c.deref.result.now c.in-Some-Ok.entered
    (subst (λ (r : Option (Result Entered EnterFault)). EntersAt c.args.self.now.objects.items c.args.at c.args.client.now c.args.self.now.second r c.enter_at.new.line.items c.enter_at.new.objects.items)
    (c.in-Some-Ok.is ∙ ap Some c.in-Some-Ok.field-0-is) c.in_ok-enter_at.ensures)
    c.deref.ensures.value c.in_ok-add-in-Some-Ok.ensures

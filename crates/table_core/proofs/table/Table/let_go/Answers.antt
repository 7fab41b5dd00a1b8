use Rattle.std.proofs.Common.{subst, Option, ℕ}
use Rattle.client_core.specs.State.{peers_of}
use Rattle.table_core.specs.Objects.{CancelsAt}
use Rattle.table_core.proofs.Cancelling.{lets_go_some}
use Rattle.client_core.specs.Views.{custodies_of}
use Rattle.table_core.proofs.table.Table.let_go.Goals as goal

pub returns-in_ok-add-in-Some : goal.returns-in_ok-add-in-Some
returns-in_ok-add-in-Some c = lets_go_some (custodies_of c.args.self.now.custody) c.args.post.now c.add.new.self c.args.self.now.objects.items c.cancel_at.new.objects.items (peers_of c.args.self.now.clients) c.args.at c.args.session
    c.in-Some.told c.cancel_at.new.line.items c.deref.result.now
    (subst (λ (r : Option ℕ). CancelsAt c.args.self.now.objects.items c.args.at c.args.session r c.cancel_at.new.line.items c.cancel_at.new.objects.items) c.in-Some.is c.in_ok-cancel_at.ensures)
    c.deref.ensures.value c.in_ok-add-in-Some.ensures

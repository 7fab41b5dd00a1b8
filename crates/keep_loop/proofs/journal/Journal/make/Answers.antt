use Rattle.std.proofs.Common.{◌≡◌, ◌+◌, ◌++◌, sym, ◌∙◌, ap, subst}
use Rattle.std.proofs.lemmas.List.{append-nil}
use Rattle.keep_loop.specs.Device.{LeavesOnly}
use Rattle.keep_loop.specs.Taken.{TellsBetween}
use Rattle.keep_loop.specs.Order.{Holds}
use Rattle.keep_loop.specs.Run.{added_by}
use Rattle.keep_loop.proofs.Lines.{begins_self}
use Rattle.keep_loop.proofs.KeptTold.{told_begins}
use Rattle.keep_loop.proofs.Runs.{on_ok_leads}
use Rattle.keep_loop.proofs.journal.Journal.make.Goals as goal

pub returns-in-Lines-clause-holds : goal.returns-in-Lines-clause-holds
returns-in-Lines-clause-holds g c =
    let is : added_by c.args.step.now ≡ c.deref.result.now = ap added_by c.in-Lines.is ∙ sym c.deref.ensures.value in
    on_ok_leads c.append.result
    (λ holds stored text h. record {
      now_stored = stored;
      front = begins_self stored;
      holds = subst (λ l. Holds g.D.Device.seen c.append.new.self stored (text ++ l)) (sym is) (holds stored text h);
    }) c.append.ensures.added

pub returns-in-Lines-clause-any_moment : goal.returns-in-Lines-clause-any_moment
returns-in-Lines-clause-any_moment g c stored text h =
    let is : added_by c.args.step.now ≡ c.deref.result.now = ap added_by c.in-Lines.is ∙ sym c.deref.ensures.value in
    subst (λ l. LeavesOnly g.D.Device.moment g.D.Device.left_since c.args.self.now.device c.append.new.self.device (λ f. TellsBetween stored (text ++ l) f)) (sym is)
    (c.append.ensures.any_moment stored text h)

pub returns-in-Sync-clause-holds : goal.returns-in-Sync-clause-holds
returns-in-Sync-clause-holds g c =
    on_ok_leads c.sync.result
    (λ holds stored text h. record {
      now_stored = text;
      front = told_begins h.file _ c.args.self.now.stored c.args.self.now.size (c.args.self.now.room + c.args.self.now.checks) c.args.self.now.crc (c.requires.in_order.stands h.file h.known) (c.requires.in_order.checks h.file h.known) stored text h.lines_are h.stored_are;
      holds = subst (λ l. Holds g.D.Device.seen c.sync.new.self text l) (sym (ap (λ s. text ++ added_by s) c.in-Sync.is ∙ append-nil text)) (holds stored text h);
    }) c.sync.ensures.stored

pub returns-in-Sync-clause-any_moment : goal.returns-in-Sync-clause-any_moment
returns-in-Sync-clause-any_moment g c stored text h =
    subst (λ l. LeavesOnly g.D.Device.moment g.D.Device.left_since c.args.self.now.device c.sync.new.self.device (λ f. TellsBetween stored l f))
    (sym (ap (λ s. text ++ added_by s) c.in-Sync.is ∙ append-nil text)) (c.sync.ensures.any_moment stored text h)

use Rattle.std.proofs.Common.{◌≡◌, ◌∙◌, ap, sym, subst, List, Some, slice_get}
use Rattle.client_core.specs.declared.client.OpenObject.{OpenObject}
use Rattle.live_core.specs.Scene.{Scene}
use Rattle.live_core.specs.declared.call.Ran.{Ran}
use Rattle.client_core.specs.State.{change, opening, peers_of}
use Rattle.client_core.specs.Asked.{AllEnd}
use Rattle.table_core.specs.Brings.{Brings}
use Rattle.table_core.specs.Seen.{seen, state_of}
use Rattle.table_core.proofs.Submitting.{taken_by}
use Rattle.client_core.specs.Views.{custodies_of}
use Rattle.table_core.proofs.table.Table.taken.Goals as goal

pub returns-clause-brings : goal.returns-clause-brings
returns-clause-brings c = λ object there.
    taken_by (custodies_of c.args.self.now.custody) c.args.post.now c.tell_line.new.post c.all_ended.new.post c.args.self.now.objects.items c.args.self.now.clients c.open_called.new.clients (seen c.all_ended.new.self) c.args.place
    c.told_at-told.result c.args.seat c.args.taken.now object
    (c.told_at-told.ensures object (subst (λ (l : List Scene). slice_get l c.args.seat.object ≡ Some object) (sym c.deref.ensures.value) there))
    c.in_ok-tell_line.ensures
    (c.open_called.ensures ∙ ap (λ (o : OpenObject). change (peers_of c.args.self.now.clients) c.args.place (opening o)) c.counted.ensures)
    (subst (λ (l : List Ran). Brings (AllEnd c.args.seat.object object l) c.tell_line.new.post (state_of (custodies_of c.args.self.now.custody) c.args.self.now.objects.items c.open_called.new.clients) c.all_ended.new.post (seen c.all_ended.new.self))
    c.deref-2.ensures.value (c.in_ok-all_ended.ensures.brings object there))

use Rattle.std.proofs.Common.{sym, subst, List, Some, slice_get, ◌≡◌}
use Rattle.session_text.specs.declared.line.ReplyLine.TheVariants as lines
use Rattle.session_text.specs.declared.line.LineRefusal.TheVariants as refusals
use Rattle.live_core.specs.Scene.{Scene}
use Rattle.table_core.specs.Seen.{seen}
use Rattle.table_core.proofs.Cancelling.{cancel_refused, cancels_by}
use Rattle.table_core.proofs.table.Table.cancel.Goals as goal

pub returns-in_default : goal.returns-in_default
returns-in_default c = cancel_refused c.args.post.now c.refuse.new.post (seen c.args.self.now) (seen c.refuse.new.self) c.args.place c.args.told (lines.Refused refusals.NotOpen) tt c.in_ok-refuse.ensures

pub returns-in_ok-cancel_one-in-Ok : goal.returns-in_ok-cancel_one-in-Ok
returns-in_ok-cancel_one-in-Ok c = cancels_by c.args.post.now c.cancel_one.new.post (seen c.args.self.now) (seen c.cancel_one.new.self) c.args.place c.args.told c.in-Ok.session c.in-Some.opened c.in-Some.ensures
    (λ object there. c.in-Ok.ensures.ok object (subst (λ (l : List Scene). slice_get l c.in-Some.opened.object ≡ Some object) (sym c.deref.ensures.value) there))
    c.in_ok-cancel_one-in-Ok.ensures

use Rattle.std.proofs.Common.{◌∙◌, ap, subst, List, slice_get}
use Rattle.value_core.specs.declared.datum.Datum.{Datum}
use Rattle.session_text.specs.declared.line.ReplyLine.TheVariants as lines
use Rattle.session_text.specs.declared.line.LineRefusal.TheVariants as refusals
use Rattle.live_core.specs.Keys.{Says}
use Rattle.live_core.specs.Scene.{Scene}
use Rattle.table_core.specs.Seen.{seen}
use Rattle.table_core.proofs.Submitting.{key_new, key_refused}
use Rattle.table_core.proofs.table.Table.call_under.Goals as goal

pub returns-in_default : goal.returns-in_default
returns-in_default c = key_refused c.args.post.now c.refuse.new.post (seen c.args.self.now) (seen c.refuse.new.self) c.args.asker.place c.args.key c.args.asker.opened c.args.operation c.args.arguments.items
    (lines.Refused refusals.NoObject) tt c.in_ok-refuse.ensures

pub returns-then-is_new : goal.returns-then-is_new
returns-then-is_new c = key_new c.args.post.now c.ask_new.new.post (seen c.args.self.now) (seen c.ask_new.new.self) c.args.asker.place c.args.key c.args.asker.opened
    c.session_by.result c.args.operation c.args.arguments.items c.in-Some.keyed c.session_by.ensures
    (λ object there. subst (λ (l : List Datum). Says object c.session_by.result c.args.asker.opened.calls c.args.key c.args.operation l c.in-Some.keyed)
    c.deref-2.ensures.value
    (c.in-Some.ensures object (ap (λ (l : List Scene). slice_get l c.args.asker.opened.object) c.deref.ensures.value ∙ there)))
    (c.is_new.ensures.yes c.if-is_new.true) c.in_ok-ask_new.ensures

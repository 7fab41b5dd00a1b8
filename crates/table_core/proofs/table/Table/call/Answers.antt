use Rattle.session_text.specs.declared.line.ReplyLine.TheVariants as lines
use Rattle.session_text.specs.declared.line.LineRefusal.TheVariants as refusals
use Rattle.std.proofs.Common.{sym, subst, List, Option, ℕ}
use Rattle.live_core.specs.Scene.{Scene}
use Rattle.client_core.specs.Asked.{AnswersCall}
use Rattle.table_core.specs.Brings.{Brings}
use Rattle.table_core.specs.Objects.{HasOperation}
use Rattle.table_core.specs.Seen.{seen}
use Rattle.table_core.proofs.Submitting.{call_refused, call_plain, call_keyed}
use Rattle.table_core.proofs.table.Table.call.Goals as goal

pub returns-in_default : goal.returns-in_default
returns-in_default c = call_refused c.args.post.now c.refuse.new.post (seen c.args.self.now) (seen c.refuse.new.self) c.args.place c.args.key c.args.name.now c.args.arguments.items
    (lines.Refused refusals.NotOpen) tt c.in_ok-refuse.ensures

pub returns-in_default-operation_at : goal.returns-in_default-operation_at
returns-in_default-operation_at c = call_refused c.args.post.now c.refuse-in_default-operation_at.new.post (seen c.args.self.now) (seen c.refuse-in_default-operation_at.new.self) c.args.place c.args.key c.args.name.now
    c.args.arguments.items (lines.Refused refusals.NoObject) tt c.in_ok-refuse-2.ensures

pub returns-in_ok-ask_new-in-None : goal.returns-in_ok-ask_new-in-None
returns-in_ok-ask_new-in-None c = subst (λ (k : Option ℕ). Brings (AnswersCall c.args.place k c.args.name.now c.args.arguments.items) c.args.post.now (seen c.args.self.now) c.ask_new.new.post (seen c.ask_new.new.self)) (sym c.in-None.is)
    (call_plain c.args.post.now c.ask_new.new.post (seen c.args.self.now) (seen c.ask_new.new.self) c.args.place c.in-Some-operation_at.operation c.args.name.now c.args.arguments.items
    c.in-Some.opened c.in-Some.ensures (subst (λ (l : List Scene). HasOperation l c.in-Some.opened.object c.in-Some-operation_at.operation c.args.name.now) c.deref.ensures.value c.in-Some-operation_at.ensures) c.in_ok-ask_new-in-None.ensures)

pub returns-in_ok-call_under-in-Some-key : goal.returns-in_ok-call_under-in-Some-key
returns-in_ok-call_under-in-Some-key c = subst (λ (k : Option ℕ). Brings (AnswersCall c.args.place k c.args.name.now c.args.arguments.items) c.args.post.now (seen c.args.self.now) c.call_under.new.post (seen c.call_under.new.self)) (sym c.in-Some-key.is)
    (call_keyed c.args.post.now c.call_under.new.post (seen c.args.self.now) (seen c.call_under.new.self) c.args.place c.in-Some-key.key c.in-Some-operation_at.operation c.args.name.now
    c.args.arguments.items c.in-Some.opened c.in-Some.ensures (subst (λ (l : List Scene). HasOperation l c.in-Some.opened.object c.in-Some-operation_at.operation c.args.name.now) c.deref.ensures.value c.in-Some-operation_at.ensures) c.in_ok-call_under-in-Some-key.ensures)

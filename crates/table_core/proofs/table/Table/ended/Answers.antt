use Rattle.std.proofs.Common.{◌≡◌, ◌∙◌, ap, sym, subst, List, ℕ, Some, slice_get}
use Rattle.live_core.specs.Scene.{Scene, told_of}
use Rattle.session_text.specs.Lines.{ended_text}
use Rattle.table_core.proofs.Submitting.{ends_nowhere_as}
use Rattle.client_core.specs.Views.{custodies_of}
use Rattle.table_core.proofs.table.Table.ended.Goals as goal

pub returns-in-None-clause-brings : goal.returns-in-None-clause-brings
returns-in-None-clause-brings c = λ object there.
    let told = c.told_at-told.ensures object (subst (λ (l : List Scene). slice_get l c.args.at ≡ Some object) (sym c.deref.ensures.value) there) in
    ends_nowhere_as (custodies_of c.args.self.now.custody) c.args.post.now c.args.self.now.objects.items c.args.self.now.clients c.args.at c.args.ran.now.call.session c.session-session.result
    (told_of object c.args.ran.now.call.number) c.told_at-told.result (ended_text (told_of object c.args.ran.now.call.number) c.args.ran.now.reply)
    c.session-session.ensures (told ∙ ap (λ (n : ℕ). told_of object n) c.number.ensures) c.in-None.ensures.none

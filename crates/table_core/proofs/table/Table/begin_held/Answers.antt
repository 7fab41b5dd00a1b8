use Rattle.std.proofs.Common.{◌∙◌, ap, ℕ, List, ◌++◌, slice_get}
use Rattle.live_core.specs.Scene.{Scene}
use Rattle.client_core.specs.Custody.{held_lines_in}
use Rattle.table_core.proofs.Settling.{begins_held}
use Rattle.client_core.specs.Views.{custodies_of}
use Rattle.table_core.proofs.table.Table.begin_held.Goals as goal

pub returns : goal.returns
returns c = λ yes. begins_held (custodies_of c.args.self.now.custody) c.args.self.now.objects.items c.begin_at.new.objects.items c.args.self.now.clients c.args.at c.args.text.now
    c.in-Some.front.now c.deref-2.result.now c.requires
    (c.deref-2.ensures.value ∙ c.in_ok-push_lines.ensures
    ∙ ap (λ (l : List ℕ). l ++ held_lines_in (custodies_of c.args.self.now.custody) c.args.at (slice_get c.deref.result.now c.args.at)) c.new-lines.ensures.items
    ∙ ap (λ (l : List Scene). held_lines_in (custodies_of c.args.self.now.custody) c.args.at (slice_get l c.args.at)) c.deref.ensures.value)
    c.in-Some.ensures (c.begin_at.ensures.begun yes)

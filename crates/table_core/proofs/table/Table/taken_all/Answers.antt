use Rattle.std.proofs.Common.{◌∙◌, ap, List, slice_get}
use Rattle.live_core.specs.Scene.{Scene}
use Rattle.table_core.specs.Seen.{seen}
use Rattle.table_core.proofs.Settling.{tells_all, taken_same}
use Rattle.table_core.proofs.table.Table.taken_all.Goals as goal

pub returns-clause-brings : goal.returns-clause-brings
returns-clause-brings c = λ object there.
    let told = c.in_ok-taken.ensures.brings object there in
    tells_all c.args.post.now c.taken.new.post (seen c.args.self.now) (seen c.taken.new.self) (seen c.follow.new.self) c.args.place c.args.seat c.args.taken.now object told
    (c.in_ok-follow.ensures.follows object
    (ap (λ (l : List Scene). slice_get l c.args.seat.object)
    (taken_same c.args.post.now c.taken.new.post (seen c.args.self.now) (seen c.taken.new.self) c.args.place c.args.seat c.args.taken.now object told) ∙ there))

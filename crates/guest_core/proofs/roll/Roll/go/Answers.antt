use Rattle.guest_core.proofs.Changing.{here, went_not}
use Rattle.guest_core.proofs.roll.Roll.go.Goals as goal

pub returns-clause-none : goal.returns-clause-none
returns-clause-none c =
    let items = c.self.inside.guests.items in
    let there = here items c.args.self.now c.args.place c.index_mut.result.now c.self.view_is c.requires c.index_mut.ensures.value in
    went_not c.go.result items c.args.self.now c.args.place c.index_mut.result.now c.go.new.guest c.self.view_is there c.go.ensures.none

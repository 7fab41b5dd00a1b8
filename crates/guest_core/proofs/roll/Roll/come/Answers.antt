use Rattle.std.proofs.Common.{◌≤◌, bytes_eq, sym, subst}
use Rattle.std.proofs.Math.ListN.{length-set}
use Rattle.indexmap.specs.IndexMap.{get}
use Rattle.guest_core.proofs.Changing.{here, came, came_not}
use Rattle.guest_core.proofs.Finding.{found_changed, known_changed}
use Rattle.guest_core.proofs.roll.Roll.come.Goals as goal

pub invariant_of-self : goal.invariant_of-self
invariant_of-self c =
    let items = c.self.inside.guests.items in
    let there = here items c.args.self.now c.args.place c.index_mut.result.now c.self.view_is c.requires c.index_mut.ensures.value in
    let find = get bytes_eq c.self.inside.places in
    record {
      found = found_changed items find c.args.place c.index_mut.result.now c.come.new.guest c.self.invariant.found there c.come.ensures.name;
      known = known_changed items find c.args.place c.index_mut.result.now c.come.new.guest c.self.invariant.known there c.come.ensures.name;
      few = subst (λ n. n ≤ 65535) (sym (length-set items c.args.place c.come.new.guest)) c.self.invariant.few;
    }

pub returns-clause-some : goal.returns-clause-some
returns-clause-some c =
    let items = c.self.inside.guests.items in
    let there = here items c.args.self.now c.args.place c.index_mut.result.now c.self.view_is c.requires c.index_mut.ensures.value in
    came c.come.result items c.args.self.now c.args.place c.index_mut.result.now c.come.new.guest c.self.view_is there c.come.ensures.some

pub returns-clause-none : goal.returns-clause-none
returns-clause-none c =
    let items = c.self.inside.guests.items in
    let there = here items c.args.self.now c.args.place c.index_mut.result.now c.self.view_is c.requires c.index_mut.ensures.value in
    came_not c.come.result items c.args.self.now c.args.place c.index_mut.result.now c.come.new.guest c.self.view_is there c.come.ensures.none

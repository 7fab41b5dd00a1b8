use Rattle.std.proofs.Common.{◌≤◌, bytes_eq, sym, ap, subst}
use Rattle.std.proofs.Math.ListN.{length-set}
use Rattle.indexmap.specs.IndexMap.{get}
use Rattle.guest_core.specs.declared.guest.Guest.{Guest}
use Rattle.guest_core.proofs.Changing.{here, restarted, was_session}
use Rattle.guest_core.proofs.Finding.{found_changed, known_changed}
use Rattle.guest_core.proofs.roll.Roll.restart.Goals as goal

pub invariant_of-self : goal.invariant_of-self
invariant_of-self c =
    let items = c.self.inside.guests.items in
    let there = here items c.args.self.now c.args.place c.index_mut.result.now c.self.view_is c.requires.within c.index_mut.ensures.value in
    let find = get bytes_eq c.self.inside.places in
    record {
      found = found_changed items find c.args.place c.index_mut.result.now c.restart.new.guest c.self.invariant.found there (ap (λ (g : Guest). g.name) c.restart.ensures.new);
      known = known_changed items find c.args.place c.index_mut.result.now c.restart.new.guest c.self.invariant.known there (ap (λ (g : Guest). g.name) c.restart.ensures.new);
      few = subst (λ n. n ≤ 65535) (sym (length-set items c.args.place c.restart.new.guest)) c.self.invariant.few;
    }

pub returns-clause-ok : goal.returns-clause-ok
returns-clause-ok c =
    let items = c.self.inside.guests.items in
    let there = here items c.args.self.now c.args.place c.index_mut.result.now c.self.view_is c.requires.within c.index_mut.ensures.value in
    restarted items c.args.self.now c.args.place c.args.session c.args.first c.args.away c.in_ok-keys.keys c.index_mut.result.now c.restart.new.guest c.self.view_is there c.in_ok-keys.ensures c.restart.ensures.new

pub returns-clause-old : goal.returns-clause-old
returns-clause-old c =
    let items = c.self.inside.guests.items in
    let there = here items c.args.self.now c.args.place c.index_mut.result.now c.self.view_is c.requires.within c.index_mut.ensures.value in
    was_session items c.args.self.now c.args.place c.restart.result c.index_mut.result.now c.self.view_is there c.restart.ensures.old

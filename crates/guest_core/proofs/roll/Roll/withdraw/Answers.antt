use Rattle.std.proofs.Common.{◌≤◌, bytes_eq, sym, ap, subst}
use Rattle.std.proofs.Math.ListN.{length-set}
use Rattle.indexmap.specs.IndexMap.{get}
use Rattle.guest_core.specs.declared.guest.Guest.{Guest}
use Rattle.guest_core.specs.Keys.{withdrawn}
use Rattle.guest_core.proofs.Changing.{here, set_at}
use Rattle.guest_core.proofs.Finding.{found_changed, known_changed}
use Rattle.guest_core.proofs.roll.Roll.withdraw.Goals as goal

pub invariant_of-self : goal.invariant_of-self
invariant_of-self c =
    let items = c.self.inside.guests.items in
    let there = here items c.args.self.now c.args.place c.index_mut.result.now c.self.view_is c.requires c.index_mut.ensures.value in
    let find = get bytes_eq c.self.inside.places in
    record {
      found = found_changed items find c.args.place c.index_mut.result.now c.withdraw.new.guest c.self.invariant.found there (ap (λ (g : Guest). g.name) c.withdraw.ensures);
      known = known_changed items find c.args.place c.index_mut.result.now c.withdraw.new.guest c.self.invariant.known there (ap (λ (g : Guest). g.name) c.withdraw.ensures);
      few = subst (λ n. n ≤ 65535) (sym (length-set items c.args.place c.withdraw.new.guest)) c.self.invariant.few;
    }

pub returns : goal.returns
returns c =
    let items = c.self.inside.guests.items in
    let there = here items c.args.self.now c.args.place c.index_mut.result.now c.self.view_is c.requires c.index_mut.ensures.value in
    set_at items c.args.self.now c.args.place c.index_mut.result.now c.withdraw.new.guest (λ g. record g { keys = withdrawn g.keys }) c.self.view_is there c.withdraw.ensures

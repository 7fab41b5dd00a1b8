use Rattle.std.proofs.Common.{◌≤◌, None, bytes_eq, sym, ap, subst}
use Rattle.std.proofs.Math.ListN.{length-set}
use Rattle.indexmap.specs.IndexMap.{get}
use Rattle.guest_core.specs.declared.guest.Guest.{Guest}
use Rattle.guest_core.specs.Keys.{Ends}
use Rattle.guest_core.proofs.Changing.{here, keys_set}
use Rattle.guest_core.proofs.Finding.{found_changed, known_changed}
use Rattle.guest_core.proofs.roll.Roll.cancel.Goals as goal

pub invariant_of-self : goal.invariant_of-self
invariant_of-self c =
    let items = c.self.inside.guests.items in
    let there = here items c.args.self.now c.args.place c.index_mut.result.now c.self.view_is c.requires c.index_mut.ensures.value in
    let find = get bytes_eq c.self.inside.places in
    record {
      found = found_changed items find c.args.place c.index_mut.result.now c.cancel.new.guest c.self.invariant.found there (ap (λ (g : Guest). g.name) c.cancel.ensures.2);
      known = known_changed items find c.args.place c.index_mut.result.now c.cancel.new.guest c.self.invariant.known there (ap (λ (g : Guest). g.name) c.cancel.ensures.2);
      few = subst (λ n. n ≤ 65535) (sym (length-set items c.args.place c.cancel.new.guest)) c.self.invariant.few;
    }

pub returns : goal.returns
returns c =
    let items = c.self.inside.guests.items in
    let there = here items c.args.self.now c.args.place c.index_mut.result.now c.self.view_is c.requires c.index_mut.ensures.value in
    keys_set items c.args.self.now c.args.place c.index_mut.result.now c.cancel.new.guest (λ before after. Ends before c.args.told None c.cancel.result after) c.self.view_is there c.cancel.ensures

use Rattle.std.proofs.Common.{◌≡◌, ◌≢◌, ◌≤◌, ◌∙◌, ℕ, List, Some, bytes_eq, sym, ap, subst}
use Rattle.std.specs.Prelude.{slice_get}
use Rattle.std.proofs.Math.ListN.{length-set}
use Rattle.indexmap.specs.IndexMap.{get}
use Rattle.guest_core.specs.declared.guest.Guest.{Guest}
use Rattle.guest_core.proofs.Changing.{here, was_session}
use Rattle.guest_core.proofs.Finding.{replaced}
use Rattle.guest_core.proofs.roll.Roll.replace.Goals as goal

pub invariant_of-self-2 : goal.invariant_of-self-2
invariant_of-self-2 c =
    let items = c.self.inside.guests.items in
    let there = here items c.args.self.now c.args.place c.index_mut.result.now c.self.view_is c.requires.within c.index_mut.ensures.value in
    let unknown = subst (λ (gs : List Guest). (p : ℕ) (h : Guest) → slice_get gs p ≡ Some h → h.name ≢ c.args.name.now) (sym c.self.view_is) c.requires.new in
    let all = replaced items (get bytes_eq c.self.inside.places) (get bytes_eq c.put.new.places) (get bytes_eq c.forget.new.places) c.args.place c.index_mut.result.now c.replace-old.result c.replace-old.new.dest c.in_ok-key.key c.args.name.now
    c.self.invariant.found c.self.invariant.known there c.replace-old.ensures.value unknown c.in_ok-key.ensures (ap (λ (g : Guest). g.name) c.replace-old.ensures.after ∙ c.in_ok-own.ensures) c.in_ok-put.ensures.ok c.forget.ensures in
    record { found = all.0; known = all.1; few = subst (λ n. n ≤ 65535) (sym (length-set items c.args.place c.replace-old.new.dest)) c.self.invariant.few }

pub returns-clause-old : goal.returns-clause-old
returns-clause-old c =
    let items = c.self.inside.guests.items in
    let there = here items c.args.self.now c.args.place c.index_mut.result.now c.self.view_is c.requires.within c.index_mut.ensures.value in
    was_session items c.args.self.now c.args.place c.replace-old.result.session c.index_mut.result.now c.self.view_is there (ap (λ (g : Guest). g.session) c.replace-old.ensures.value)

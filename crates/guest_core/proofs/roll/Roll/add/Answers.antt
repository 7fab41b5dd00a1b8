use Rattle.std.proofs.Common.{◌≡◌, ◌≢◌, ◌<◌, ◌∙◌, ◌++◌, ◌∷◌, [], ℕ, List, Some, length, bytes_eq, sym, ap, subst, arith}
use Rattle.std.specs.Prelude.{slice_get}
use Rattle.indexmap.specs.IndexMap.{get}
use Rattle.guest_core.specs.declared.guest.Guest.{Guest}
use Rattle.guest_core.proofs.Finding.{added, one_longer}
use Rattle.guest_core.proofs.roll.Roll.add.Goals as goal

pub invariant_of-self-2 : goal.invariant_of-self-2
invariant_of-self-2 c =
    let items = c.self.inside.guests.items in
    let g : Guest = record { name = c.in_ok-own.own; session = c.args.session; away = c.args.away; keys = c.in_ok-keys.keys } in
    let is = c.push_reserved.ensures.items ∙ ap (λ (xs : List Guest). xs ++ g ∷ []) c.reserve.ensures.items in
    let unknown = subst (λ (gs : List Guest). (p : ℕ) (h : Guest) → slice_get gs p ≡ Some h → h.name ≢ c.args.name.now) (sym c.self.view_is) c.requires.new in
    let all = added items c.push_reserved.new.self.items (get bytes_eq c.self.inside.places) (get bytes_eq c.put.new.places) g c.in_ok-key.key c.args.name.now c.len-place.result
    c.self.invariant.found c.self.invariant.known is unknown c.in_ok-key.ensures c.in_ok-own.ensures (omega (arith, c.len-place.ensures, c.reserve.ensures.len, c.self.inside.guests.ok.0)) c.in_ok-put.ensures.ok in
    record { found = all.0; known = all.1; few = one_longer items c.push_reserved.new.self.items g is (subst (λ (gs : List Guest). length gs < 65535) (sym c.self.view_is) c.requires.few) }

use Rattle.std.proofs.Common.{◌≡◌, List, ℕ, sym, ap, ◌∙◌, arith}
use Rattle.device_core.specs.declared.hand.Stamp.{Stamp}
use Rattle.page_core.specs.PartPins.{pins_by}
use Rattle.page_core.proofs.PartRows.{same_rows}
use Rattle.page_core.proofs.part_pins.PartPins.is_same.Goals as goal

pub returns : goal.returns
returns c = (
  λ t.
      let both = c.are_same.ensures.0 t in
      let stamps : c.self.inside.stamps.items ≡ c.other.inside.stamps.items = sym c.deref.ensures.value ∙ both.1 ∙ c.deref-2.ensures.value in
      sym c.self.view_is ∙ ap (λ (cs : List ℕ). pins_by 0 cs c.self.inside.stamps.items) both.0 ∙ ap (λ (s : List Stamp). pins_by 0 c.other.inside.counts s) stamps ∙ c.other.view_is,
  λ e.
      let rows = same_rows 0 c.self.inside.counts c.other.inside.counts c.self.inside.stamps.items c.other.inside.stamps.items (omega (arith, c.self.invariant.each, c.other.invariant.each)) c.self.invariant.counted c.other.invariant.counted (c.self.view_is ∙ e ∙ sym c.other.view_is) in
      c.are_same.ensures.1 (rows.0, c.deref.ensures.value ∙ rows.1 ∙ sym c.deref-2.ensures.value),
)

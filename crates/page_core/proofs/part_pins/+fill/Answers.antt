use Rattle.std.proofs.Common.{◌≡◌, List, [], ◌∷◌, ◌++◌, ◌+◌, ap, sym, ◌∙◌, arith, append_assoc, length-append}
use Rattle.std.proofs.lemmas.List.{append-nil, nil_from_length}
use Rattle.device_core.specs.declared.hand.Stamp.{Stamp}
use Rattle.page_core.specs.PartPins.{pins_in, put_if, added_if}
use Rattle.page_core.proofs.PartRows.{none_by, one_by}
use Rattle.page_core.proofs.part_pins.+fill.Goals as goal

pub returns-in_default-clause-filled : goal.returns-in_default-clause-filled
returns-in_default-clause-filled t c =
    let none : c.args.lists.now ≡ [] = nil_from_length c.args.lists.now c.in_default.ensures.cases in
    ([], sym (append-nil c.args.out.now.items), none_by c.args.part c.args.counts.now c.requires.none ∙ ap (λ (l : List (List Stamp)). pins_in c.args.parts c.args.part l) (sym none), c.requires.none)

pub returns-clause-filled : goal.returns-clause-filled
returns-clause-filled t c =
    let more = c.fill.ensures.filled.0 in
    let list = c.in-Some.list.now in
    let rest = c.in-Some.rest.now in
    let read = c.is_read.result in
    let first : c.args.lists.now ≡ list ∷ rest = c.in-Some.ensures.cases.0 in
    let others = pins_in c.args.parts (c.args.part + 1) rest in (
      added_if read list ++ more,
      c.fill.ensures.filled.1 ∙ ap (λ (s : List Stamp). s ++ more) c.add_if.ensures.items ∙ append_assoc c.args.out.now.items (added_if read list) more,
      one_by c.args.part read list c.add_if.result c.fill.new.counts more others c.add_if.ensures.some c.add_if.ensures.count c.fill.ensures.filled.2
          ∙ ap (λ b. put_if b (record { part = c.args.part; pages = list }) others) c.is_read.ensures
          ∙ ap (λ (l : List (List Stamp)). pins_in c.args.parts c.args.part l) (sym first),
      omega (arith, c.add_if.ensures.count, c.fill.ensures.filled.3, length-append (added_if read list) more),
    )

use Rattle.std.proofs.Common.{◌≡◌, ◌+◌, List, ◌∷◌, length, ap, sym, ◌∙◌, arith, subst}
use Rattle.std.proofs.lemmas.List.{nil_from_length}
use Rattle.page_core.specs.Cut.{together}
use Rattle.page_core.proofs.Planning.{ok_then}
use Rattle.run_core.specs.declared.judge.Change.{Change}
use Rattle.run_core.specs.CallPlanned.{ArePlansFrom}
use Rattle.run_core.proofs.Renewals.{none_at, no_room, same_from, one_from}
use Rattle.run_core.proofs.plan.+plan_from.Goals as goal

pub returns-in_default-clause-planned : goal.returns-in_default-clause-planned
returns-in_default-clause-planned t c =
    none_at c.args.before.pins.now c.args.before.read.now c.args.part c.args.changes.now c.args.counts.now c.args.planned.now.stamps.items c.args.planned.now.writes.items c.args.planned.now.gone.items
    (no_room c.args.part (c.args.part + length c.args.counts.now) c.args.changes.now (omega (arith, c.in_default.ensures.cases)) c.requires.within) c.requires.none

pub returns-in_default-split_first-clause-planned : goal.returns-in_default-split_first-clause-planned
returns-in_default-split_first-clause-planned t c =
    let first : c.args.counts.now ≡ c.in-Some.count.now ∷ c.in-Some.others.now = c.in-Some.ensures.cases.0 in
    none_at c.args.before.pins.now c.args.before.read.now c.args.part c.args.changes.now (c.in-Some.count.now ∷ c.in-Some.others.now) c.args.planned.now.stamps.items c.args.planned.now.writes.items c.args.planned.now.gone.items
    (nil_from_length c.args.changes.now c.in_default-split_first.ensures.cases) (ap together (sym first) ∙ c.requires.none)

pub returns-then-change-part-clause-planned : goal.returns-then-change-part-clause-planned
returns-then-change-part-clause-planned t c =
    let first : c.args.counts.now ≡ c.in-Some.count.now ∷ c.in-Some.others.now = c.in-Some.ensures.cases.0 in
    let zero : 0 ≡ c.in-Some.count.now = omega (arith, ap together (sym first) ∙ c.requires.none) in
    ok_then c.plan_from.result
    (λ p. subst (λ n. ArePlansFrom c.args.before.pins.now c.args.before.read.now c.args.part c.args.changes.now (n ∷ c.plan_from.new.counts) c.args.planned.now.stamps.items c.plan_from.new.planned.stamps.items c.args.planned.now.writes.items c.plan_from.new.planned.writes.items c.args.planned.now.gone.items c.plan_from.new.planned.gone.items) zero
    (same_from c.args.before.pins.now c.args.before.read.now c.args.part c.args.changes.now c.plan_from.new.counts c.args.planned.now.stamps.items c.plan_from.new.planned.stamps.items c.args.planned.now.writes.items c.plan_from.new.planned.writes.items c.args.planned.now.gone.items c.plan_from.new.planned.gone.items p))
    c.plan_from.ensures.planned

pub returns-clause-planned : goal.returns-clause-planned
returns-clause-planned t c =
    let change = c.in-Some-split_first.change.now in
    let rest = c.in-Some-split_first.rest.now in
    let first : c.args.changes.now ≡ change ∷ rest = c.in-Some-split_first.ensures.cases.0 in
    let at : change.part ≡ c.args.part = omega (arith, c.if-change-part.false) in
    ok_then c.plan_from-2.result
    (λ p. subst (λ (l : List Change). ArePlansFrom c.args.before.pins.now c.args.before.read.now c.args.part l (c.in-Ok.pages ∷ c.plan_from-2.new.counts) c.args.planned.now.stamps.items c.plan_from-2.new.planned.stamps.items c.args.planned.now.writes.items c.plan_from-2.new.planned.writes.items c.args.planned.now.gone.items c.plan_from-2.new.planned.gone.items) (sym first)
    (one_from c.args.before.pins.now c.args.before.read.now c.args.part change rest c.in-Ok.pages c.plan_from-2.new.counts c.args.planned.now.stamps.items c.plan_change.new.planned.stamps.items c.plan_from-2.new.planned.stamps.items c.args.planned.now.writes.items c.plan_change.new.planned.writes.items c.plan_from-2.new.planned.writes.items c.args.planned.now.gone.items c.plan_change.new.planned.gone.items c.plan_from-2.new.planned.gone.items at c.in-Ok.ensures p))
    c.plan_from-2.ensures.planned

use Rattle.std.proofs.Common.{◌≡◌, ◌≢◌, List, [], ◌∷◌, ◌<◌, length, arith, sym, subst}
use Rattle.std.proofs.lemmas.List.{nil_from_length}
use Rattle.device_core.specs.declared.hand.Stamp.{Stamp}
use Rattle.page_core.specs.Plans.{IsPlan}
use Rattle.page_core.proofs.Planning.{ok_then, is_none, is_some, plan_ends, plan_keeps, plan_replaces, plan_adds}
use Rattle.page_core.proofs.plan.+plan_part.Goals as goal

pub returns-then-is_empty : goal.returns-then-is_empty
returns-then-is_empty t c =
    let none : length c.args.after.now ≡ 0 = is_none (length c.args.after.now) c.is_empty.result c.is_empty.ensures c.if-is_empty.true in
    ok_then c.add_all.result (plan_ends c.args.size c.args.old.now c.args.before.now c.args.after.now c.args.planned.now.stamps.items c.args.planned.now.writes.items c.args.planned.now.gone.items c.add_all.new.gone.items none) c.add_all.ensures

pub returns-then-is_same : goal.returns-then-is_same
returns-then-is_same t c =
    let some : 0 < length c.args.after.now = is_some (length c.args.after.now) c.is_empty.result c.is_empty.ensures c.if-is_empty.false in
    let stamp = c.in-Some.stamp.now in
    let olds = c.in-Some.others.now in
    let first : c.args.old.now ≡ stamp ∷ olds = c.in-Some.ensures.cases.0 in
    let same = c.is_same.ensures.0 c.if-is_same.true in
    ok_then c.plan_part-then-is_same.result
    (λ p. subst (λ (o : List Stamp). IsPlan c.args.size o c.args.before.now c.args.after.now c.args.planned.now.stamps.items c.plan_part-then-is_same.new.planned.stamps.items c.args.planned.now.writes.items c.plan_part-then-is_same.new.planned.writes.items c.args.planned.now.gone.items c.plan_part-then-is_same.new.planned.gone.items) (sym first)
    (plan_keeps c.args.size c.args.before.now c.args.after.now c.first_page.result.0.now c.first_page.result.1.now c.requires.size some c.first_page.ensures.whole c.first_page.ensures.len
    stamp olds c.old_page.result.0.now c.old_page.result.1.now c.args.planned.now.stamps.items _ _ _ _ _ _ c.old_page.ensures.page c.old_page.ensures.rest same c.in_ok-add-in-Some.ensures p))
    c.plan_part-then-is_same.ensures

pub returns-in_ok-write_page-in-None : goal.returns-in_ok-write_page-in-None
returns-in_ok-write_page-in-None t c =
    let some : 0 < length c.args.after.now = is_some (length c.args.after.now) c.is_empty.result c.is_empty.ensures c.if-is_empty.false in
    let none : c.args.old.now ≡ [] = nil_from_length c.args.old.now (omega (arith, c.in-None.ensures.cases)) in
    let stamps = c.in_ok-write_page-in-None.ensures.stamps in
    let writes = c.in_ok-write_page-in-None.ensures.writes in
    ok_then c.plan_part.result
    (λ p. subst (λ (o : List Stamp). IsPlan c.args.size o c.args.before.now c.args.after.now c.args.planned.now.stamps.items c.plan_part.new.planned.stamps.items c.args.planned.now.writes.items c.plan_part.new.planned.writes.items c.args.planned.now.gone.items c.plan_part.new.planned.gone.items) (sym none)
    (plan_adds c.args.size c.args.before.now c.args.after.now c.first_page.result.0.now c.first_page.result.1.now c.requires.size some c.first_page.ensures.whole c.first_page.ensures.len
    stamps.0 writes.0 c.args.planned.now.stamps.items _ _ _ _ _ _ _ writes.1 writes.2 stamps.1 writes.3
    (subst (λ (o : List Stamp). IsPlan c.args.size o c.args.before.now c.first_page.result.1.now c.write_page.new.stamps.items c.plan_part.new.planned.stamps.items c.write_page.new.writes.items c.plan_part.new.planned.writes.items c.args.planned.now.gone.items c.plan_part.new.planned.gone.items) none p)))
    c.plan_part.ensures

pub returns-in_ok-write_page-in-Some : goal.returns-in_ok-write_page-in-Some
returns-in_ok-write_page-in-Some t c =
    let some : 0 < length c.args.after.now = is_some (length c.args.after.now) c.is_empty.result c.is_empty.ensures c.if-is_empty.false in
    let stamp = c.in-Some.stamp.now in
    let olds = c.in-Some.others.now in
    let first : c.args.old.now ≡ stamp ∷ olds = c.in-Some.ensures.cases.0 in
    let stamps = c.in_ok-write_page-in-Some.ensures.stamps in
    let writes = c.in_ok-write_page-in-Some.ensures.writes in
    let other : c.old_page.result.0.now ≢ c.first_page.result.0.now = λ e. let h = c.is_same.ensures.1 e in let f = c.if-is_same.false in absurd cc in
    ok_then c.plan_part-in-Some.result
    (λ p. subst (λ (o : List Stamp). IsPlan c.args.size o c.args.before.now c.args.after.now c.args.planned.now.stamps.items c.plan_part-in-Some.new.planned.stamps.items c.args.planned.now.writes.items c.plan_part-in-Some.new.planned.writes.items c.args.planned.now.gone.items c.plan_part-in-Some.new.planned.gone.items) (sym first)
    (plan_replaces c.args.size c.args.before.now c.args.after.now c.first_page.result.0.now c.first_page.result.1.now c.requires.size some c.first_page.ensures.whole c.first_page.ensures.len
    stamp stamps.0 olds c.old_page.result.0.now c.old_page.result.1.now writes.0 c.args.planned.now.stamps.items _ _ _ _ _ _ _ _ c.old_page.ensures.page c.old_page.ensures.rest other writes.1 writes.2 stamps.1 writes.3 c.in_ok-add-in-Some-2.ensures p))
    c.plan_part-in-Some.ensures
